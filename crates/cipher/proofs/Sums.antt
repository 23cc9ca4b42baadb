-- Laws of MixColumns: the double of a sum, and the image of one column with the sums that serve two rows made once and doubled. Assumes nothing.
use mathlib.Core.Path.{◌≡◌, refl, ap, ap₂, sym, ◌∙◌}
use Prim.Native.Nat.{ℕ, zero, suc, ◌*◌, ◌/◌, ◌%◌, ◌^◌, ◌<◌}
use native.Mathlib.Nat.{add-zero}
use native.Mathlib.Omega.{arith}
use lib.Bits.{bit_xor, xor_block, xor_comm, xor_lt, xor_mod, xor_self, xor_shr, xor_zero_l}
use Rattle.octets.proofs.Bits.{xor_assoc}
use Rattle.gf256.specs.Field.{◌⊕◌, ◌•◌, x_times}
use Rattle.gf256.proofs.Field.{times_two, times_three}
use Rattle.gf256.proofs.Lanes.{one, one_right}

left_comm : (x y z : ℕ) → x ⊕ (y ⊕ z) ≡ y ⊕ (x ⊕ z)
left_comm x y z = sym (xor_assoc x y z) ∙ ap (λ (w : ℕ). w ⊕ z) (xor_comm x y) ∙ xor_assoc y x z

-- what is added twice falls out
fall_out : (x y : ℕ) → x ⊕ (x ⊕ y) ≡ y
fall_out x y = sym (xor_assoc x x y) ∙ rw (xor_self, xor_zero_l)

-- the terms of a sum in one order, each once
ruleset sorted = (xor_assoc, xor_comm, left_comm, fall_out)

twice : (x y : ℕ) → (x ⊕ y) * 2 ≡ (x * 2) ⊕ (y * 2)
twice x y =
    sym (add-zero ((x ⊕ y) * 2))
    ∙ sym (xor_block 1 x y 0 0 (omega arith) (omega arith))
    ∙ ap₂ bit_xor (add-zero (x * 2)) (add-zero (y * 2))

bits : (p q : ℕ) → p < 2 → q < 2 → (p ⊕ q) * 0x1b ≡ (p * 0x1b) ⊕ (q * 0x1b)
bits zero q h l = refl
bits (suc zero) zero h l = refl
bits (suc zero) (suc zero) h l = refl
bits (suc zero) (suc (suc q)) h l = absurd (omega arith)
bits (suc (suc p)) q h l = absurd (omega arith)

one_sum : (a b : ℕ) → a < 256 → b < 256 → one (a ⊕ b) ≡ one a ⊕ one b
unfolding one
one_sum a b h l =
    ap₂ (λ (x y : ℕ). bit_xor (x * 2) (y * 0x1b)) (xor_mod a b 7) (xor_shr a b 7)
    ∙ ap₂ bit_xor (twice (a % 2 ^ 7) (b % 2 ^ 7)) (bits (a / 2 ^ 7) (b / 2 ^ 7) (omega arith) (omega arith))
    ∙ simp sorted

pub double_sum : (a b : ℕ) → a < 256 → b < 256 → x_times (a ⊕ b) ≡ x_times a ⊕ x_times b
double_sum a b h l =
    sym (one_right (a ⊕ b) (xor_lt 8 a b h l)) ∙ one_sum a b h l ∙ ap₂ bit_xor (one_right a h) (one_right b l)

module _ (a b c d : ℕ) where
  pub first : x_times a ⊕ x_times b ⊕ b ⊕ (c ⊕ d) ≡ 2 • a ⊕ 3 • b ⊕ c ⊕ d
  first = simp (times_two, times_three, sorted)

  pub second : x_times b ⊕ x_times c ⊕ a ⊕ (c ⊕ d) ≡ a ⊕ 2 • b ⊕ 3 • c ⊕ d
  second = simp (times_two, times_three, sorted)

  pub third : x_times c ⊕ x_times d ⊕ d ⊕ (a ⊕ b) ≡ a ⊕ b ⊕ 2 • c ⊕ 3 • d
  third = simp (times_two, times_three, sorted)

  pub fourth : x_times a ⊕ x_times b ⊕ (x_times b ⊕ x_times c) ⊕ (x_times c ⊕ x_times d) ⊕ c ⊕ (a ⊕ b) ≡ 3 • a ⊕ b ⊕ c ⊕ 2 • d
  fourth = simp (times_two, times_three, sorted)
