-- Laws of the mask on eight octets at once: the one computed test, of the 256 control octets, and the mask octet by octet. Assumes nothing.
use mathlib.Core.Path.{◌≡◌, refl, ap, sym, ◌∙◌}
use Prim.Native.Nat.{ℕ, ◌+◌, ◌-◌, ◌*◌, ◌%◌, ◌^◌, ◌<◌}
use native.Mathlib.Omega.{arith}
use lib.Bits.{bit_and, bit_or, bit_xor}
use lib.Dec.{T, eqb→eq}
use lib.ListN.{get_or}
use Rattle.octets.specs.Bits.{bit_of}
use Rattle.octets.proofs.Bits.{bit_below}
use Rattle.octets.proofs.Table.{at, every}
use Rattle.envelope.specs.ControlMask.{masked}
use Rattle.envelope.proofs.ControlMask.{masked_by_factor}
use Rattle.gf256.specs.Lanes.{octet_at}
use Rattle.gf256.specs.Table.{table}
use Rattle.gf256.proofs.Lanes.{octet_and, octet_below, octet_xor}
use Rattle.gf256.proofs.Table.{follows, table_at}
use Rattle.cipher.specs.RowWords.{Four, Eight}
use Rattle.cipher.proofs.RowWords.{eight, four_octets, both_octets}

---- the octets that are data

-- 255 where octet j is data, 0 where it is a control character
abbrev factor : ℕ → ℕ → ℕ
factor c j = 255 * (1 - bit_of c j)

unfoldable factors : ℕ → ℕ → ℕ
factors c j = factor c (j + 0) + factor c (j + 1) * 256 + (factor c (j + 2) + factor c (j + 3) * 256) * 65536

unfoldable together : ℕ → ℕ
together c = factors c 0 + factors c 4 * 4294967296

-- bit j at octet j: the two halves of the octet apart, then their pairs of bits, then the bits
abbrev pub halves : ℕ → ℕ
halves c = bit_and (bit_or c (c * 2 ^ 28 % 2 ^ 64)) 0x0000000f0000000f

abbrev pub pairs : ℕ → ℕ
pairs c = bit_and (bit_or (halves c) (halves c * 2 ^ 14 % 2 ^ 64)) 0x0003000300030003

abbrev bits : ℕ → ℕ
bits c = bit_and (bit_or (pairs c) (pairs c * 2 ^ 7 % 2 ^ 64)) 0x0101010101010101

unfoldable pub worked : ℕ → ℕ
worked c = 255 * (0x0101010101010101 - bits c)

-- g of a control octet is f of it, by a computed test of all 256
pub by_test : (g f : ℕ → ℕ) → T (every (follows f) 0 (table g)) → (c : ℕ) → c < 256 → g c ≡ f c
unfolding table
by_test g f right c h = sym (table_at g c h) ∙ eqb→eq (get_or (table g) c 0) (f c) (at (follows f) (table g) right c h)

right : T (every (follows together) 0 (table worked))
unfolding table worked together factors bit_of
right = tt

factor_below : (c j : ℕ) → factor c j < 256
factor_below c j = omega arith

pub worked_octets : (c : ℕ) → c < 256 → Eight (λ j. 255 * (1 - bit_of c j)) (worked c)
unfolding together factors
worked_octets c h =
    rw (by_test worked together right c h)
    (eight low high (both_octets (factors c 0) (factors c 4) low.below)) where
      low : Four (factor c) (factors c 0)
      low = four_octets refl refl refl refl refl (factor_below c 0) (factor_below c 1) (factor_below c 2) (factor_below c 3)

      high : Four (λ j. factor c (4 + j)) (factors c 4)
      high = four_octets refl refl refl refl refl (factor_below c 4) (factor_below c 5) (factor_below c 6) (factor_below c 7)

---- the mask

pub masked_octets : (c k x : ℕ) {d : ℕ} → Eight (factor c) d → Eight (λ j. masked c j (octet_at k j) (octet_at x j)) (bit_xor x (bit_and k d))
unfolding masked
masked_octets c k x {d} f =
    record {
      octet = λ j h.
          octet_xor x (bit_and k d) j
          ∙ ap (bit_xor (octet_at x j)) (octet_and k d j ∙ ap (bit_and (octet_at k j)) (f.octet j h))
          ∙ masked_by_factor (bit_of c j) (octet_at k j) (octet_at x j) (bit_below c j) (octet_below k j);
    }
