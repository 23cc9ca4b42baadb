-- Laws of bits and of exclusive or. Assumes nothing.
use mathlib.Core.Path.{◌≡◌, refl, ap, ap₂, sym, ◌∙◌}
use Prim.Native.Nat.{ℕ, zero, suc, ◌+◌, ◌*◌, ◌/◌, ◌%◌, ◌<◌, ◌^◌}
use native.Mathlib.Nat.{mod-lt, mod-one, pow-suc, zero-lt-suc, zero-mul, add_comm, add-mul, mul_assoc, mul_comm, div-div-eq-div-mul}
use native.Mathlib.Numerals.{add-one}
use native.Mathlib.Omega.{arith}
use lib.Arith.{bin_ind, digits_div, digits_mod}
use lib.Pow.{mod-pow-add}
use lib.Bits.{bit_and, bit_xor, and_high, xor_step, xor_self, xor_zero_l, xor_zero_r, differ}
use Rattle.octets.specs.Bits.{bit_of, low_cleared}
use Rattle.octets.specs.Choice.{pick}
use Rattle.octets.specs.Lists.{sum}

pub bit_below : (x j : ℕ) → bit_of x j < 2
unfolding bit_of
bit_below x j = mod-lt (x / 2 ^ j) (zero-lt-suc 1)

differ_below : (x y : ℕ) → x < 2 → y < 2 → differ x y < 2
differ_below zero y h k = k
differ_below (suc zero) zero h k = h
differ_below (suc zero) (suc zero) h k = omega arith
differ_below (suc zero) (suc (suc y)) h k = absurd (omega arith)
differ_below (suc (suc x)) y h k = absurd (omega arith)

differ_assoc : (x y z : ℕ) → x < 2 → y < 2 → z < 2 → differ (differ x y) z ≡ differ x (differ y z)
differ_assoc zero y z h k l = refl
differ_assoc (suc zero) zero z h k l = refl
differ_assoc (suc zero) (suc zero) zero h k l = refl
differ_assoc (suc zero) (suc zero) (suc zero) h k l = refl
differ_assoc (suc zero) (suc zero) (suc (suc z)) h k l = absurd (omega arith)
differ_assoc (suc zero) (suc (suc y)) z h k l = absurd (omega arith)
differ_assoc (suc (suc x)) y z h k l = absurd (omega arith)

half : (a b : ℕ) → bit_xor a b / 2 ≡ bit_xor (a / 2) (b / 2)
half a b =
    ap (λ (x : ℕ). x / 2) (xor_step a b)
    ∙ digits_div (bit_xor (a / 2) (b / 2)) (differ_below (a % 2) (b % 2) (omega arith) (omega arith))

low : (a b : ℕ) → bit_xor a b % 2 ≡ differ (a % 2) (b % 2)
low a b =
    ap (λ (x : ℕ). x % 2) (xor_step a b)
    ∙ digits_mod (bit_xor (a / 2) (b / 2)) (differ_below (a % 2) (b % 2) (omega arith) (omega arith))

pub xor_assoc : (a b c : ℕ) → bit_xor (bit_xor a b) c ≡ bit_xor a (bit_xor b c)
xor_assoc =
    bin_ind (λ (a : ℕ). (b c : ℕ) → bit_xor (bit_xor a b) c ≡ bit_xor a (bit_xor b c))
    (λ b c. ap (λ (x : ℕ). bit_xor x c) (xor_zero_l b) ∙ sym (xor_zero_l (bit_xor b c)))
    (λ a more b c.
    xor_step (bit_xor a b) c
    ∙ ap₂ (λ (x y : ℕ). bit_xor x (c / 2) * 2 + differ y (c % 2)) (half a b) (low a b)
    ∙ ap₂ (λ (x y : ℕ). x * 2 + y) (more (b / 2) (c / 2)) (differ_assoc (a % 2) (b % 2) (c % 2) (omega arith) (omega arith) (omega arith))
    ∙ sym (xor_step a (bit_xor b c)
    ∙ ap₂ (λ (x y : ℕ). bit_xor (a / 2) x * 2 + differ (a % 2) y) (half b c) (low b c)))

-- what was added twice is gone
pub xor_twice : (a b : ℕ) → bit_xor (bit_xor a b) b ≡ a
xor_twice a b = xor_assoc a b b ∙ ap (bit_xor a) (xor_self b) ∙ xor_zero_r a

in_places : (a b p : ℕ) → b * p + a * (p * 2) ≡ (a * 2 + b) * p
in_places a b p = add_comm (b * p) (a * (p * 2)) ∙ rw (add-mul (a * 2) b p, mul_assoc a 2 p, mul_comm 2 p)

-- the bits of x from i on, m of them, as a number in their places
bits_from : (x i m : ℕ) → sum i m (λ j. bit_of x j * 2 ^ j) ≡ x / 2 ^ i % 2 ^ m * 2 ^ i
unfolding bit_of
bits_from x i zero = rw (mod-one, zero-mul)
bits_from x i (suc m) =
    let y = x / 2 ^ i in
    let half : x / 2 ^ suc i ≡ y / 2 = rw pow-suc (sym (div-div-eq-div-mul x (2 ^ i) 2)) in
    let low : y % 2 ^ suc m ≡ y / 2 % 2 ^ m * 2 + y % 2 = rw (← add-one m) (mod-pow-add y m 1) in
    rw (bits_from x (suc i) m, half, low, pow-suc 2 i) (in_places (y / 2 % 2 ^ m) (y % 2) (2 ^ i))

-- the mask of the bits from 2 on clears the two below
pub mask_clears : (x : ℕ) → bit_and x 252 ≡ low_cleared 2 x
unfolding low_cleared pick
mask_clears x = and_high x 6 2 ∙ sym (bits_from x 2 6) ∙ omega arith
