-- Laws of GF(2^8): products by 2 and by 3, and the inverse. Assumes nothing.
use mathlib.Core.Path.{◌≡◌, refl, ap, sym, ◌∙◌}
use mathlib.Core.Bool.{Bool}
use Prim.Native.Nat.{ℕ, zero, suc, ◌<◌}
use native.Mathlib.Nat.{zero-mul, one-mul}
use native.Mathlib.Numerals.{one-add}
use native.Mathlib.Omega.{arith}
use lib.Bits.{xor_zero_l, xor_zero_r}
use lib.Dec.{T, eqb, eqb→eq}
use lib.ListN.{get_or}
use Rattle.octets.specs.Bits.{bit_of}
use Rattle.octets.specs.Choice.{pick}
use Rattle.octets.specs.Lists.{tabulate}
use Rattle.octets.proofs.Lists.{tabulate_at}
use Rattle.octets.proofs.Table.{at, every}
use Rattle.gf256.specs.Field.{◌⊕◌, modulus, x_times, terms, ◌•◌, square, even_power, inverse, Inverts}

-- products by 2 and by 3, as MixColumns has them
pub times_two : (b : ℕ) → 2 • b ≡ x_times b
unfolding ◌•◌ terms bit_of
times_two b = simp (zero-mul, one-mul, xor_zero_l, xor_zero_r)

pub times_three : (b : ℕ) → 3 • b ≡ b ⊕ x_times b
unfolding ◌•◌ terms bit_of
times_three b = simp (zero-mul, one-mul, xor_zero_l, xor_zero_r)

product : ℕ → ℕ
product b = b • inverse b

one : ℕ → ℕ → Bool
one k x = eqb x 1

-- the one computed test: the products of 1 to 255 by their inverses
products_one : T (every one 0 (tabulate 1 255 product))
unfolding product one ◌•◌ terms bit_of x_times modulus pick square even_power inverse
products_one = tt

inverse_other : (b : ℕ) → 0 < b → b < 256 → b • inverse b ≡ 1
unfolding product one
inverse_other zero h l = absurd (omega arith)
inverse_other (suc k) h l =
    let within : k < 255 = omega arith in
    let entry : get_or (tabulate 1 255 product) k 0 ≡ product (suc k) =
    tabulate_at 1 255 product k 0 within ∙ ap product (one-add k) in
    sym entry ∙ eqb→eq (get_or (tabulate 1 255 product) k 0) 1 (at one (tabulate 1 255 product) products_one k within)

pub inverts : Inverts
unfolding ◌•◌ terms bit_of x_times modulus pick square even_power inverse
inverts = record { zero = refl; other = inverse_other }
