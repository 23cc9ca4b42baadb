-- Laws of octets in a word: its octets by themselves, their sums and products, and their doubling all at once, which splits off the lowest octet.
-- Assumes nothing.
use mathlib.Core.Path.{◌≡◌, ap, ap₂, sym, ◌∙◌}
use Prim.Native.Nat.{ℕ, zero, suc, ◌+◌, ◌*◌, ◌/◌, ◌%◌, ◌^◌, ◌<◌}
use native.Mathlib.Nat.{div-div-eq-div-mul}
use native.Mathlib.Omega.{arith}
use lib.Bits.{bit_and, bit_xor, and_block, and_mask, and_mod, and_shr, and_zero_r, xor_block, xor_lt, xor_mod, xor_shr}
use lib.Dec.{T, eqb→eq}
use lib.ListN.{get_or}
use lib.Pow.{pow-add}
use Rattle.octets.specs.Bits.{bit_of}
use Rattle.octets.specs.Choice.{pick}
use Rattle.octets.proofs.Table.{at, every}
use Rattle.gf256.specs.Field.{x_times, modulus}
use Rattle.gf256.specs.Lanes.{octet_at, each_octet}
use Rattle.gf256.specs.Table.{table}
use Rattle.gf256.proofs.Table.{follows, table_at}

---- octets by themselves

pub octet_lowest : (x : ℕ) → octet_at x 0 ≡ x % 2 ^ 8
unfolding octet_at
octet_lowest x = omega arith

pub octet_rest : (x j : ℕ) → octet_at x (suc j) ≡ octet_at (x / 2 ^ 8) j
unfolding octet_at
octet_rest x j =
    let more : 8 * suc j ≡ 8 + 8 * j = omega arith in
    ap (λ (n : ℕ). x / 2 ^ n % 2 ^ 8) more
    ∙ ap (λ (n : ℕ). x / n % 2 ^ 8) (pow-add 2 8 (8 * j))
    ∙ ap (λ (n : ℕ). n % 2 ^ 8) (sym (div-div-eq-div-mul x (2 ^ 8) (2 ^ (8 * j))))

pub octet_below : (x j : ℕ) → octet_at x j < 256
unfolding octet_at
octet_below x j = omega arith

pub octet_xor : (x y j : ℕ) → octet_at (bit_xor x y) j ≡ bit_xor (octet_at x j) (octet_at y j)
unfolding octet_at
octet_xor x y j = ap (λ (z : ℕ). z % 2 ^ 8) (xor_shr x y (8 * j)) ∙ xor_mod (x / 2 ^ (8 * j)) (y / 2 ^ (8 * j)) 8

pub octet_and : (x y j : ℕ) → octet_at (bit_and x y) j ≡ bit_and (octet_at x j) (octet_at y j)
unfolding octet_at
octet_and x y j = ap (λ (z : ℕ). z % 2 ^ 8) (and_shr x y (8 * j)) ∙ and_mod (x / 2 ^ (8 * j)) (y / 2 ^ (8 * j)) 8

-- what is done to each octet is done to octet j
pub octet_each : (f : ℕ → ℕ) → ((o : ℕ) → o < 256 → f o < 256) → (n x j : ℕ) → j < n → octet_at (each_octet f n x) j ≡ f (octet_at x j)
unfolding each_octet
octet_each f b zero x j l = absurd (omega arith)
octet_each f b (suc n) x zero l =
    let small : f (x % 2 ^ 8) < 256 = b (x % 2 ^ 8) (omega arith) in
    octet_lowest (each_octet f n (x / 2 ^ 8) * 2 ^ 8 + f (x % 2 ^ 8)) ∙ omega arith ∙ ap f (sym (octet_lowest x))
octet_each f b (suc n) x (suc j) l =
    let small : f (x % 2 ^ 8) < 256 = b (x % 2 ^ 8) (omega arith) in
    let rest : (each_octet f n (x / 2 ^ 8) * 2 ^ 8 + f (x % 2 ^ 8)) / 2 ^ 8 ≡ each_octet f n (x / 2 ^ 8) = omega arith in
    octet_rest (each_octet f n (x / 2 ^ 8) * 2 ^ 8 + f (x % 2 ^ 8)) j
    ∙ ap (λ (y : ℕ). octet_at y j) rest
    ∙ octet_each f b n (x / 2 ^ 8) j (omega arith)
    ∙ ap f (sym (octet_rest x j))

---- the doubling of each

-- o in each of n octets
abbrev alike : ℕ → ℕ → ℕ
alike zero o = 0
alike (suc n) o = alike n o * 2 ^ 8 + o

-- the highest bit of each of the n lowest octets, and what is below it
abbrev highs : ℕ → ℕ → ℕ
highs n x = bit_and (x / 2 ^ 7) (alike n 1)

abbrev lows : ℕ → ℕ → ℕ
lows n x = bit_and x (alike n 127)

abbrev pub doubled : ℕ → ℕ → ℕ
doubled n x = bit_xor (lows n x * 2) (highs n x * 0x1b)

unfoldable pub one : ℕ → ℕ
one o = bit_xor (o % 2 ^ 7 * 2) (o / 2 ^ 7 * 0x1b)

-- the one computed test, of the 256 octets
right : T (every (follows x_times) 0 (table one))
unfolding table one x_times modulus bit_of pick
right = tt

pub one_right : (o : ℕ) → o < 256 → one o ≡ x_times o
unfolding table
one_right o h = sym (table_at one o h) ∙ eqb→eq (get_or (table one) o 0) (x_times o) (at (follows x_times) (table one) right o h)

one_below : (o : ℕ) → o < 256 → one o < 2 ^ 8
unfolding one
one_below o l = xor_lt 8 (o % 2 ^ 7 * 2) (o / 2 ^ 7 * 0x1b) (omega arith) (omega arith)

double_below : (o : ℕ) → o < 256 → x_times o < 256
double_below o l = rw (one_right o l) at (one_below o l)

module _ (n q o : ℕ) (l : o < 256) where
  highs_step : highs (suc n) (q * 2 ^ 8 + o) ≡ highs n q * 2 ^ 8 + o / 2 ^ 7
  highs_step =
      let shifted : (q * 2 ^ 8 + o) / 2 ^ 7 ≡ (q / 2 ^ 7) * 2 ^ 8 + (q % 2 ^ 7 * 2 + o / 2 ^ 7) = omega arith in
      let lowest : (q % 2 ^ 7 * 2 + o / 2 ^ 7) % 2 ^ 1 ≡ o / 2 ^ 7 = omega arith in
      ap (λ (y : ℕ). bit_and y (alike (suc n) 1)) shifted
      ∙ and_block 8 (q / 2 ^ 7) (alike n 1) (q % 2 ^ 7 * 2 + o / 2 ^ 7) 1 (omega arith) (omega arith)
      ∙ ap (λ (y : ℕ). highs n q * 2 ^ 8 + y) (and_mask (q % 2 ^ 7 * 2 + o / 2 ^ 7) 1 ∙ lowest)

  lows_step : lows (suc n) (q * 2 ^ 8 + o) ≡ lows n q * 2 ^ 8 + o % 2 ^ 7
  lows_step =
      and_block 8 q (alike n 127) o 127 l (omega arith) ∙ ap (λ (y : ℕ). lows n q * 2 ^ 8 + y) (and_mask o 7)

  doubled_step : doubled (suc n) (q * 2 ^ 8 + o) ≡ doubled n q * 2 ^ 8 + one o
  unfolding one
  doubled_step =
      let left : lows (suc n) (q * 2 ^ 8 + o) * 2 ≡ lows n q * 2 * 2 ^ 8 + o % 2 ^ 7 * 2 = omega (arith, lows_step) in
      let added : highs (suc n) (q * 2 ^ 8 + o) * 0x1b ≡ highs n q * 0x1b * 2 ^ 8 + o / 2 ^ 7 * 0x1b = omega (arith, highs_step) in
      ap₂ bit_xor left added
      ∙ xor_block 8 (lows n q * 2) (highs n q * 0x1b) (o % 2 ^ 7 * 2) (o / 2 ^ 7 * 0x1b) (omega arith) (omega arith)

-- the octets of a word doubled at once are each doubled
pub doubled_each : (n x : ℕ) → doubled n x ≡ each_octet x_times n x
unfolding each_octet
doubled_each zero x = rw (and_zero_r x, and_zero_r (x / 2 ^ 7))
doubled_each (suc n) x =
    let whole : x ≡ x / 2 ^ 8 * 2 ^ 8 + x % 2 ^ 8 = omega arith in
    let below : x % 2 ^ 8 < 256 = omega arith in
    ap (doubled (suc n)) whole
    ∙ doubled_step n (x / 2 ^ 8) (x % 2 ^ 8) below
    ∙ ap₂ (λ (y z : ℕ). y * 2 ^ 8 + z) (doubled_each n (x / 2 ^ 8)) (one_right (x % 2 ^ 8) below)

pub octet_doubled : (x j : ℕ) → j < 8 → octet_at (each_octet x_times 8 x) j ≡ x_times (octet_at x j)
octet_doubled x j l = octet_each x_times double_below 8 x j l
