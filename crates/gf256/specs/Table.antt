-- The constant tables of the cipher, by their rules. Assumes nothing.
use Rattle.std.specs.Prelude.{ℕ, zero, suc, List}
use Rattle.octets.specs.Lists.{tabulate}
use Rattle.gf256.specs.Field.{x_times}
use Rattle.gf256.specs.Substitution.{sbox}

-- f at each of the 256 octets
unfoldable pub table : (ℕ → ℕ) → List ℕ
table f = tabulate 0 256 f

-- the substitution of each octet (FIPS 197, 5.1.1)
abbrev pub sbox_table : List ℕ
sbox_table = table sbox

-- x^n
unfoldable pub power_of_x : ℕ → ℕ
power_of_x zero = 1
power_of_x (suc n) = x_times (power_of_x n)

-- the powers of x in the round constants of the rounds 1 to 10 (FIPS 197, 5.2): x^0 to x^9
unfoldable pub round_constants : List ℕ
round_constants = tabulate 0 10 power_of_x
