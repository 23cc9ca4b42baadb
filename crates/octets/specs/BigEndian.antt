-- Numbers in octets, the first octet highest. Assumes nothing.
use Rattle.std.specs.Prelude.{List, [], ◌∷◌, ℕ, zero, suc, ◌+◌, ◌*◌, ◌/◌, ◌%◌, ◌^◌, get_or}

-- the number in the k octets of s from place `at` on
abbrev pub number_at : ℕ → List ℕ → ℕ → ℕ
number_at zero s at = 0
number_at (suc k) s at = number_at k s at * 256 + get_or s (at + k) 0

-- the k octets of n
abbrev pub octets_of : ℕ → ℕ → List ℕ
octets_of zero n = []
octets_of (suc k) n = n / 256 ^ k % 256 ∷ octets_of k n

-- numbers of six octets, as a MAC and a cipher clock are, are below this
abbrev pub six_octets : ℕ
six_octets = 2 ^ 48
