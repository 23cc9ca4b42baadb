-- The rights of a user on a set, one octet (02, C-19). Assumes nothing.
use Rattle.std.specs.Prelude.{Bool, ℕ, ◌^◌, eqb, ltb}
use Rattle.octets.specs.Bits.{bit_of}
use Rattle.octets.specs.Choice.{either}

-- bit 0 is to see the header, bit 1 to open the payload, bit 2 to load a key
abbrev pub right_bits : ℕ
right_bits = 3

-- the others are 0
unfoldable pub rights_fit : ℕ → Bool
rights_fit q = ltb q (2 ^ right_bits)

unfoldable pub may_open : ℕ → Bool
may_open q = eqb (bit_of q 1) 1

-- opening includes seeing
unfoldable pub may_see : ℕ → Bool
may_see q = either (eqb (bit_of q 0) 1) (may_open q)

unfoldable pub may_load : ℕ → Bool
may_load q = eqb (bit_of q 2) 1
