-- The bits of a number. Assumes nothing.
use Rattle.std.specs.Prelude.{ℕ, ◌*◌, ◌/◌, ◌%◌, ◌^◌, ltb}
use Rattle.octets.specs.Choice.{pick}
use Rattle.octets.specs.Lists.{sum}

-- bit j of x, 0 or 1; bit 0 is the lowest
unfoldable pub bit_of : ℕ → ℕ → ℕ
bit_of x j = x / 2 ^ j % 2

-- the octet whose bit j is f j
abbrev pub from_bits : (ℕ → ℕ) → ℕ
from_bits f = sum 0 8 (λ j. f j * 2 ^ j)

-- octet x with its n lowest bits cleared: every other bit is as it was
unfoldable pub low_cleared : ℕ → ℕ → ℕ
low_cleared n x = from_bits (λ j. pick (ltb j n) 0 (bit_of x j))
