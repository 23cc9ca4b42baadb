-- Channel indices (01, Counter block and mask): high bit 0 downstream, 1 upstream; low seven bits the channel. Assumes nothing.
use Rattle.std.specs.Prelude.{Bool, ℕ, ◌+◌, ◌%◌, leb, eqb}
use Rattle.octets.specs.Choice.{both, either}

-- the high bit
abbrev pub upstream_bit : ℕ
upstream_bit = 128

-- the channels are 0 and this
abbrev pub max_channel : ℕ
max_channel = 1

-- the channel indices of the OLT's sends: 00 and 01 hex (D32)
unfoldable pub downstream : ℕ → Bool
downstream channel = leb channel max_channel

-- the channel indices of a unit's sends: 80 and 81 hex
unfoldable pub upstream : ℕ → Bool
upstream channel = both (leb upstream_bit channel) (leb channel (upstream_bit + max_channel))

-- the channel of a channel index is 0
unfoldable pub on_zero : ℕ → Bool
on_zero channel = eqb (channel % upstream_bit) 0

unfoldable pub channel_fits : ℕ → Bool
channel_fits channel = either (downstream channel) (upstream channel)
