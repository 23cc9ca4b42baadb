-- The two channels, and how long a header keeps its own (01, Keys). Assumes nothing.
use Rattle.std.specs.Prelude.{ℕ, ◌+◌, Bool, nat_le, nat_lt}
use Rattle.octets.specs.Choice.{both, pick}
use Rattle.envelope.specs.Channels.{on_zero}
use Rattle.ends.specs.Limits.{max_free}
use Rattle.ends.specs.declared.Channels.{Channels}

abbrev pub free_channels : Channels
free_channels = record { zero = 0; one = 0 }

-- the tick from which the channel of a channel index is free
unfoldable pub free_from : Channels → ℕ → ℕ
free_from c channel = pick (on_zero channel) c.zero c.one

unfoldable pub taken : Channels → ℕ → ℕ → Bool
taken c channel tick = nat_lt tick (free_from c channel)

-- a header at a tick keeps its channel for that tick and as many more as it has EQs (D35)
unfoldable pub occupied : Channels → ℕ → ℕ → ℕ → Channels
occupied c channel tick eqs =
    record { zero = pick (on_zero channel) (tick + eqs + 1) c.zero; one = pick (on_zero channel) c.one (tick + eqs + 1) }

unfoldable pub valid_channels : Channels → Bool
valid_channels c = both (nat_le c.zero max_free) (nat_le c.one max_free)
