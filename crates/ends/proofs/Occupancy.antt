-- Laws of channels. Assumes nothing.
use Rattle.std.proofs.Common.{◌≡◌, ℕ, ◌+◌, ◌≤◌, Bool, true, false, leb, refl, arith, ltb-false, le-ltb, lt-ltb, le-leb}
use Rattle.octets.specs.Choice.{both, pick}
use Rattle.octets.specs.Eqs.{max_eqs}
use Rattle.octets.proofs.Choice.{both_left, both_right, both_true}
use Rattle.clock.specs.Ticks.{max_tick}
use Rattle.ends.specs.Limits.{max_free}
use Rattle.envelope.specs.Channels.{on_zero}
use Rattle.ends.specs.Occupancy.{free_channels, free_from, taken, occupied, valid_channels}
use Rattle.ends.specs.declared.Channels.{Channels}
use Rattle.ends.proofs.Keys.{pick_own}

-- a header's own channel is free from the tick after its last EQ
pub free_own : (c : Channels) (channel tick eqs : ℕ) → free_from (occupied c channel tick eqs) channel ≡ tick + eqs + 1
unfolding free_from occupied
free_own c channel tick eqs = pick_own (on_zero channel) (tick + eqs + 1) c.zero c.one

-- a header at a tick keeps its channel for as many ticks more as it has EQs
pub taken_until : (c : Channels) (channel tick eqs later : ℕ) → later ≤ tick + eqs → taken (occupied c channel tick eqs) channel later ≡ true
unfolding taken
taken_until c channel tick eqs later h = lt-ltb later _ (omega (arith, free_own c channel tick eqs))

-- and is free after
pub free_after : (c : Channels) (channel tick eqs later : ℕ) → tick + eqs + 1 ≤ later → taken (occupied c channel tick eqs) channel later ≡ false
unfolding taken
free_after c channel tick eqs later h = le-ltb later _ (omega (arith, free_own c channel tick eqs))

pub taken_false : (c : Channels) (channel tick : ℕ) → taken c channel tick ≡ false → free_from c channel ≤ tick
unfolding taken
taken_false c channel tick e = ltb-false tick (free_from c channel) e

-- a send on a free channel makes no channel free earlier
pub free_later : (c : Channels) (channel other tick eqs : ℕ) → taken c channel tick ≡ false
    → free_from c other ≤ free_from (occupied c channel tick eqs) other
unfolding free_from occupied pick
free_later c channel other tick eqs e = by_channel (on_zero other) (on_zero channel) (taken_false c channel tick e) where
  by_channel : (t u : Bool) → pick u c.zero c.one ≤ tick
      → pick t c.zero c.one ≤ pick t (pick u (tick + eqs + 1) c.zero) (pick u c.one (tick + eqs + 1))
  by_channel true true h = omega arith
  by_channel true false h = omega arith
  by_channel false true h = omega arith
  by_channel false false h = omega arith

---- validity

pub free_valid : valid_channels free_channels ≡ true
unfolding valid_channels both
free_valid = refl

-- a send of at most the most EQs, at a tick that an end counts to
pub occupied_valid : (c : Channels) (channel tick eqs : ℕ) → tick ≤ max_tick → eqs ≤ max_eqs → valid_channels c ≡ true
    → valid_channels (occupied c channel tick eqs) ≡ true
unfolding valid_channels occupied pick
occupied_valid c channel tick eqs h k e = by_channel (on_zero channel) where
  new : leb (tick + eqs + 1) max_free ≡ true
  new = le-leb (tick + eqs + 1) max_free (omega arith)

  by_channel : (t : Bool) → both (leb (pick t (tick + eqs + 1) c.zero) max_free) (leb (pick t c.one (tick + eqs + 1)) max_free) ≡ true
  by_channel true = both_true new (both_right _ _ e)
  by_channel false = both_true (both_left _ _ e) new
