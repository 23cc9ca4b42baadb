-- The ranges of a valid timer. Assumes nothing.
use Rattle.std.proofs.Common.{◌≡◌, ◌<◌, ◌≤◌, true, ltb-true, leb-true}
use Rattle.octets.proofs.Choice.{both_left, both_right}
use Rattle.ends.specs.Limits.{max_interval}
use Rattle.ends.specs.Timers.{valid_interval, valid_timer}
use Rattle.ends.specs.declared.Timer.{Timer}

pub record Timed (t : Timer) : Type 0 where
  pub some : 1 ≤ t.interval
  pub most : t.interval ≤ max_interval
  pub within : t.count < t.interval

pub timed : (t : Timer) → valid_timer t ≡ true → Timed t
unfolding valid_timer valid_interval
timed t e =
    let i = both_left _ _ e in
    record { some = leb-true _ _ (both_left _ _ i); most = leb-true _ _ (both_right _ _ i); within = ltb-true _ _ (both_left _ _ (both_right _ _ e)) }
