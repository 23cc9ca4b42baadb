-- `olt::timing::timers_moved` meets its contract: the timers of the first units are moved where they stand. Assumes nothing.
use Rattle.std.proofs.Common.{◌≡◌, ◌<◌, ◌≤◌, true}
use Rattle.octets.specs.Lists.{all}
use Rattle.clock.specs.Ticks.{max_tick}
use Rattle.ends.specs.Timers.{valid_timer}
use Rattle.ends.specs.declared.UnitRecord.{UnitRecord}
use Rattle.olt.proofs.Advancing.{moved_to}
use Rattle.olt.proofs.timing.timers_moved.Given as goal

abbrev pub invariant-loop-unit : goal.invariant-loop-unit
invariant-loop-unit l =
    all (λ (u : UnitRecord). valid_timer u.keys.timer) l.initial.unit-items ≡ true → (0 < l.end → l.n ≤ max_tick)
    → l.unit-items ≡ moved_to l.n l.unit-index l.initial.unit-items
