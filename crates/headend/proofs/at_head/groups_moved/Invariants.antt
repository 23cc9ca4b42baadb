-- `headend::at_head::groups_moved` meets its contract: where the timers are valid, the first i groups are moved where they stand. Assumes nothing.
use Rattle.std.proofs.Common.{◌≡◌, ◌≤◌, true, length, take}
use Rattle.octets.specs.Lists.{all}
use Rattle.clock.specs.Ticks.{max_tick}
use Rattle.ends.specs.Limits.{max_units}
use Rattle.ends.specs.Timers.{valid_timer}
use Rattle.group_protocol.specs.declared.GroupRecord.{GroupRecord}
use Rattle.headend.proofs.Advancing.{groups_moved_to}
use Rattle.headend.proofs.at_head.groups_moved.Given as goal

abbrev pub invariant-loop-i : goal.invariant-loop-i
invariant-loop-i l = (l.r.count ≡ l.fn.groups.count) × (length l.r.table ≡ max_units)
    × (all (λ (g : GroupRecord). valid_timer g.keys.timer) (take l.fn.groups.count l.fn.groups.table) ≡ true → l.n ≤ max_tick
    → l.r.table ≡ groups_moved_to l.n l.i l.fn.groups.table)
