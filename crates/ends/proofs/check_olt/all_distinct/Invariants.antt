-- `ends::check_olt::all_distinct` meets its contract: the first i numbers are all different. Assumes nothing.
use Rattle.std.proofs.Common.{◌≡◌, true, take}
use Rattle.ends.specs.Identities.{distinct}
use Rattle.ends.proofs.check_olt.all_distinct.Given as goal

abbrev pub invariant-loop-i : goal.invariant-loop-i
invariant-loop-i l = distinct (take l.i l.list) ≡ true
