-- `ends::in_use::distinct` meets its contract: none of the elements before j stands again, so that the others decide. Assumes nothing.
use Rattle.std.proofs.Common.{◌≡◌, ◌-◌, get_or}
use Rattle.octets.specs.Lists.{tabulate}
use Rattle.ends.specs.Counted.{counted, distinct_by}
use Rattle.ends.proofs.in_use.distinct.Given as goal

abbrev pub invariant-loop-j : goal.invariant-loop-j
invariant-loop-j g l = distinct_by g.T.PartialEq.eq (counted l.row l.count l.none)
    ≡ distinct_by g.T.PartialEq.eq (tabulate l.j (l.count - l.j) (λ k. get_or l.row k l.none))
