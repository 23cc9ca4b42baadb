-- `ends::in_use::has_from` meets its contract: none of the places before j has it, so that the others decide. Assumes nothing.
use Rattle.std.proofs.Common.{◌≡◌, ◌-◌, get_or}
use Rattle.std.specs.List.{list_any}
use Rattle.octets.specs.Lists.{tabulate}
use Rattle.ends.proofs.in_use.has_from.Given as goal

abbrev pub invariant-loop-j : goal.invariant-loop-j
invariant-loop-j g l = list_any (λ y. g.T.PartialEq.eq y l.x) (tabulate l.first (l.count - l.first) (λ k. get_or l.row k l.none))
    ≡ list_any (λ y. g.T.PartialEq.eq y l.x) (tabulate l.j (l.count - l.j) (λ k. get_or l.row k l.none))
