-- `ends::check_olt::contains` meets its contract: none of the numbers before this one is it, so that the others decide. Assumes nothing.
use Rattle.std.proofs.Common.{◌≡◌, drop}
use Rattle.ends.specs.Identities.{among}
use Rattle.ends.proofs.check_olt.contains.Given as goal

abbrev pub invariant-loop-y : goal.invariant-loop-y
invariant-loop-y l = among l.x l.list ≡ among l.x (drop l.y-index l.list)
