-- `find_joined` meets its contract: none of the groups before place i has the LLID, so that the others decide. Assumes nothing.
use Rattle.std.proofs.Common.{◌≡◌, drop, take}
use Rattle.group_protocol.specs.Members.{place_from}
use Rattle.group_protocol.specs.Subscriber.{joined_llids}
use Rattle.groups.proofs.joined_search.find_joined.Given as goal

abbrev pub invariant-loop-i : goal.invariant-loop-i
invariant-loop-i l =
    place_from l.from (joined_llids (drop l.from (take l.count l.table))) l.llid ≡ place_from l.i (joined_llids (drop l.i (take l.count l.table))) l.llid
