-- `valid_groups_of` meets its contract: each of the first i groups fits before the others, so that the others decide. Assumes nothing.
use Rattle.std.proofs.Common.{◌≡◌, drop}
use Rattle.ends.specs.Identities.{llids_of}
use Rattle.group_protocol.specs.Subscriber.{valid_groups_of}
use Rattle.groups.proofs.check_subscriber.valid_groups_of.Given as goal

abbrev pub invariant-loop-i : goal.invariant-loop-i
invariant-loop-i l = valid_groups_of (llids_of l.identity) l.groups ≡ valid_groups_of (llids_of l.identity) (drop l.i l.groups)
