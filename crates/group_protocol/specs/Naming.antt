-- Whom a call means: one that names a group's LLID is made on the group, any other on the OLT or the unit (02, C-14; D37). No group has an LLID
-- of a unit in a valid head end, nor a subscriber one twice, so the two never clash. Assumes nothing.
use Rattle.std.specs.Prelude.{ℕ, Option, Some, None}
use Rattle.refusal.specs.Order.{and_then}
use Rattle.ends.specs.declared.Olt.{Olt}
use Rattle.protocol.specs.Replies.{Reply, reply, on_valid}
use Rattle.group_protocol.specs.Head.{valid_head, group_at, with_group}
use Rattle.group_protocol.specs.GroupCalls.{GroupOutcome}
use Rattle.group_protocol.specs.declared.GroupRecord.{GroupRecord}
use Rattle.group_protocol.specs.declared.HeadEnd.{HeadEnd}
use Rattle.refusal.specs.Verdict.{Verdict}

-- by the group that has the LLID: `alone` where none has
unfoldable pub by_llid : {R : Type 0} → Option ℕ → R → (ℕ → R) → R
by_llid None alone group = alone
by_llid (Some i) alone group = group i

unfoldable pub put_group : {H : Type 0} → HeadEnd → H → Verdict → ℕ → GroupOutcome H → Reply HeadEnd H
put_group h nothing ahead i c = reply (on_valid (valid_head h) (and_then ahead c.verdict)) h nothing (with_group h i c.channels c.group) c.handed

-- from a call on one group to the same call on the head end: 1 for a lent end that is not valid, then what the call refuses ahead of 2, then
-- what the group decides
unfoldable pub group_lift : {H : Type 0} → HeadEnd → H → Verdict → (Olt → GroupRecord → GroupOutcome H) → ℕ → Reply HeadEnd H
group_lift h nothing ahead call i = put_group h nothing ahead i (call h.olt (group_at h i))
