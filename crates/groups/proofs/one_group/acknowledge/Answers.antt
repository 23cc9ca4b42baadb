-- `groups::one_group::acknowledge` meets its contract: the group decides, and the member is marked where it accepts. Assumes nothing.
use Rattle.std.specs.Prelude.{ℕ, Option}
use mathlib.Core.Path.{◌≡◌, refl, sym}
use Rattle.refusal.specs.Order.{and_then}
use Rattle.ends.specs.declared.Shared.{Shared}
use Rattle.protocol.specs.Replies.{silent}
use Rattle.unit.specs.Reached.{if_accepted}
use Rattle.group_protocol.specs.GroupCalls.{acknowledge_group, group_acknowledge_verdict, group_marked, group_outcome}
use Rattle.group_protocol.specs.declared.Answer.{Answer}
use Rattle.group_protocol.specs.declared.GroupRecord.{GroupRecord}
use Rattle.groups.specs.Reached.{reached_group}
use Rattle.groups.proofs.OneGroup.{quiet_reached}
use Rattle.groups.proofs.one_group.acknowledge.Goals as goal
use Rattle.refusal.specs.Verdict.{Verdict}

-- what the verdict makes of the group
decided : (way : Verdict) (shared : Shared) (group : GroupRecord) (member : Option ℕ) (answer : Answer) (judged u v : Verdict) (g : GroupRecord)
    → judged ≡ and_then way u → u ≡ group_acknowledge_verdict answer member group.keys
    → judged ≡ v → g ≡ if_accepted v (group_marked group member) group
    → group_outcome shared v g silent ≡ reached_group way silent shared group (acknowledge_group answer member shared group)
unfolding acknowledge_group
decided way shared group member answer judged u v g p q e after = rw (after, sym e, p, q) (quiet_reached way shared group _ _)

pub returns-in-Err : goal.returns-in-Err
unfolding if_accepted
returns-in-Err c =
    let a = c.args in
    rw c.refused.ensures
    (decided a.way a.shared a.group a.member a.answer _ _ _ _ c.and_then-verdict.ensures c.acknowledge_verdict.ensures c.in-Err.is refl)

pub returns-in-Ok : goal.returns-in-Ok
unfolding if_accepted
returns-in-Ok c =
    let a = c.args in
    decided a.way a.shared a.group a.member a.answer _ _ _ _ c.and_then-verdict.ensures c.acknowledge_verdict.ensures c.in-Ok.is c.marked.ensures
