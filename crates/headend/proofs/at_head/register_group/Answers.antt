-- `headend::at_head::register_group` meets its contract: what it names are members, and it takes the first place that is free. Assumes nothing.
use mathlib.Core.Path.{◌≡◌, sym, ap, ◌∙◌}
use Rattle.octets.specs.Choice.{both}
use Rattle.protocol.specs.Replies.{reply, silent, on_valid}
use Rattle.group_protocol.specs.Head.{fresh_group, valid_head, with_one_group_more}
use Rattle.group_protocol.specs.declared.HeadEnd.{HeadEnd}
use Rattle.group_protocol.specs.declared.Members.{Members}
use Rattle.headend.specs.HeadCalls.{group_verdict, head_answer, register_group_of, roster_members}
use Rattle.headend.proofs.HeadAnswers.{answer_refused, answer_accepted}
use Rattle.headend.proofs.Registrations.{group_room}
use Rattle.headend.proofs.at_head.register_group.Goals as goal
use Rattle.refusal.specs.Verdict.{no_refusal}

pub with_one_group_more-requires : goal.with_one_group_more-requires
unfolding valid_head both
with_one_group_more-requires c =
    let a = c.args in
    -- the verdict is the definition's
    let judged : c.group_verdict-verdict.result
    ≡ on_valid (valid_head a.head) (group_verdict a.head a.llid a.interval (roster_members a.head.olt a.roster)) =
    (rw (c.valid_olt-valid.ensures, c.valid_groups-sound.ensures) at c.group_verdict-verdict.ensures)
    ∙ ap (λ (m : Members). on_valid (valid_head a.head) (group_verdict a.head a.llid a.interval m)) c.roster_members-members.ensures in
    group_room a.head a.llid a.interval _ (sym judged ∙ c.in-Ok.is)

pub returns-in-Err : goal.returns-in-Err
unfolding register_group_of valid_head both
returns-in-Err c =
    let a = c.args in
    -- the verdict is the definition's
    let judged : c.group_verdict-verdict.result
    ≡ on_valid (valid_head a.head) (group_verdict a.head a.llid a.interval (roster_members a.head.olt a.roster)) =
    (rw (c.valid_olt-valid.ensures, c.valid_groups-sound.ensures) at c.group_verdict-verdict.ensures)
    ∙ ap (λ (m : Members). on_valid (valid_head a.head) (group_verdict a.head a.llid a.interval m)) c.roster_members-members.ensures in
    c.refused.ensures
    ∙ answer_refused a.head _ _ _ (sym judged ∙ c.in-Err.is)

pub returns-in-Ok : goal.returns-in-Ok
unfolding register_group_of valid_head both
returns-in-Ok c =
    let a = c.args in
    -- the verdict is the definition's
    let judged : c.group_verdict-verdict.result
    ≡ on_valid (valid_head a.head) (group_verdict a.head a.llid a.interval (roster_members a.head.olt a.roster)) =
    (rw (c.valid_olt-valid.ensures, c.valid_groups-sound.ensures) at c.group_verdict-verdict.ensures)
    ∙ ap (λ (m : Members). on_valid (valid_head a.head) (group_verdict a.head a.llid a.interval m)) c.roster_members-members.ensures in
    let next : c.with_one_group_more.result
    ≡ with_one_group_more a.head (fresh_group a.llid a.interval (roster_members a.head.olt a.roster)) =
    rw (c.with_one_group_more.ensures, c.fresh_group-group.ensures, c.roster_members-members.ensures) in
    c.accepted.ensures
    ∙ ap (λ (x : HeadEnd). head_answer (reply no_refusal x silent x silent)) next
    ∙ answer_accepted a.head _ _ (sym judged ∙ c.in-Ok.is)
