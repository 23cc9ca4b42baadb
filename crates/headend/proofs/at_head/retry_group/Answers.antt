-- `headend::at_head::retry_group` meets its contract: the group decides, and stays as it is. Assumes nothing.
use mathlib.Core.Path.{ap, sym, ◌∙◌}
use Rattle.octets.specs.Choice.{both}
use Rattle.protocol.specs.Messages.{no_key_message}
use Rattle.group_protocol.specs.GroupCalls.{group_outcome, retry_group}
use Rattle.group_protocol.specs.Head.{group_at, past_group, valid_head}
use Rattle.group_protocol.specs.declared.HeadEnd.{HeadEnd}
use Rattle.groups.specs.Reached.{reached_group}
use Rattle.headend.specs.HeadCalls.{head_key_sent}
use Rattle.headend.proofs.HeadLift.{group_stays, lift_group}
use Rattle.headend.proofs.at_head.retry_group.Goals as goal
use Rattle.refusal.specs.Verdict.{Verdict, no_refusal}

pub returns : goal.returns
unfolding group_outcome past_group valid_head both
returns c =
    let a = c.args in
    let s = a.head.olt.shared in
    let g = group_at a.head a.i in
    let d = c.retry-done.result in
    let x = group_outcome s d.verdict d.after d.handed in
    let judged = rw c.requires.sound_value at c.way_to-way.ensures in
    let decided = c.retry-done.ensures ∙ ap (λ (v : Verdict). reached_group v no_key_message s g (retry_group a.llid s g)) judged in
    ap (λ (h : HeadEnd). head_key_sent (record { verdict = d.verdict; end = h; handed = d.handed }))
    (sym (group_stays a.head a.llid a.i _ x decided))
    ∙ ap head_key_sent (lift_group a.head no_key_message no_refusal (λ o g. retry_group a.llid o.shared g) a.i x decided)
