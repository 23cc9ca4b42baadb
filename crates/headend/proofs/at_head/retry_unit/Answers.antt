-- `headend::at_head::retry_unit` meets its contract: the unit is found in the OLT and decides; it stays as it is. Assumes nothing.
use mathlib.Core.Path.{ap, sym, ◌∙◌}
use Rattle.ends.specs.Table.{past_unit}
use Rattle.protocol.specs.Lift.{outcome}
use Rattle.protocol.specs.Messages.{no_key_message}
use Rattle.protocol.specs.OltCalls.{retry_of}
use Rattle.protocol.specs.UnitCalls.{retry_unit}
use Rattle.group_protocol.specs.declared.HeadEnd.{HeadEnd}
use Rattle.headend.specs.HeadCalls.{head_key_sent}
use Rattle.headend.proofs.HeadUnits.{key_guarded, lift_guarded, unit_stays}
use Rattle.headend.proofs.at_head.retry_unit.Goals as goal
use Rattle.refusal.specs.Verdict.{no_refusal}

pub returns : goal.returns
unfolding retry_of outcome past_unit
returns c =
    let a = c.args in
    let d = c.retry-done.result in
    let x = outcome a.head.olt.shared d.verdict d.after d.handed in
    ap (λ (h : HeadEnd). head_key_sent (record { verdict = d.verdict; end = h; handed = d.handed }))
    (sym (unit_stays a.head a.llid c.locate_sound-at.result x c.retry-done.ensures))
    ∙ ap head_key_sent (lift_guarded a.head no_key_message a.llid (retry_unit a.llid) no_refusal c.locate_sound-at.result x
    (rw c.requires at c.locate_sound-at.ensures.value) c.retry-done.ensures)
    ∙ key_guarded a.head _
