-- `headend::at_head::acknowledge` meets its contract: the unit or the group that the LLID names decides, and is put back. Assumes nothing.
use Rattle.std.specs.Prelude.{ℕ, Option}
use mathlib.Core.Path.{◌≡◌, sym, ap, ap₂, ◌∙◌}
use Rattle.octets.specs.Choice.{both}
use Rattle.ends.specs.Records.{with_channels}
use Rattle.ends.specs.Table.{past_unit, unit_at, with_olt_channels, with_unit}
use Rattle.protocol.specs.Lift.{outcome}
use Rattle.protocol.specs.OltCalls.{acknowledge_of}
use Rattle.protocol.specs.Replies.{silent}
use Rattle.protocol.specs.UnitCalls.{acknowledge_unit}
use Rattle.protocol.specs.declared.Acknowledgement.{Acknowledgement}
use Rattle.unit.specs.Reached.{reached}
use Rattle.group_protocol.specs.GroupCalls.{acknowledge_group, group_outcome, member_named}
use Rattle.group_protocol.specs.Head.{group_at, past_group, valid_head, with_group, with_olt}
use Rattle.groups.specs.Reached.{reached_group}
use Rattle.headend.specs.HeadCalls.{head_acknowledge_of, head_answer, head_done, own_acknowledgement}
use Rattle.headend.proofs.HeadAnswers.{by_nowhere, by_at}
use Rattle.headend.proofs.HeadLift.{lift_group}
use Rattle.headend.proofs.HeadUnits.{answer_guarded, lift_guarded}
use Rattle.headend.proofs.at_head.acknowledge.Goals as goal
use Rattle.headend.proofs.at_head.acknowledge.Goals.{in-None, in-Some}
use Rattle.refusal.specs.Verdict.{Verdict, no_refusal}

pub returns : goal.returns
unfolding head_answer head_acknowledge_of acknowledge_of outcome with_unit with_channels past_unit with_olt group_outcome past_group
    with_group with_olt_channels valid_head both
returns c =
    let a = c.args in
    let m = c.match-found in
    let s = a.head.olt.shared in
    let llid = sym c.group_named-found.ensures.value in
    -- what is left of the end, by the LLID
    let decided : head_answer (record { verdict = m.verdict; end = record { olt = m.olt; groups = m.groups }; handed = silent })
    ≡ head_acknowledge_of a.head a.llid a.answer =
    elim c.match-found.branch [
      | in-None w ↦
          (let at = w.locate_sound-at in
          let done = w.acknowledge-done in
          let u = unit_at a.head.olt at.result.place in
          let own = ap (λ (k : Acknowledgement). reached at.result.verdict silent s u (acknowledge_unit k s u)) w.own_acknowledgement-own.ensures in
          rw (w.olt-is, w.groups-is, w.verdict-is)
          (ap head_answer (lift_guarded a.head silent a.llid (acknowledge_unit (own_acknowledgement a.answer)) no_refusal at.result
          (outcome s done.result.verdict done.result.after silent) (rw c.valid_groups-sound.ensures at at.ensures.value) (done.ensures ∙ own))
          ∙ answer_guarded a.head _ ∙ by_nowhere _ _ _ (llid ∙ w.in-None.is)))
      | in-Some w ↦
          (let i = w.in-Some.i in
          let g = group_at a.head i in
          let done = w.acknowledge-done-in-Some in
          let judged = rw c.valid_groups-sound.ensures at w.way_to-way.ensures in
          rw (w.olt-is, w.groups-is, w.verdict-is)
          (ap head_answer
          (lift_group a.head silent no_refusal (λ o g. acknowledge_group a.answer (member_named o g.members a.answer) o.shared g) i
          (group_outcome s done.result.verdict done.result.after silent)
          (done.ensures
          ∙ ap₂ (λ (v : Verdict) (f : Option ℕ). reached_group v silent s g (acknowledge_group a.answer f s g)) judged w.member_named-member.ensures))
          ∙ by_at _ _ _ _ (llid ∙ w.in-Some.is)))
    ] in
    rw c.verdict_number-number.ensures (ap head_done decided)
