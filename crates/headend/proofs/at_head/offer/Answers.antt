-- `headend::at_head::offer` meets its contract: the unit or the group that the LLID names decides, and is put back. Assumes nothing.
use mathlib.Core.Bool.{Bool}
use mathlib.Core.Path.{◌≡◌, sym, ap, ap₂, ◌∙◌}
use Rattle.octets.specs.Choice.{both}
use Rattle.ends.specs.Records.{with_channels}
use Rattle.ends.specs.Table.{past_unit, with_olt_channels, with_unit}
use Rattle.protocol.specs.Lift.{outcome}
use Rattle.protocol.specs.Messages.{no_key_message}
use Rattle.protocol.specs.OltCalls.{offer_of}
use Rattle.protocol.specs.UnitCalls.{offer_unit}
use Rattle.group_protocol.specs.GroupCalls.{group_outcome, members_set, offer_group}
use Rattle.group_protocol.specs.Head.{group_at, past_group, valid_head, with_group, with_olt}
use Rattle.groups.specs.Reached.{reached_group}
use Rattle.headend.specs.HeadCalls.{head_key_done, head_key_sent, head_offer_of}
use Rattle.headend.proofs.HeadAnswers.{by_nowhere, by_at}
use Rattle.headend.proofs.HeadLift.{lift_group}
use Rattle.headend.proofs.HeadUnits.{key_guarded, lift_guarded}
use Rattle.headend.proofs.at_head.offer.Goals as goal
use Rattle.headend.proofs.at_head.offer.Goals.{in-None, in-Some}
use Rattle.refusal.specs.Verdict.{Verdict, no_refusal}

pub returns : goal.returns
unfolding head_key_sent head_offer_of offer_of outcome with_unit with_channels past_unit with_olt group_outcome past_group with_group
    with_olt_channels valid_head both
returns c =
    let a = c.args in
    let m = c.match-found in
    let s = a.head.olt.shared in
    let llid = sym c.group_named-found.ensures.value in
    -- what is left of the end, by the LLID
    let decided : head_key_sent (record { verdict = m.verdict.0; end = record { olt = m.olt; groups = m.groups }; handed = m.verdict.1 })
    ≡ head_offer_of a.head a.llid a.key =
    elim c.match-found.branch [
      | in-None w ↦
          (let at = w.locate_sound-at in
          let done = w.offer-done in
          rw (w.olt-is, w.groups-is, w.verdict-is)
          (ap head_key_sent (lift_guarded a.head no_key_message a.llid (offer_unit a.llid a.key) no_refusal at.result
          (outcome s done.result.verdict done.result.after done.result.handed)
          (rw c.valid_groups-sound.ensures at at.ensures.value) done.ensures)
          ∙ key_guarded a.head _ ∙ by_nowhere _ _ _ (llid ∙ w.in-None.is)))
      | in-Some w ↦
          (let i = w.in-Some.i in
          let g = group_at a.head i in
          let done = w.offer-done-in-Some in
          let judged = rw c.valid_groups-sound.ensures at w.way_to-way.ensures in
          rw (w.olt-is, w.groups-is, w.verdict-is)
          (ap head_key_sent
          (lift_group a.head no_key_message no_refusal (λ o g. offer_group a.llid a.key (members_set o g.members) o.shared g) i
          (group_outcome s done.result.verdict done.result.after done.result.handed)
          (done.ensures
          ∙ ap₂ (λ (v : Verdict) (t : Bool). reached_group v no_key_message s g (offer_group a.llid a.key t s g)) judged w.members_set-set.ensures))
          ∙ by_at _ _ _ _ (llid ∙ w.in-Some.is)))
    ] in
    rw c.verdict_number-number.ensures (ap head_key_done decided)
