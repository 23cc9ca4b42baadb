-- `headend::head_traffic::send` meets its contract: the unit or the group that the LLID names decides and is put back, and the payload is sealed
-- where it accepts. Assumes nothing.
use mathlib.Core.Path.{sym, ap, ◌∙◌}
use Rattle.octets.specs.Choice.{both}
use Rattle.ends.specs.Records.{with_channels, with_keys}
use Rattle.ends.specs.Table.{past_unit, unit_at, with_olt_channels, with_unit}
use Rattle.protocol.specs.Headers.{no_sending}
use Rattle.unit.specs.Reached.{sent_outcome, unit_sent}
use Rattle.traffic.specs.Passages.{misfit}
use Rattle.group_protocol.specs.Head.{group_at, past_group, valid_head, with_group, with_olt}
use Rattle.groups.specs.Reached.{group_sent_outcome, reached_group}
use Rattle.headend.specs.HeadTraffic.{head_send_of, send_done}
use Rattle.headend.proofs.GroupSends.{send_decided, send_within, group_send_done}
use Rattle.headend.proofs.HeadAnswers.{by_nowhere, by_at}
use Rattle.headend.proofs.UnitPassages.{unit_sent-holds, unit_within}
use Rattle.headend.proofs.head_traffic.send.Goals as goal
use Rattle.headend.proofs.head_traffic.send.Goals.{in-None, in-Some}
use Rattle.refusal.specs.Verdict.{Verdict}

pub returns : goal.returns
unfolding head_send_of sent_outcome unit_sent with_keys past_unit with_unit with_channels with_olt misfit group_sent_outcome past_group
    with_group with_olt_channels
    valid_head both
returns c =
    let a = c.args in
    let h = a.head in
    let p = a.payload.now in
    let out = a.output.now in
    let llid = sym c.group_named-found.ensures.value in
    rw c.verdict_number-number.ensures
    (elim c.match-found.branch [
      | in-None w ↦
          let l = w.locate_sound-at.result in
          let located = rw (c.valid_groups-sound.ensures, c.send_ahead-ahead.ensures) at w.locate_sound-at.ensures.value in
          rw (w.olt-is, w.groups-is, w.verdict-is)
          (ap send_done
          (unit_sent-holds h a.llid a.channel p out l (sent_outcome (unit_at h.olt l.place) w.send-done.result)
          (w.send-done.ensures (unit_within h a.llid a.channel p out l located)) _ (rw w.verdict-is at c.carry_fitting-work.ensures) located
          ∙ by_nowhere _ _ _ (llid ∙ w.in-None.is)))
      | in-Some w ↦
          let i = w.in-Some.i in
          let way = rw (c.valid_groups-sound.ensures, c.send_ahead-ahead.ensures) at w.way_to-way.ensures in
          let decided = w.send-done-in-Some.ensures (λ e. send_within h i a.llid a.channel p out (rw way at e))
          ∙ ap (λ (v : Verdict). reached_group v no_sending h.olt.shared (group_at h i) (send_decided h i a.llid a.channel p out)) way in
          rw (w.olt-is, w.groups-is, w.verdict-is)
          (ap send_done
          (group_send_done h i a.llid a.channel p out (group_sent_outcome w.send-done-in-Some.result) decided _ _
          (rw w.verdict-is at c.carry_fitting-work.ensures)
          ∙ by_at _ _ _ _ (llid ∙ w.in-Some.is)))
    ])
