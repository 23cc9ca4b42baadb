-- `headend::at_head::measure` meets its contract: the unit is found in the OLT, decides, and is put back. Assumes nothing.
use mathlib.Core.Path.{ap, ◌∙◌}
use Rattle.ends.specs.Records.{with_channels}
use Rattle.ends.specs.Table.{past_unit, with_unit}
use Rattle.protocol.specs.Lift.{outcome}
use Rattle.protocol.specs.OltCalls.{measure_of}
use Rattle.protocol.specs.Replies.{silent}
use Rattle.protocol.specs.UnitCalls.{measure_unit}
use Rattle.group_protocol.specs.Head.{valid_groups, with_olt}
use Rattle.headend.specs.HeadCalls.{head_answer, head_done, head_measure_of}
use Rattle.headend.proofs.HeadUnits.{answer_guarded, guarded_both, lift_guarded}
use Rattle.refusal.specs.Verdict.{no_refusal}
use Rattle.headend.proofs.at_head.measure.Goals as goal

pub returns : goal.returns
unfolding head_measure_of measure_of head_answer outcome with_unit with_channels past_unit with_olt
returns c =
    let done = c.measure-done in
    let a = c.args in
    let x = outcome a.head.olt.shared done.result.verdict done.result.after silent in
    rw c.verdict_number-number.ensures
    (ap head_done
    (ap head_answer (lift_guarded a.head silent a.llid (measure_unit a.trip) _ c.locate_sound-at.result x
    (rw (c.valid_groups-sound.ensures, guarded_both (valid_groups a.head) _ no_refusal) at c.locate_sound-at.ensures.value) done.ensures)
    ∙ answer_guarded a.head _))
