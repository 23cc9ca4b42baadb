-- `headend::at_head::capture` meets its contract: the unit is found in the OLT, decides, and is put back. Assumes nothing.
use mathlib.Core.Path.{ap, ◌∙◌}
use Rattle.ends.specs.Records.{with_channels}
use Rattle.ends.specs.Table.{past_unit, with_unit}
use Rattle.protocol.specs.Lift.{outcome}
use Rattle.protocol.specs.OltCalls.{capture_of}
use Rattle.protocol.specs.Replies.{silent}
use Rattle.protocol.specs.UnitCalls.{capture_unit}
use Rattle.group_protocol.specs.Head.{with_olt}
use Rattle.headend.specs.HeadCalls.{head_answer, head_capture_of, head_done}
use Rattle.headend.proofs.HeadUnits.{answer_guarded, lift_guarded}
use Rattle.headend.proofs.at_head.capture.Goals as goal
use Rattle.refusal.specs.Verdict.{no_refusal}

pub returns : goal.returns
unfolding head_capture_of capture_of head_answer outcome with_unit with_channels past_unit with_olt
returns c =
    let done = c.capture-done in
    let a = c.args in
    let x = outcome a.head.olt.shared done.result.verdict done.result.after silent in
    rw c.verdict_number-number.ensures
    (ap head_done
    (ap head_answer (lift_guarded a.head silent a.llid capture_unit no_refusal c.locate_sound-at.result x
    (rw c.valid_groups-sound.ensures at c.locate_sound-at.ensures.value) done.ensures)
    ∙ answer_guarded a.head _))
