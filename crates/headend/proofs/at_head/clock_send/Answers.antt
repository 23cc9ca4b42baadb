-- `headend::at_head::clock_send` meets its contract: the unit is found in the OLT, decides, and is put back. Assumes nothing.
use mathlib.Core.Path.{ap, ◌∙◌}
use Rattle.ends.specs.Records.{with_channels}
use Rattle.ends.specs.Table.{past_unit, with_unit}
use Rattle.protocol.specs.Lift.{outcome}
use Rattle.protocol.specs.Messages.{no_stamps}
use Rattle.protocol.specs.OltCalls.{clock_send_of}
use Rattle.protocol.specs.UnitCalls.{clock_send_unit}
use Rattle.group_protocol.specs.Head.{with_olt}
use Rattle.headend.specs.HeadCalls.{head_clock_done, head_clock_send_of}
use Rattle.headend.proofs.HeadUnits.{clock_guarded, head_clock_sent, lift_guarded}
use Rattle.headend.proofs.at_head.clock_send.Goals as goal
use Rattle.refusal.specs.Verdict.{no_refusal}

pub returns : goal.returns
unfolding head_clock_send_of clock_send_of outcome with_unit with_channels past_unit with_olt
returns c =
    let done = c.clock_send-done in
    let a = c.args in
    let x = outcome a.head.olt.shared done.result.verdict done.result.after done.result.handed in
    rw c.verdict_number-number.ensures
    (ap head_clock_done
    (ap head_clock_sent (lift_guarded a.head no_stamps a.llid clock_send_unit no_refusal c.locate_sound-at.result x
    (rw c.valid_groups-sound.ensures at c.locate_sound-at.ensures.value)
    done.ensures)
    ∙ clock_guarded a.head _))
