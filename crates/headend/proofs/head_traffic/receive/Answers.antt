-- `headend::head_traffic::receive` meets its contract: the unit is found, decides and is put back, the payload is opened; on a group's LLID
-- the way to the unit is refused. Assumes nothing.
use mathlib.Core.Path.{◌≡◌, sym, ap}
use Rattle.ends.specs.Records.{with_channels}
use Rattle.ends.specs.Table.{past_unit, with_unit}
use Rattle.protocol.specs.Lift.{Outcome, outcome}
use Rattle.protocol.specs.declared.Passage.{Passage}
use Rattle.traffic.specs.Passages.{misfit}
use Rattle.group_protocol.specs.Head.{with_olt}
use Rattle.headend.specs.HeadTraffic.{receipt_done}
use Rattle.headend.proofs.UnitPassages.{head_received, unit_receives}
use Rattle.headend.proofs.head_traffic.receive.Goals as goal

pub returns : goal.returns
unfolding outcome with_unit with_channels with_olt misfit past_unit
returns c =
    let a = c.args in
    let d = c.receive-done.result in
    -- what the unit decides
    let answer : Outcome Passage = outcome a.head.olt.shared d.verdict d.after d.handed in
    let decided : answer ≡ unit_receives a.head a.header a.octets.now a.output.now c.locate_sound-at.result = c.receive-done.ensures in
    rw c.verdict_number-number.ensures
    (ap receipt_done
    (head_received a.head a.header a.octets.now a.output.now c.locate_sound-at.result answer decided _
    c.carry_fitting-work.ensures c.group_named-found.result (sym c.group_named-found.ensures.value)
    (rw (c.valid_groups-sound.ensures, c.receive_ahead-ahead.ensures, c.own_llid-rest.ensures) at c.locate_sound-at.ensures.value)))
