-- `traffic::olt_receive` meets its contract: the unit is found, decides, and is put back, and the payload is opened where it accepts. Assumes nothing.
use mathlib.Core.Path.{◌≡◌}
use Rattle.protocol.specs.Lift.{outcome}
use Rattle.ends.specs.Records.{with_channels}
use Rattle.ends.specs.Table.{past_unit, with_unit}
use Rattle.protocol.proofs.OltTraffic.{receive_ahead}
use Rattle.olt.specs.Lookup.{located_of}
use Rattle.traffic.specs.Passages.{misfit}
use Rattle.traffic.proofs.Receipts.{receive_decided, receive_fits, olt_receive_done, olt_receive_ordered}
use Rattle.traffic.proofs.olt_receive.Goals as goal

-- where the unit stands, and what it decides
pub carry_accepted-work-requires : goal.carry_accepted-work-requires
unfolding outcome misfit past_unit
carry_accepted-work-requires c =
    let a = c.args in
    let at = c.locate-at.result in
    let here : at ≡ located_of a.olt (receive_ahead (misfit a.octets.now a.output.now) a.header) a.header.llid =
    rw c.receive_ahead-ahead.ensures at c.locate-at.ensures.value in
    let decided : let d = c.receive-done.result in outcome a.olt.shared d.verdict d.after d.handed
    ≡ receive_decided a.olt a.header a.octets.now a.output.now at =
    c.receive-done.ensures in
    receive_fits _ _ _ _ _ here _ decided

pub returns-clause-output_after : goal.returns-clause-output_after
unfolding outcome with_unit with_channels misfit past_unit
returns-clause-output_after c =
    let a = c.args in
    let at = c.locate-at.result in
    let here : at ≡ located_of a.olt (receive_ahead (misfit a.octets.now a.output.now) a.header) a.header.llid =
    rw c.receive_ahead-ahead.ensures at c.locate-at.ensures.value in
    let decided : let d = c.receive-done.result in outcome a.olt.shared d.verdict d.after d.handed
    ≡ receive_decided a.olt a.header a.octets.now a.output.now at =
    c.receive-done.ensures in
    rw c.verdict_number-number.ensures
    (olt_receive_done _ _ _ _ _ here _ decided _ _ c.carry_accepted-work.ensures)

pub returns-clause-order : goal.returns-clause-order
returns-clause-order c = (olt_receive_ordered _ _ _ _ _ _ (returns-clause-output_after c)).1
