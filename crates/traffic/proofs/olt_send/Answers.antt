-- `traffic::olt_send` meets its contract: the unit is found, decides, and is put back, and the payload is sealed where it accepts. Assumes nothing.
use mathlib.Core.Path.{◌≡◌}
use Rattle.ends.specs.Records.{with_channels, with_keys}
use Rattle.ends.specs.Table.{past_unit, unit_at, with_unit}
use Rattle.protocol.proofs.OltTraffic.{send_ahead}
use Rattle.unit.specs.Reached.{sent_outcome, unit_sent}
use Rattle.olt.specs.Lookup.{located_of}
use Rattle.traffic.specs.Passages.{misfit}
use Rattle.traffic.proofs.Sends.{send_decided, send_within, send_fits, olt_send_done, olt_send_ordered}
use Rattle.traffic.proofs.olt_send.Goals as goal

-- where the unit stands, and what it decides
pub carry_accepted-work-requires : goal.carry_accepted-work-requires
unfolding sent_outcome misfit past_unit
carry_accepted-work-requires c =
    let a = c.args in
    let at = c.locate-at.result in
    let here : at ≡ located_of a.olt (send_ahead (misfit a.payload.now a.output.now) a.channel) a.llid =
    rw c.send_ahead-ahead.ensures at c.locate-at.ensures.value in
    let decided : sent_outcome (unit_at a.olt at.place) c.send-done.result
    ≡ send_decided a.olt a.llid a.channel a.payload.now a.output.now at =
    c.send-done.ensures (send_within _ _ _ _ _ _ here) in
    send_fits _ _ _ _ _ _ here _ decided

pub returns-clause-output_after : goal.returns-clause-output_after
unfolding sent_outcome unit_sent with_keys past_unit with_unit with_channels misfit
returns-clause-output_after c =
    let a = c.args in
    let at = c.locate-at.result in
    let here : at ≡ located_of a.olt (send_ahead (misfit a.payload.now a.output.now) a.channel) a.llid =
    rw c.send_ahead-ahead.ensures at c.locate-at.ensures.value in
    let decided : sent_outcome (unit_at a.olt at.place) c.send-done.result
    ≡ send_decided a.olt a.llid a.channel a.payload.now a.output.now at =
    c.send-done.ensures (send_within _ _ _ _ _ _ here) in
    rw c.verdict_number-number.ensures
    (olt_send_done _ _ _ _ _ _ here _ decided _ _ c.carry_accepted-work.ensures)

pub returns-clause-order : goal.returns-clause-order
returns-clause-order c = (olt_send_ordered _ _ _ _ _ _ _ (returns-clause-output_after c)).1
