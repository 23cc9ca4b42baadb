-- `olt::clock_send` meets its contract: the unit is found, decides, and is put back. Assumes nothing.
use mathlib.Core.Path.{ap}
use Rattle.protocol.specs.Lift.{outcome}
use Rattle.protocol.specs.Messages.{no_stamps}
use Rattle.ends.specs.Records.{with_channels}
use Rattle.ends.specs.Table.{past_unit, with_unit}
use Rattle.protocol.specs.OltCalls.{clock_send_of, clock_sent}
use Rattle.protocol.specs.UnitCalls.{clock_send_unit}
use Rattle.protocol.proofs.OltCalls.{clock_send_ordered}
use Rattle.olt.proofs.Lookup.{lift_decided}
use Rattle.olt.proofs.clock_send.Goals as goal
use Rattle.refusal.specs.Verdict.{no_refusal}

pub returns-clause-value : goal.returns-clause-value
unfolding clock_send_of clock_sent outcome with_unit with_channels past_unit
returns-clause-value c =
    rw c.verdict_number-number.ensures
    (ap clock_sent (lift_decided _ no_stamps no_refusal _ clock_send_unit _ _ c.locate-at.ensures.value c.clock_send-done.ensures))

pub returns-clause-order : goal.returns-clause-order
returns-clause-order c = (clock_send_ordered _ _ _ (returns-clause-value c)).1
