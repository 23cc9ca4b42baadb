-- `olt::measure` meets its contract: the unit is found, decides, and is put back. Assumes nothing.
use mathlib.Core.Path.{ap}
use Rattle.protocol.specs.Lift.{outcome}
use Rattle.protocol.specs.Replies.{silent}
use Rattle.ends.specs.Records.{with_channels}
use Rattle.ends.specs.Table.{past_unit, with_unit}
use Rattle.protocol.specs.OltCalls.{measure_of, olt_answer}
use Rattle.protocol.specs.UnitCalls.{measure_unit}
use Rattle.protocol.proofs.OltCalls.{measure_ordered}
use Rattle.olt.proofs.Lookup.{lift_decided}
use Rattle.olt.proofs.measure.Goals as goal

pub returns-clause-value : goal.returns-clause-value
unfolding measure_of olt_answer outcome with_unit with_channels past_unit
returns-clause-value c =
    rw c.verdict_number-number.ensures
    (ap olt_answer
    (lift_decided _ silent _ _ (measure_unit _) _ _ (rw c.refuse_if-ahead.ensures at c.locate-at.ensures.value) c.measure-done.ensures))

pub returns-clause-order : goal.returns-clause-order
returns-clause-order c = (measure_ordered _ _ _ _ (returns-clause-value c)).1
