-- `olt::acknowledge` meets its contract: the unit is found, decides, and is put back. Assumes nothing.
use mathlib.Core.Path.{ap}
use Rattle.protocol.specs.Lift.{outcome}
use Rattle.protocol.specs.Replies.{silent}
use Rattle.ends.specs.Records.{with_channels}
use Rattle.ends.specs.Table.{past_unit, with_unit}
use Rattle.protocol.specs.OltCalls.{acknowledge_of, olt_answer}
use Rattle.protocol.specs.UnitCalls.{acknowledge_unit}
use Rattle.protocol.proofs.OltCalls.{acknowledge_ordered}
use Rattle.olt.proofs.Lookup.{lift_decided}
use Rattle.olt.proofs.acknowledge.Goals as goal
use Rattle.refusal.specs.Verdict.{no_refusal}

pub returns-clause-value : goal.returns-clause-value
unfolding acknowledge_of olt_answer outcome with_unit with_channels past_unit
returns-clause-value c =
    rw c.verdict_number-number.ensures
    (ap olt_answer (lift_decided _ silent no_refusal _ (acknowledge_unit _) _ _ c.locate-at.ensures.value c.acknowledge-done.ensures))

pub returns-clause-order : goal.returns-clause-order
returns-clause-order c = (acknowledge_ordered _ _ _ _ (returns-clause-value c)).1
