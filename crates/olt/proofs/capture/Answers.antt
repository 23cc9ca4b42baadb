-- `olt::capture` meets its contract: the unit is found, decides, and is put back. Assumes nothing.
use mathlib.Core.Path.{ap}
use Rattle.protocol.specs.Lift.{outcome}
use Rattle.protocol.specs.Replies.{silent}
use Rattle.ends.specs.Records.{with_channels}
use Rattle.ends.specs.Table.{past_unit, with_unit}
use Rattle.protocol.specs.OltCalls.{capture_of, olt_answer}
use Rattle.protocol.specs.UnitCalls.{capture_unit}
use Rattle.protocol.proofs.ClockCaptures.{capture_answered}
use Rattle.olt.proofs.Lookup.{lift_decided}
use Rattle.olt.proofs.capture.Goals as goal
use Rattle.refusal.specs.Verdict.{no_refusal}

pub returns-clause-value : goal.returns-clause-value
unfolding capture_of olt_answer outcome with_unit with_channels past_unit
returns-clause-value c =
    rw c.verdict_number-number.ensures
    (ap olt_answer (lift_decided _ silent no_refusal _ capture_unit _ _ c.locate-at.ensures.value c.capture-done.ensures))

pub returns-clause-order : goal.returns-clause-order
returns-clause-order c = (capture_answered _ _ _ (returns-clause-value c)).1.0

pub returns-clause-stamps : goal.returns-clause-stamps
returns-clause-stamps c = (capture_answered _ _ _ (returns-clause-value c)).1.1
