-- `olt::retry` meets its contract: the unit is found, decides, and is put back. Assumes nothing.
use mathlib.Core.Path.{ap}
use Rattle.protocol.specs.Lift.{outcome}
use Rattle.protocol.specs.Messages.{no_key_message}
use Rattle.ends.specs.Records.{with_channels}
use Rattle.ends.specs.Table.{past_unit, with_unit}
use Rattle.protocol.specs.OltCalls.{retry_of, key_sent}
use Rattle.protocol.specs.UnitCalls.{retry_unit}
use Rattle.protocol.proofs.OltCalls.{retry_ordered}
use Rattle.olt.proofs.Lookup.{lift_decided}
use Rattle.olt.proofs.retry.Goals as goal
use Rattle.refusal.specs.Verdict.{no_refusal}

pub returns-clause-value : goal.returns-clause-value
unfolding retry_of key_sent outcome with_unit with_channels past_unit
returns-clause-value c =
    rw c.verdict_number-number.ensures
    (ap key_sent (lift_decided _ no_key_message no_refusal _ (retry_unit _) _ _ c.locate-at.ensures.value c.retry-done.ensures))

pub returns-clause-order : goal.returns-clause-order
returns-clause-order c = (retry_ordered _ _ _ (returns-clause-value c)).1
