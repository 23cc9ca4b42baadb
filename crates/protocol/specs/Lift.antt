-- From a call on one unit to the same call on the OLT: the unit is found by its LLID, the call is made, and the unit is put back
-- (01, Clock: OLT calls name a unit by any of its LLIDs). Assumes nothing.
use Rattle.std.specs.Prelude.{ℕ, Ok, Err, Option, Some, None}
use Rattle.refusal.specs.declared.Refusal.TheVariants.{UnknownLlid}
use Rattle.protocol.specs.Replies.{on_valid, Reply, reply}
use Rattle.ends.specs.Table.{find, unit_at, with_unit}
use Rattle.ends.specs.Validity.{valid_olt}
use Rattle.ends.specs.declared.Channels.{Channels}
use Rattle.ends.specs.declared.UnitRecord.{UnitRecord}
use Rattle.ends.specs.declared.Shared.{Shared}
use Rattle.ends.specs.declared.Olt.{Olt}
use Rattle.refusal.specs.Verdict.{Verdict}

-- a call on one unit: its verdict and, where that accepts, the unit and the channels after it and what it hands over
pub record Outcome (H : Type 0) : Type 0 where
  pub verdict : Verdict
  pub unit : UnitRecord
  pub channels : Channels
  pub handed : H

-- a call that leaves the channels
unfoldable pub outcome : {H : Type 0} → Shared → Verdict → UnitRecord → H → Outcome H
outcome s v u handed = record { verdict = v; unit = u; channels = s.channels; handed = handed }

-- what the call on one unit decided, at place i of the table
unfoldable pub put_back : {H : Type 0} → Olt → H → ℕ → Outcome H → Reply Olt H
put_back o nothing i c = reply c.verdict o nothing (with_unit o i c.channels c.unit) c.handed

unfoldable pub at_unit : {H : Type 0} → Olt → H → (Shared → UnitRecord → Outcome H) → Option ℕ → Reply Olt H
at_unit o nothing call None = reply (Err UnknownLlid) o nothing o nothing
at_unit o nothing call (Some i) = put_back o nothing i (call o.shared (unit_at o i))

-- only where the verdict accepts is there more to decide
unfoldable pub after : {H : Type 0} → Verdict → Olt → H → Reply Olt H → Reply Olt H
after (Ok tt) o nothing r = r
after (Err x) o nothing r = reply (Err x) o nothing o nothing

-- 1 for a lent end that is not valid, then what the call refuses ahead of 2, then 2, then what the unit decides (D112)
unfoldable pub lift : {H : Type 0} → Olt → H → Verdict → ℕ → (Shared → UnitRecord → Outcome H) → Reply Olt H
lift o nothing ahead llid call = after (on_valid (valid_olt o) ahead) o nothing (at_unit o nothing call (find o llid))
