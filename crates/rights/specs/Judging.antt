-- The verdict on a record for a user (02, C-19: hidden, 1, 10, seen, 9). 2 falls away: nobody sees an LLID outside the settings.
-- Assumes nothing.
use Rattle.std.specs.Prelude.{Bool, List, ℕ, eqb, Ok, Err}
use Rattle.octets.specs.Choice.{pick}
use Rattle.refusal.specs.declared.Refusal.TheVariants.{NoKey}
use Rattle.refusal.specs.Number.{number_of}
use Rattle.records.specs.declared.header.Header.{Header}
use Rattle.records.specs.declared.near.Drift.{Drift}
use Rattle.records.specs.Near.{judged}
use Rattle.rights.specs.declared.judging.ClassVerdict.{ClassVerdict}
use Rattle.rights.specs.declared.judging.ClassVerdict.TheVariants.{Hidden, Seen, Told}
use Rattle.records.specs.declared.near.Heard.{Heard}
use Rattle.rights.specs.Rights.{may_open, may_see}
use Rattle.records.specs.Verdict.{RecordVerdict}
use Rattle.records.specs.declared.header.Access.TheVariants.{Clear, Sealed}

-- a record that may be seen but not opened: 1 and 10 are told, and 9 is not asked
unfoldable pub seen_as : RecordVerdict → ClassVerdict
seen_as (Ok Clear) = Seen
seen_as (Ok (Sealed i t)) = Seen
seen_as (Err r) = pick (eqb (number_of r) (number_of NoKey)) Seen (Told (Err r))

-- by the rights q on the record's LLID
unfoldable pub told_to : ℕ → RecordVerdict → ClassVerdict
told_to q v = pick (may_open q) (Told v) (seen_as v)

-- the verdict on a record with the header h, and the corrections behind it; s is the set of its LLID. A hidden record moves no correction, a seen one does.
unfoldable pub judged_for : Bool → ℕ → List ℕ → Drift → Header → Heard ClassVerdict
judged_for near q s drift h =
    pick (may_see q) (record { verdict = told_to q (judged near s drift h).verdict; drift = (judged near s drift h).drift })
    (record { verdict = Hidden; drift = drift })
