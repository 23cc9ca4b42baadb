-- What the verdict makes of a call on a unit. Assumes nothing.
use Rattle.std.specs.Prelude.{Ok, Err}
use Rattle.std.proofs.Common.{◌≡◌, refl}
use Rattle.refusal.specs.Order.{and_then}
use Rattle.protocol.specs.Lift.{Outcome}
use Rattle.ends.specs.declared.Shared.{Shared}
use Rattle.ends.specs.declared.UnitRecord.{UnitRecord}
use Rattle.unit.specs.Reached.{if_accepted, reached}
use Rattle.refusal.specs.Verdict.{Verdict, no_refusal}

-- accepted on the way and by the unit, it is what the call decided
pub reached_accepted : {H : Type 0} (way : Verdict) (nothing : H) (s : Shared) (u : UnitRecord) (c : Outcome H)
    → and_then way c.verdict ≡ no_refusal
    → reached way nothing s u c ≡ record { verdict = no_refusal; unit = c.unit; channels = c.channels; handed = c.handed }
unfolding reached if_accepted
reached_accepted way nothing s u c e = rw e

-- a choice of one thing
pub if_same : {A : Type 0} (v : Verdict) (a : A) → if_accepted v a a ≡ a
unfolding if_accepted
if_same (Ok tt) a = refl
if_same (Err r) a = refl
