-- Laws of the order of refusals. Assumes nothing.
use Rattle.std.specs.Prelude.{Ok, Err}
use mathlib.Core.Path.{◌≡◌, refl}
use mathlib.Core.Bool.{Bool, true, false}
use Prim.Native.Nat.{ℕ}
use native.Mathlib.Omega.{arith}
use Rattle.refusal.specs.declared.Refusal.{Refusal}
use Rattle.refusal.specs.Order.{refuse_if, and_then}
use Rattle.refusal.specs.Verdict.{Verdict, no_refusal}

pub refused_accepts : {P : Type 0} (r : Refusal) → Err r ≡ no_refusal → P
refused_accepts r e = let z : ◌≡◌ {A = ℕ} 0 1 = cc in absurd (omega arith)

-- what is accepted has passed the first cause, and goes on
pub refuse_accepted : (cause : Bool) (r : Refusal) (v : Verdict) → refuse_if cause r v ≡ no_refusal → (cause ≡ false) × (v ≡ no_refusal)
unfolding refuse_if
refuse_accepted true r v e = refused_accepts r e
refuse_accepted false r v e = (refl, e)

pub refuse_passed : (cause : Bool) (r : Refusal) (v : Verdict) → cause ≡ false → refuse_if cause r v ≡ v
unfolding refuse_if
refuse_passed cause r v e = rw e

pub refuse_stopped : (cause : Bool) (r : Refusal) (v : Verdict) → cause ≡ true → refuse_if cause r v ≡ Err r
unfolding refuse_if
refuse_stopped cause r v e = rw e

-- a list of two causes goes on with the list that follows it
pub two_then : (a : Bool) (r : Refusal) (b : Bool) (s : Refusal) (v : Verdict)
    → and_then (refuse_if a r (refuse_if b s no_refusal)) v ≡ refuse_if a r (refuse_if b s v)
unfolding and_then refuse_if
two_then true r b s v = refl
two_then false r true s v = refl
two_then false r false s v = refl

-- what two lists accept, each accepts
pub then_accepted : (u v : Verdict) → and_then u v ≡ no_refusal → (u ≡ no_refusal) × (v ≡ no_refusal)
unfolding and_then
then_accepted (Ok tt) v e = (refl, e)
then_accepted (Err r) v e = refused_accepts r e
