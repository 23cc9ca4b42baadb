-- Laws of joined tests and of a choice. Assumes nothing.
use mathlib.Core.Path.{◌≡◌, refl, sym, ◌∙◌}
use mathlib.Core.Bool.{Bool, true, false, not}
use mathlib.Core.Logic.{◌⊎◌, inl, inr}
use Prim.Native.Nat.{ℕ}
use native.Mathlib.Omega.{arith}
use Rattle.octets.specs.Choice.{both, either, pick}

pub true_false : {P : Type 0} → true ≡ false → P
true_false e = let z : ◌≡◌ {A = ℕ} 0 1 = cc in absurd (omega arith)

---- both

pub both_left : (a b : Bool) → both a b ≡ true → a ≡ true
unfolding both
both_left true b e = refl
both_left false b e = e

pub both_right : (a b : Bool) → both a b ≡ true → b ≡ true
unfolding both
both_right true b e = e
both_right false b e = let z : false ≡ true = e in cc

pub both_true : {a b : Bool} → a ≡ true → b ≡ true → both a b ≡ true
unfolding both
both_true p q = rw (p, q)

pub both_false_left : {a : Bool} (b : Bool) → a ≡ false → both a b ≡ false
unfolding both
both_false_left b e = rw e

pub both_false_right : (a : Bool) {b : Bool} → b ≡ false → both a b ≡ false
unfolding both
both_false_right true e = e
both_false_right false e = refl

pub both_false_then : (a b : Bool) → both a b ≡ false → a ≡ true → b ≡ false
unfolding both
both_false_then true b e f = e
both_false_then false b e f = true_false (sym f)

pub then_both_false : (a b : Bool) → (a ≡ true → b ≡ false) → both a b ≡ false
unfolding both
then_both_false true b h = h refl
then_both_false false b h = refl

-- of two tests that are not both true, where the second is, the first is not
pub not_both : (a b : Bool) → (a ≡ true → b ≡ false) → b ≡ true → a ≡ false
not_both true b h e = true_false (sym e ∙ h refl)
not_both false b h e = refl

---- at least one

pub either_false : (a b : Bool) → either a b ≡ false → (a ≡ false) × (b ≡ false)
unfolding either
either_false true b e = let z : true ≡ false = e in (cc, cc)
either_false false b e = (refl, e)

pub either_left : {a : Bool} (b : Bool) → a ≡ true → either a b ≡ true
unfolding either
either_left b e = rw e

pub either_right : (a : Bool) {b : Bool} → b ≡ true → either a b ≡ true
unfolding either
either_right true e = refl
either_right false e = e

pub either_none : {a b : Bool} → a ≡ false → b ≡ false → either a b ≡ false
unfolding either
either_none p q = rw (p, q)

pub either_cases : (a b : Bool) → either a b ≡ true → (a ≡ true) ⊎ (b ≡ true)
unfolding either
either_cases true b e = inl refl
either_cases false b e = inr e

pub either_swap : (a b c d : Bool) → either (either a b) (either c d) ≡ either (either a c) (either b d)
unfolding either
either_swap true b c d = refl
either_swap false false c d = refl
either_swap false true true d = refl
either_swap false true false d = refl

pub either_assoc : (a b c : Bool) → either (either a b) c ≡ either a (either b c)
unfolding either
either_assoc true b c = refl
either_assoc false b c = refl

---- not

pub not_of_true : {a : Bool} → a ≡ true → not a ≡ false
not_of_true e = rw e

pub not_of_false : {a : Bool} → a ≡ false → not a ≡ true
not_of_false e = rw e

---- a choice

pub pick_true : {A : Type 0} {t : Bool} (a b : A) → t ≡ true → pick t a b ≡ a
unfolding pick
pick_true a b e = rw e

pub pick_false : {A : Type 0} {t : Bool} (a b : A) → t ≡ false → pick t a b ≡ b
unfolding pick
pick_false a b e = rw e

pub pick_same : {A : Type 0} (t : Bool) (a : A) → pick t a a ≡ a
unfolding pick
pick_same true a = refl
pick_same false a = refl

-- what holds of both holds of the choice
pub pick_holds : {A : Type 0} (P : A → Type 0) (t : Bool) (a b : A) → (t ≡ true → P a) → (t ≡ false → P b) → P (pick t a b)
unfolding pick
pick_holds P true a b p q = p refl
pick_holds P false a b p q = q refl

-- a choice that comes to what its second is not has passed the test
pub pick_first : {A : Type 0} (t : Bool) (a b c : A) → (b ≡ c → true ≡ false) → pick t a b ≡ c → (t ≡ true) × (a ≡ c)
unfolding pick
pick_first true a b c n e = (refl, e)
pick_first false a b c n e = true_false (n e)
