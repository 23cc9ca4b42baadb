-- What the first step that matters is among all. Assumes nothing.
use Rattle.std.specs.Prelude.{Option, Some, None, Ok, Err}
use mathlib.Core.Path.{◌≡◌, refl, sym, ap, ◌∙◌, subst}
use mathlib.Core.Bool.{Bool, true, false}
use mathlib.Core.List.{List}
use mathlib.Core.Logic.{◌⊎◌, inl, inr, ⊎_elim}
use Prim.Native.Nat.{ℕ, zero, suc, ◌+◌, ◌≤◌, ◌<◌}
use native.Mathlib.Omega.{arith}
use lib.Dec.{eqb}
use borrow.Author.Tests.{eqb-true, eqb-false, eq-eqb, not-false}
use Rattle.octets.specs.Choice.{pick}
use Rattle.octets.proofs.Choice.{both_left, both_right, both_true, not_of_true, pick_false}
use Rattle.exercise.specs.declared.Figures.{Figures}
use Rattle.exercise.specs.Script.{steps_in, script_verdict}
use Rattle.exercise.specs.Losses.{same_figures, figures_without, matters, first_from, answer_after, first_loss, Meant}
use Rattle.refusal.specs.Verdict.{Verdict}

three : ℕ → ℕ → ℕ → Figures
three a c u = record { active = a; confirmed = c; unit = u }

figures_same : (x y : Figures) → same_figures x y ≡ true → x ≡ y
unfolding same_figures three
figures_same x y e =
    ap (λ (n : ℕ). three n x.confirmed x.unit) (eqb-true x.active y.active (both_left _ _ e))
    ∙ (ap (λ (n : ℕ). three y.active n x.unit) (eqb-true x.confirmed y.confirmed (both_left _ _ (both_right _ _ e)))
    ∙ ap (λ (n : ℕ). three y.active y.confirmed n) (eqb-true x.unit y.unit (both_right _ _ (both_right _ _ e))))

same_figures-holds : (x y : Figures) → x ≡ y → same_figures x y ≡ true
unfolding same_figures
same_figures-holds x y e =
    rw e (both_true (eq-eqb y.active _ refl) (both_true (eq-eqb y.confirmed _ refl) (eq-eqb y.unit _ refl)))

-- a step does not matter exactly if the figures without it are those of the whole script
harmless_same : (s : List ℕ) (k : ℕ) → matters s k ≡ false → figures_without s k ≡ figures_without s 0
unfolding matters
harmless_same s k e = sym (figures_same _ _ (not-false _ e))

same_harmless : (s : List ℕ) (k : ℕ) → figures_without s k ≡ figures_without s 0 → matters s k ≡ false
unfolding matters
same_harmless s k e = not_of_true (same_figures-holds _ _ (sym e))

first_none : {P : Type 0} (k : ℕ) → Some k ≡ None → P
first_none k e = let z : ◌≡◌ {A = ℕ} 0 1 = cc in absurd (omega arith)

first_once-holds : (j k : ℕ) → Some j ≡ Some k → j ≡ k
first_once-holds j k e = cc

-- the first of the steps from step i on: it is that one, or it comes behind
first_split : (s : List ℕ) (i m : ℕ) (a : Option ℕ) → first_from s i (suc m) ≡ a
    → ((matters s (suc i) ≡ true) × (Some (suc i) ≡ a)) ⊎ ((matters s (suc i) ≡ false) × (first_from s (suc i) m ≡ a))
unfolding first_from pick
first_split s i m a e = by_test (matters s (suc i)) refl e where
  by_test : (t : Bool) → matters s (suc i) ≡ t → pick t (Some (suc i)) (first_from s (suc i) m) ≡ a
      → ((matters s (suc i) ≡ true) × (Some (suc i) ≡ a)) ⊎ ((matters s (suc i) ≡ false) × (first_from s (suc i) m ≡ a))
  by_test true q e = inl (q, e)
  by_test false q e = inr (q, e)

-- what holds of i, and of what comes behind, holds of each from i on
from_here : (P : ℕ → Type 0) (i : ℕ) → P i → ((k : ℕ) → suc i ≤ k → P k) → (k : ℕ) → i ≤ k → P k
from_here P i here behind k h = by_place (eqb i k) refl where
  by_place : (t : Bool) → eqb i k ≡ t → P k
  by_place true z = subst P (eqb-true i k z) here
  by_place false z = behind k (omega (arith, h, eqb-false i k z))

none_from : (s : List ℕ) (i m : ℕ) → first_from s i m ≡ None → (k : ℕ) → i ≤ k → k < i + m → matters s (suc k) ≡ false
none_from s i zero e k h g = absurd (omega (arith, h, g))
none_from s i (suc m) e k h g =
    ⊎_elim (λ (x : (matters s (suc i) ≡ true) × (Some (suc i) ≡ None)). first_none (suc i) x.1)
    (λ (x : (matters s (suc i) ≡ false) × (first_from s (suc i) m ≡ None)).
    from_here (λ (j : ℕ). j < i + suc m → matters s (suc j) ≡ false) i (λ _. x.0) (λ j q z. none_from s (suc i) m x.1 j q (omega (arith, z)))
    k h g)
    (first_split s i m None e)

-- and conversely
all_harmless : (s : List ℕ) (i m : ℕ) → ((k : ℕ) → i ≤ k → k < i + m → matters s (suc k) ≡ false) → first_from s i m ≡ None
unfolding first_from
all_harmless s i zero h = refl
all_harmless s i (suc m) h =
    pick_false (Some (suc i)) (first_from s (suc i) m) (h i (omega arith) (omega arith))
    ∙ all_harmless s (suc i) m (λ k g q. h k (omega (arith, g)) (omega (arith, q)))

-- the first that matters
pub record FirstAt (s : List ℕ) (i m k : ℕ) : Type 0 where
  pub from : i ≤ k
  pub below : k < i + m
  pub here : matters s (suc k) ≡ true
  pub before : (j : ℕ) → i ≤ j → j < k → matters s (suc j) ≡ false

first_from-holds : (s : List ℕ) (i m k : ℕ) → first_from s i m ≡ Some (suc k) → FirstAt s i m k
unfolding first_from
first_from-holds s i zero k e = first_none (suc k) (sym e)
first_from-holds s i (suc m) k e =
    ⊎_elim
    (λ (x : (matters s (suc i) ≡ true) × (Some (suc i) ≡ Some (suc k))).
    let q : suc i ≡ suc k = first_once-holds (suc i) (suc k) x.1 in
    record {
      from = omega (arith, q);
      below = omega (arith, q);
      here = ap (matters s) (sym q) ∙ x.0;
      before = λ j h g. absurd (omega (arith, h, g, q));
    })
    (λ (x : (matters s (suc i) ≡ false) × (first_from s (suc i) m ≡ Some (suc k))).
    let f = first_from-holds s (suc i) m k x.1 in
    record {
      from = omega (arith, f.from);
      below = omega (arith, f.below);
      here = f.here;
      before = λ j h. from_here (λ (z : ℕ). z < k → matters s (suc z) ≡ false) i (λ _. x.0) (λ z q g. f.before z q g) j h;
    })
    (first_split s i m (Some (suc k)) e)

---- of the call

after_none : (v : Verdict) (a : Option ℕ) → answer_after v a ≡ Ok None → a ≡ None
after_none (Ok tt) a e = cc
after_none (Err r) a e = cc

after_first-holds : (v : Verdict) (a : Option ℕ) (k : ℕ) → answer_after v a ≡ Ok (Some k) → a ≡ Some k
after_first-holds (Ok tt) a k e = cc
after_first-holds (Err r) a k e = cc

pub meant : (s : List ℕ) → Meant s
unfolding first_loss
meant s =
    record {
      none = λ e k h. harmless_same s (suc k) (none_from s 0 (steps_in s) (after_none (script_verdict s) _ e) k (omega arith) (omega (arith, h)));
      harmless = λ a h. rw a (ap Ok (all_harmless s 0 (steps_in s) (λ k _ q. same_harmless s (suc k) (h k (omega (arith, q))))));
      first = λ k e. let f = found k e in (omega (arith, f.below), f.here);
      before = λ k j e h. harmless_same s (suc j) ((found k e).before j (omega arith) h);
    } where
      found : (k : ℕ) → answer_after (script_verdict s) (first_from s 0 (steps_in s)) ≡ Ok (Some (suc k)) → FirstAt s 0 (steps_in s) k
      found k e = first_from-holds s 0 (steps_in s) k (after_first-holds (script_verdict s) _ (suc k) e)
