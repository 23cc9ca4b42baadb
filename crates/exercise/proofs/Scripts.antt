-- Scripts by their steps: what a loop over them has done and what is left. Assumes nothing.
use mathlib.Core.Path.{◌≡◌, refl, sym, ap}
use mathlib.Core.Bool.{Bool, true, false, not, ◌&&◌}
use mathlib.Core.List.{List}
use Prim.Native.Nat.{ℕ, zero, suc, ◌+◌, ◌*◌, ◌-◌, ◌≤◌, ◌<◌}
use native.Mathlib.Omega.{arith}
use lib.Dec.{eqb}
use lib.ListN.{length}
use borrow.Author.Tests.{leb-true, not-false}
use Rattle.std.specs.Prelude.{Option, Some, None}
use Rattle.octets.specs.Choice.{both}
use Rattle.octets.specs.Each.{each}
use Rattle.octets.proofs.Choice.{both_left, both_right, pick_true, pick_false}
use Rattle.refusal.proofs.Order.{refuse_accepted}
use Rattle.exercise.specs.declared.Play.{Play}
use Rattle.exercise.specs.declared.Step.{Step}
use Rattle.exercise.specs.Script.{interval_octets, step_octets, most_steps, steps_in, step_at, step_fits, steps_fit, interval_fits, script_fits, script_verdict}
use Rattle.exercise.specs.Play.{stepped, played_from}
use Rattle.exercise.specs.declared.Figures.{Figures}
use Rattle.exercise.specs.Losses.{same_figures, figures_without, matters, first_from}
use Rattle.refusal.specs.Verdict.{no_refusal}

-- a loop starts with all of them
pub from_start : {A : Type 0} (f : ℕ → A) (m : ℕ) → f m ≡ f (m - 0)
from_start f m = ap f (omega arith)

-- the steps are tested one by one
pub fits_each : (s : List ℕ) (i m : ℕ) → each i m (λ j. step_fits (step_at s j)) ≡ steps_fit s i m
unfolding each steps_fit
fits_each s i zero = refl
fits_each s i (suc m) = rw (fits_each s (suc i) m)

pub played_on : (s : List ℕ) (lost i m : ℕ) (p q : Play) (x : Option Step) → i < m → x ≡ step_at s i → q ≡ stepped x (i + 1) (eqb (i + 1) lost) p
    → played_from s lost i (m - i) p ≡ played_from s lost (i + 1) (m - (i + 1)) q
unfolding played_from
played_on s lost i m p q x h a b =
    let e : m - i ≡ suc (m - (i + 1)) = omega arith in
    let f : i + 1 ≡ suc i = omega arith in
    rw (b, a, e, f)

pub played_start : (s : List ℕ) (lost m : ℕ) (p : Play) → played_from s lost 0 m p ≡ played_from s lost 0 (m - 0) p
played_start s lost m p = from_start (λ (n : ℕ). played_from s lost 0 n p) m

pub played_end : (s : List ℕ) (lost i m : ℕ) (p : Play) → m ≤ i → played_from s lost i (m - i) p ≡ p
unfolding played_from
played_end s lost i m p h = let e : m - i ≡ 0 = omega arith in rw e

-- whether two differ, asked of all three figures, is whether the step matters
pub matters_told : (s : List ℕ) (k : ℕ) (x y : Figures) (r t : Bool) → x ≡ figures_without s 0 → y ≡ figures_without s k
    → r ≡ not (eqb x.active y.active && (eqb x.confirmed y.confirmed && eqb x.unit y.unit)) → r ≡ t → matters s k ≡ t
unfolding matters same_figures both
matters_told s k x y r t a b e q =
    rw (← a, ← b, ← q, e, and_both) (ap (λ u. not (both (eqb x.active y.active) u)) (sym (and_both (eqb x.confirmed y.confirmed) _))) where
      and_both : (a b : Bool) → (a && b) ≡ both a b
      and_both true b = refl
      and_both false b = refl

-- step k of m, counted from 1, does not matter
pub first_on : (s : List ℕ) (k m : ℕ) → 1 ≤ k → k ≤ m → matters s k ≡ false → first_from s (k - 1) (m + 1 - k) ≡ first_from s k (m - k)
unfolding first_from
first_on s k m g h q =
    let e : m + 1 - k ≡ suc (m - k) = omega arith in
    let f : suc (k - 1) ≡ k = omega arith in
    rw (e, f) (pick_false _ _ q)

pub first_here : (s : List ℕ) (k m : ℕ) → 1 ≤ k → k ≤ m → matters s k ≡ true → first_from s (k - 1) (m + 1 - k) ≡ Some k
unfolding first_from
first_here s k m g h q =
    let e : m + 1 - k ≡ suc (m - k) = omega arith in
    let f : suc (k - 1) ≡ k = omega arith in
    rw (e, f) (pick_true _ _ q)

pub first_end : (s : List ℕ) (k n : ℕ) → n ≡ 0 → first_from s k n ≡ None
unfolding first_from
first_end s k n h = rw h

-- the sizes of a script that is accepted
pub record Sizes (s : List ℕ) : Type 0 where
  pub interval : interval_octets ≤ length s
  pub few : steps_in s ≤ most_steps
  pub whole : interval_octets + step_octets * steps_in s ≤ length s

pub steps_whole : (s : List ℕ) → interval_octets ≤ length s → interval_octets + step_octets * steps_in s ≤ length s
unfolding steps_in
steps_whole s h = omega arith

pub sizes : (s : List ℕ) → script_verdict s ≡ no_refusal → Sizes s
unfolding script_verdict interval_fits script_fits
sizes s h =
    let one = refuse_accepted _ _ _ h in
    let two = refuse_accepted _ _ _ one.1 in
    let long = leb-true interval_octets (length s) (both_left _ _ (not-false _ one.0)) in
    record {
      interval = long;
      few = leb-true (steps_in s) most_steps (both_left _ _ (both_right _ _ (not-false _ two.0)));
      whole = steps_whole s long;
    }
