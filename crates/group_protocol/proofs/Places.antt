-- Where a number stands that was found in a list, and that it is found where it stands. Assumes nothing.
use Rattle.std.specs.Prelude.{Some, None}
use mathlib.Core.Path.{◌≡◌, refl, sym, ◌∙◌, ap}
use mathlib.Core.Bool.{Bool, true, false}
use mathlib.Core.List.{List, [], ◌∷◌}
use Prim.Native.Nat.{ℕ, zero, suc, ◌+◌, ◌-◌, ◌≤◌, ◌<◌}
use native.Mathlib.Nat.{not-suc-le-zero, le_of_suc-le-suc}
use native.Mathlib.Omega.{arith}
use lib.Dec.{eqb}
use lib.ListN.{length, get_or}
use borrow.Author.Tests.{eqb-true, eq-eqb, ne_eqb, not-true}
use Rattle.octets.specs.Choice.{either, pick}
use Rattle.octets.proofs.Choice.{both_left, both_right, either_left, either_right, either_none, pick_true, pick_false, true_false}
use Rattle.ends.specs.Identities.{among, distinct}
use Rattle.group_protocol.specs.Members.{place_from}

pub at_nowhere : {P : Type 0} (k : ℕ) → Some k ≡ None → P
at_nowhere k e = let z : ◌≡◌ {A = ℕ} 0 1 = cc in absurd (omega arith)

-- place k of the numbers listed from place i on has the number
pub record Placed (i : ℕ) (l : List ℕ) (x k : ℕ) : Type 0 where
  pub low : i ≤ k
  pub below : k < i + length l
  pub has : get_or l (k - i) 0 ≡ x

pub place_at : (i : ℕ) (l : List ℕ) (x k : ℕ) → place_from i l x ≡ Some k → Placed i l x k
unfolding place_from pick
place_at i [] x k e = at_nowhere k (sym e)
place_at i (y ∷ l) x k e = by_head (eqb y x) refl (place_at (suc i) l x k) e where
  by_head : (t : Bool) → eqb y x ≡ t → (place_from (suc i) l x ≡ Some k → Placed (suc i) l x k)
      → pick t (Some i) (place_from (suc i) l x) ≡ Some k
      → Placed i (y ∷ l) x k
  by_head true p rest f =
      let z : i ≡ k = cc in
      let n : k - i ≡ 0 = omega arith in
      record { low = omega arith; below = omega arith; has = rw n (eqb-true y x p) }
  by_head false p rest f =
      let r = rest f in
      let n : k - i ≡ suc (k - suc i) = omega (arith, r.low) in
      record { low = omega (arith, r.low); below = omega (arith, r.below); has = rw n r.has }

-- what stands in a list is among it
pub among_at : (l : List ℕ) (i d : ℕ) → i < length l → among (get_or l i d) l ≡ true
unfolding among
among_at [] i d h = absurd (not-suc-le-zero h)
among_at (y ∷ l) zero d h = either_left _ (eq-eqb y y refl)
among_at (y ∷ l) (suc i) d h = either_right _ (among_at l i d (le_of_suc-le-suc h))

-- in a list with no number twice each is found where it stands
pub place_own : (k : ℕ) (l : List ℕ) (i d : ℕ) → distinct l ≡ true → i < length l → place_from k l (get_or l i d) ≡ Some (k + i)
unfolding place_from distinct
place_own k [] i d n h = absurd (not-suc-le-zero h)
place_own k (y ∷ l) zero d n h = pick_true (Some k) _ (eq-eqb y y refl) ∙ ap Some (omega arith)
place_own k (y ∷ l) (suc i) d n h =
    let new : among y l ≡ false = not-true _ (both_left _ _ n) in
    let below = le_of_suc-le-suc h in
    let differs : y ≡ get_or l i d → ⊥ =
    λ e. true_false (sym (among_at l i d below) ∙ ap (λ (z : ℕ). among z l) (sym e) ∙ new) in
    pick_false (Some k) _ (ne_eqb y (get_or l i d) differs) ∙ place_own (suc k) l i d (both_right _ _ n) below ∙ ap Some (omega arith)

-- a number that has a place is in the list, and one that has none is not
pub place_among : (i x : ℕ) (l : List ℕ) (j : ℕ) → place_from i l x ≡ Some j → among x l ≡ true
place_among i x l j e = let m = place_at i l x j e in rw m.has at (among_at l (j - i) 0 (omega (arith, m.low, m.below)))

pub place_absent : (i x : ℕ) (l : List ℕ) → place_from i l x ≡ None → among x l ≡ false
unfolding place_from among pick
place_absent i x [] e = refl
place_absent i x (y ∷ ys) e = by_head (eqb y x) refl (place_absent (suc i) x ys) e where
  by_head : (t : Bool) → eqb y x ≡ t → (place_from (suc i) ys x ≡ None → among x ys ≡ false)
      → pick t (Some i) (place_from (suc i) ys x) ≡ None
      → either (eqb y x) (among x ys) ≡ false
  by_head true h more f = at_nowhere i f
  by_head false h more f = either_none h (more f)
