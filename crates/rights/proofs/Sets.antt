-- Laws of the set of an LLID. Assumes nothing.
use mathlib.Core.Path.{◌≡◌, refl, sym, ap, ◌∙◌}
use mathlib.Core.Bool.{Bool, true, false}
use mathlib.Core.Logic.{⊎_elim}
use mathlib.Core.List.{List}
use Prim.Native.Nat.{ℕ, zero, suc, ◌+◌, ◌*◌, ◌≤◌, ◌<◌}
use native.Mathlib.Nat.{mul-le-mul_left, le_of_lt, eq-or-lt_of_le}
use native.Mathlib.Numerals.{add-one}
use native.Mathlib.Omega.{arith}
use Rattle.std.specs.List.{find, range_with_len}
use Rattle.std.specs.Option.{unwrap_or}
use Rattle.std.specs.Prelude.{Some, cond}
use lib.Dec.{eqb}
use borrow.Author.Tests.{eqb-true, eqb-false, eq-eqb}
use Rattle.octets.specs.Choice.{pick}
use Rattle.octets.proofs.Choice.{pick_holds}
use Rattle.octets.proofs.Each.{each_at, each_true}
use Rattle.records.specs.Settings.{llid_of}
use Rattle.rights.specs.declared.settings.Caller.{Caller}
use Rattle.rights.specs.Settings.{set_of, set_from, set_for}
use Rattle.rights.specs.Verdict.{llids_differ}
use Rattle.rights.specs.Claims.{OneSetEach, Repeats}

-- set j is the first of its LLID
abbrev pub First : Caller → List ℕ → ℕ → Bool
First c s j = eqb (set_for c s (llid_of (set_of s j))) j

-- set j is of that LLID
abbrev pub Of : List ℕ → ℕ → ℕ → Bool
Of s l j = eqb (llid_of (set_of s j)) l

-- the first set of an LLID is the first number whose set is of that LLID
pub set_first : (s : List ℕ) (l j m n : ℕ) → n ≡ j + m → unwrap_or (find (Of s l) (range_with_len j m)) n ≡ set_from s l j m
unfolding set_from pick
set_first s l j zero n e = omega arith
set_first s l j (suc m) n e =
    elim (Of s l j) as (λ b. unwrap_or (cond b (Some j) (find (Of s l) (range_with_len (j + 1) m))) n ≡ pick b j (set_from s l (suc j) m))
    [ true ↦ refl | false ↦ rw add-one (set_first s l (suc j) m n (omega arith)) ]

-- two octets' product is small
pub product_below : (a b : ℕ) → a < 256 → b < 256 → a * b < 65536
product_below a b p q = let m : a * b ≤ a * 256 = mul-le-mul_left a (le_of_lt q) in omega arith

---- the set that is found is that of the LLID
pub set_found : (s : List ℕ) (l j m : ℕ) → set_from s l j m < j + m → llid_of (set_of s (set_from s l j m)) ≡ l
unfolding set_from
set_found s l j zero h = absurd (omega arith)
set_found s l j (suc m) h =
    pick_holds (λ x. x < j + suc m → llid_of (set_of s x) ≡ l) (eqb (llid_of (set_of s j)) l) j _ (λ e f. eqb-true _ _ e)
    (λ e f. set_found s l (suc j) m (omega arith)) h

-- one that there is is found
pub set_inside : (s : List ℕ) (l j m k : ℕ) → j ≤ k → k < j + m → llid_of (set_of s k) ≡ l → set_from s l j m < j + m
unfolding set_from
set_inside s l j zero k h b f = absurd (omega arith)
set_inside s l j (suc m) k h b f =
    pick_holds (λ x. x < j + suc m) (eqb (llid_of (set_of s j)) l) j _ (λ e. omega arith)
    (λ e.
    let behind : suc j ≤ k =
    ⊎_elim (λ z. absurd (eqb-false _ _ e (ap (λ (x : ℕ). llid_of (set_of s x)) z ∙ f))) (λ g. g) (eq-or-lt_of_le {n = j} {m = k} h) in
    omega (arith, set_inside s l (suc j) m k behind (omega arith) f))

-- what the test for an LLID twice tells
own_place : (c : Caller) (s : List ℕ) → llids_differ c s ≡ true → (j : ℕ) → j < c.sets → set_for c s (llid_of (set_of s j)) ≡ j
unfolding llids_differ
own_place c s e j h = eqb-true _ _ (each_at 0 c.sets (First c s) j e (omega arith) (omega arith))

only_twice : (c : Caller) (s : List ℕ) → OneSetEach c s → llids_differ c s ≡ true
unfolding llids_differ
only_twice c s d =
    each_true 0 c.sets (First c s)
    (λ k l h.
    let i = set_inside s (llid_of (set_of s k)) 0 c.sets k (omega arith) (omega arith) refl in
    eq-eqb _ _ (d _ k (omega (arith, i)) (omega arith) (set_found s (llid_of (set_of s k)) 0 c.sets (omega (arith, i)))))

pub repeats : (c : Caller) (s : List ℕ) → Repeats c s
repeats c s =
    record {
      passed = λ e j k a b f. sym (own_place c s e j a) ∙ ap (set_for c s) f ∙ own_place c s e k b;
      only = only_twice c s;
    }
