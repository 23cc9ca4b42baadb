-- Lists of numbers in the order of a measure. Assumes nothing.
use mathlib.Core.Path.{◌≡◌, refl, sym}
use mathlib.Core.Bool.{Bool, true, false}
use mathlib.Core.List.{List, [], ◌∷◌, map}
use Prim.Native.Nat.{ℕ, zero, suc, ◌<◌, ◌≤◌, max}
use native.Mathlib.Nat.{le-max_left, le-max_right}
use native.Mathlib.Omega.{arith}
use lib.Dec.{eqb}
use borrow.Author.Tests.{leb-true, leb-false, eqb-true, eqb-false}
use Rattle.octets.specs.Choice.{pick}
use Rattle.octets.proofs.Choice.{pick_holds, pick_true}
use Rattle.unicast.proofs.Invariant.{Rising}
use Rattle.unicast.proofs.Pace.{rising_later}
use Rattle.progress.specs.GroupProgress.{before, placed, ordered, most_of}

-- what holds of each
abbrev pub Each : (ℕ → Type 0) → List ℕ → Type 0
Each P [] = Unit {0}
Each P (u ∷ us) = P u × Each P us

pub each_as : (P Q : ℕ → Type 0) (us : List ℕ) → ((u : ℕ) → P u → Q u) → Each P us → Each Q us
each_as P Q [] h e = tt
each_as P Q (u ∷ us) h e = (h u e.0, each_as P Q us h e.1)

-- of two that hold of each
pub each_both : (P Q R : ℕ → Type 0) (us : List ℕ) → ((u : ℕ) → P u → Q u → R u) → Each P us → Each Q us → Each R us
each_both P Q R [] h p q = tt
each_both P Q R (u ∷ us) h p q = (h u p.0 q.0, each_both P Q R us h p.1 q.1)

-- no two are the same
abbrev pub Distinct : List ℕ → Type 0
Distinct [] = Unit {0}
Distinct (u ∷ us) = Each (λ v. v ≡ u → ⊥) us × Distinct us

---- one more

each_placed : (P : ℕ → Type 0) (f : ℕ → ℕ) (u : ℕ) (us : List ℕ) → P u → Each P us → Each P (placed f u us)
unfolding placed
each_placed P f u [] p q = (p, tt)
each_placed P f u (v ∷ vs) p q =
    pick_holds (Each P) _ (u ∷ v ∷ vs) (v ∷ placed f u vs) (λ e. (p, q)) (λ e. (q.0, each_placed P f u vs p q.1))

placed_each : (P : ℕ → Type 0) (f : ℕ → ℕ) (u : ℕ) (us : List ℕ) → Each P (placed f u us) → P u × Each P us
unfolding placed pick
placed_each P f u [] q = (q.0, tt)
placed_each P f u (v ∷ vs) q = by_test (before f u v) (placed_each P f u vs) q where
  by_test : (t : Bool) → (Each P (placed f u vs) → P u × Each P vs) → Each P (pick t (u ∷ v ∷ vs) (v ∷ placed f u vs))
      → P u × Each P (v ∷ vs)
  by_test true rest e = e
  by_test false rest e = let r = rest e.1 in (r.0, (e.0, r.1))

distinct_placed : (f : ℕ → ℕ) (u : ℕ) (us : List ℕ) → Each (λ v. v ≡ u → ⊥) us → Distinct us → Distinct (placed f u us)
unfolding placed
distinct_placed f u [] n d = (tt, tt)
distinct_placed f u (v ∷ vs) n d =
    pick_holds Distinct _ (u ∷ v ∷ vs) (v ∷ placed f u vs) (λ e. (n, d))
    (λ e. (each_placed (λ x. x ≡ v → ⊥) f u vs (λ z. n.0 (sym z)) d.0, distinct_placed f u vs n.1 d.1))

rising_placed : (f : ℕ → ℕ) (u lo hi : ℕ) (us : List ℕ) → lo ≤ f u → f u ≤ hi → Rising lo hi (map f us)
    → Rising lo hi (map f (placed f u us))
unfolding placed
rising_placed f u lo hi [] a b r = (a, b)
rising_placed f u lo hi (v ∷ vs) a b r =
    pick_holds (λ ys. Rising lo hi (map f ys)) (before f u v) (u ∷ v ∷ vs) (v ∷ placed f u vs)
    (λ e. (a, (leb-true (f u) (f v) e, r.1)))
    (λ e. (r.0, rising_placed f u (f v) hi vs (omega (arith, leb-false (f u) (f v) e)) b r.1))

---- all that pass the test

module _ (p : ℕ → Bool) (f : ℕ → ℕ) where
  pub each_ordered : (P : ℕ → Type 0) (n : ℕ) → ((u : ℕ) → u < n → p u ≡ true → P u) → Each P (ordered p f n)
  unfolding ordered
  each_ordered P zero h = tt
  each_ordered P (suc n) h =
      let rest = each_ordered P n (λ u q e. h u (omega (arith, q)) e) in
      pick_holds (Each P) (p n) (placed f n (ordered p f n)) (ordered p f n) (λ e. each_placed P f n (ordered p f n) (h n (omega arith) e) rest)
      (λ e. rest)

  -- and back
  pub ordered_each : (P : ℕ → Type 0) (n u : ℕ) → u < n → p u ≡ true → Each P (ordered p f n) → P u
  unfolding ordered pick
  ordered_each P zero u h e q = absurd (omega (arith, h))
  ordered_each P (suc n) u h e q = by_place (eqb u n) refl (ordered_each P n u) where
    rest : (t : Bool) → Each P (pick t (placed f n (ordered p f n)) (ordered p f n)) → Each P (ordered p f n)
    rest true r = (placed_each P f n (ordered p f n) r).1
    rest false r = r

    by_place : (t : Bool) → eqb u n ≡ t → (u < n → p u ≡ true → Each P (ordered p f n) → P u) → P u
    by_place true z before =
        let same : u ≡ n = eqb-true u n z in
        rw same (placed_each P f n (ordered p f n) (rw (pick_true (placed f n (ordered p f n)) (ordered p f n) (rw same at e)) at q)).0
    by_place false z before = before (omega (arith, h, eqb-false u n z)) e (rest (p n) q)

  pub distinct_ordered : (n : ℕ) → Distinct (ordered p f n)
  unfolding ordered
  distinct_ordered zero = tt
  distinct_ordered (suc n) =
      let rest = distinct_ordered n in
      let others = each_ordered (λ v. v ≡ n → ⊥) n (λ v h e z. omega (arith, h, z)) in
      pick_holds Distinct (p n) (placed f n (ordered p f n)) (ordered p f n) (λ e. distinct_placed f n (ordered p f n) others rest) (λ e. rest)

  pub ordered_rising : (n : ℕ) → Rising 0 (most_of p f n) (map f (ordered p f n))
  unfolding ordered most_of pick
  ordered_rising zero = omega arith
  ordered_rising (suc n) = by_test (p n) (ordered_rising n) where
    by_test : (t : Bool) → Rising 0 (most_of p f n) (map f (ordered p f n))
        → Rising 0 (pick t (max (f n) (most_of p f n)) (most_of p f n)) (map f (pick t (placed f n (ordered p f n)) (ordered p f n)))
    by_test true rest =
        rising_placed f n 0 (max (f n) (most_of p f n)) (ordered p f n) (omega arith) (le-max_left (f n) (most_of p f n))
        (rising_later 0 (most_of p f n) (max (f n) (most_of p f n)) (map f (ordered p f n)) (le-max_right (f n) (most_of p f n)) rest)
    by_test false rest = rest
