-- Laws of a test of each element of a list. Assumes nothing.
use mathlib.Core.Path.{◌≡◌, refl}
use mathlib.Core.Bool.{Bool, true}
use mathlib.Core.List.{List, [], ◌∷◌, ◌++◌, map}
use Prim.Native.Nat.{ℕ, zero, suc, ◌<◌}
use native.Mathlib.Nat.{le_of_suc-le-suc, not-suc-le-zero}
use native.Mathlib.Omega.{arith}
use lib.ListN.{length, get_or, take, set, length-take}
use lib.Seq.{get_or-take}
use Rattle.octets.specs.Lists.{all}
use Rattle.octets.proofs.Choice.{both_left, both_right, both_true}

module _ {A : Type 0} (p : A → Bool) where
  pub all_at : (l : List A) (i : ℕ) (d : A) → all p l ≡ true → i < length l → p (get_or l i d) ≡ true
  unfolding all
  all_at [] i d e h = absurd (not-suc-le-zero h)
  all_at (x ∷ xs) zero d e h = both_left _ _ e
  all_at (x ∷ xs) (suc i) d e h = all_at xs i d (both_right _ _ e) (le_of_suc-le-suc h)

  pub all_append : (l m : List A) → all p l ≡ true → all p m ≡ true → all p (l ++ m) ≡ true
  unfolding all
  all_append [] m e f = f
  all_append (x ∷ xs) m e f = both_true (both_left _ _ e) (all_append xs m (both_right _ _ e) f)

  pub all_set : (l : List A) (i : ℕ) (a : A) → all p l ≡ true → p a ≡ true → all p (set l i a) ≡ true
  unfolding all
  all_set [] i a e h = refl
  all_set (x ∷ xs) zero a e h = both_true h (both_right _ _ e)
  all_set (x ∷ xs) (suc i) a e h = both_true (both_left _ _ e) (all_set xs i a (both_right _ _ e) h)

pub all_map : {A B : Type 0} (p : A → Bool) (q : B → Bool) (f : A → B) → ((x : A) → p x ≡ true → q (f x) ≡ true)
    → (l : List A) → all p l ≡ true → all q (map f l) ≡ true
unfolding all
all_map p q f h [] e = refl
all_map p q f h (x ∷ xs) e = both_true (h x (both_left _ _ e)) (all_map p q f h xs (both_right _ _ e))

-- a weaker test holds of each too
pub all_weaker : {A : Type 0} (p q : A → Bool) → ((x : A) → p x ≡ true → q x ≡ true) → (l : List A) → all p l ≡ true → all q l ≡ true
unfolding all
all_weaker p q w [] e = refl
all_weaker p q w (x ∷ xs) e = both_true (w x (both_left (p x) (all p xs) e)) (all_weaker p q w xs (both_right (p x) (all p xs) e))

pub all_alike : {A : Type 0} (p q : A → Bool) → ((x : A) → p x ≡ q x) → (l : List A) → all p l ≡ all q l
unfolding all
all_alike p q h [] = refl
all_alike p q h (x ∷ xs) = rw (h x, all_alike p q h xs)

-- what holds of each of the first n holds of one
pub all_one : {A : Type 0} (p : A → Bool) (n : ℕ) (l : List A) (d : A) → all p (take n l) ≡ true → (i : ℕ) → i < n → i < length l
    → p (get_or l i d) ≡ true
all_one p n l d e i h k = rw (get_or-take n l i d h) at (all_at p (take n l) i d e (simp length-take (omega arith)))
