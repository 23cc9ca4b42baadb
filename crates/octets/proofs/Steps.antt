-- One step of a walk along a list, and its end: what loops go by. Assumes nothing.
use mathlib.Core.Path.{◌≡◌, ◌∙◌}
use mathlib.Core.Bool.{Bool, true, false}
use mathlib.Core.List.{List, [], ◌∷◌}
use Prim.Native.Nat.{ℕ, suc, ◌+◌, ◌-◌, ◌<◌, ◌≤◌}
use native.Mathlib.Numerals.{add-one}
use native.Mathlib.Omega.{arith}
use lib.ListN.{length, get_or, take, drop, length-take, drop_of_length-le}
use lib.Seq.{drop-cons, get_or-take}
use borrow.Author.Tests.{eq-eqb, ne_eqb}
use Rattle.octets.specs.Choice.{both}
use Rattle.octets.specs.Lists.{tabulate, same, all}

---- along what is tabulated

pub tabulate_step : {A : Type 0} (j n : ℕ) (f : ℕ → A) → j < n → tabulate j (n - j) f ≡ f j ∷ tabulate (j + 1) (n - (j + 1)) f
tabulate_step j n f h = let e : n - j ≡ suc (n - suc j) = omega arith in rw (e, add-one)

pub tabulate_end : {A : Type 0} (j n : ℕ) (f : ℕ → A) → n ≤ j → tabulate j (n - j) f ≡ []
tabulate_end j n f h = let e : n - j ≡ 0 = omega arith in rw e

---- along a list

pub drop_step : {A : Type 0} (l : List A) (i : ℕ) (d : A) → i < length l → drop i l ≡ get_or l i d ∷ drop (i + 1) l
drop_step l i d h = rw add-one (drop-cons l i d h)

pub same_hit : (a b : List ℕ) (i : ℕ) → i < length a → i < length b → get_or a i 0 ≡ get_or b i 0
    → same (drop i a) (drop i b) ≡ same (drop (i + 1) a) (drop (i + 1) b)
unfolding same both
same_hit a b i h h' e = rw (drop-cons a i 0 h, drop-cons b i 0 h', add-one, eq-eqb _ _ e)

pub same_miss : (a b : List ℕ) (i : ℕ) → i < length a → i < length b → (get_or a i 0 ≡ get_or b i 0 → ⊥)
    → same (drop i a) (drop i b) ≡ false
unfolding same both
same_miss a b i h h' e = rw (drop-cons a i 0 h, drop-cons b i 0 h', ne_eqb _ _ e)

pub same_end : (a b : List ℕ) (i : ℕ) → length a ≤ i → length b ≤ i → same (drop i a) (drop i b) ≡ true
unfolding same
same_end a b i h h' = rw (drop_of_length-le a h, drop_of_length-le b h')

---- along the first n of a list

pub first_step : {A : Type 0} (n : ℕ) (l : List A) (i : ℕ) (d : A) → i < n → i < length l
    → drop i (take n l) ≡ get_or l i d ∷ drop (i + 1) (take n l)
first_step n l i d h k =
    let low : i < length (take n l) = simp length-take (omega arith) in
    drop_step (take n l) i d low ∙ rw (get_or-take n l i d h)

pub first_end : {A : Type 0} (n : ℕ) (l : List A) (i : ℕ) → n ≤ i → drop i (take n l) ≡ []
first_end n l i h = let k : length (take n l) ≤ i = simp length-take (omega arith) in drop_of_length-le (take n l) k

pub first_past : {A : Type 0} (n : ℕ) (l : List A) (i : ℕ) → length l ≤ i → drop i (take n l) ≡ []
first_past n l i h = let k : length (take n l) ≤ i = simp length-take (omega arith) in drop_of_length-le (take n l) k

pub all_hit : {A : Type 0} (p : A → Bool) (n : ℕ) (l : List A) (i : ℕ) (d : A) → i < n → i < length l → p (get_or l i d) ≡ true
    → all p (drop i (take n l)) ≡ all p (drop (i + 1) (take n l))
unfolding all both
all_hit p n l i d h k e = rw (first_step n l i d h k, e)

pub all_miss : {A : Type 0} (p : A → Bool) (n : ℕ) (l : List A) (i : ℕ) (d : A) → i < n → i < length l → p (get_or l i d) ≡ false
    → all p (drop i (take n l)) ≡ false
unfolding all both
all_miss p n l i d h k e = rw (first_step n l i d h k, e)

pub all_end : {A : Type 0} (p : A → Bool) (n : ℕ) (l : List A) (i : ℕ) → n ≤ i → all p (drop i (take n l)) ≡ true
unfolding all
all_end p n l i h = rw (first_end n l i h)
