-- Laws of lists that are mapped, all their elements or the first alone. Assumes nothing.
use mathlib.Core.Path.{◌≡◌, refl, sym, ap, ap₂}
use mathlib.Core.List.{List, [], ◌∷◌, map, map-append, ◌++◌}
use Prim.Native.Nat.{ℕ, zero, suc, ◌+◌, ◌<◌}
use native.Mathlib.Nat.{le_of_suc-le-suc, not-suc-le-zero}
use native.Mathlib.Numerals.{add-one}
use lib.ListN.{length, get_or, set, take, drop}
use lib.Seq.{take-suc, take-suc-set}

---- all elements

pub map_at : {A B : Type 0} (f : A → B) (l : List A) (u : ℕ) (d : A) (e : B) → u < length l → get_or (map f l) u e ≡ f (get_or l u d)
map_at f [] u d e h = absurd (not-suc-le-zero h)
map_at f (x ∷ l) zero d e h = refl
map_at f (x ∷ l) (suc u) d e h = map_at f l u d e (le_of_suc-le-suc h)

pub map_fixed : {A : Type 0} (g : A → A) (l : List A) → ((x : A) → g x ≡ x) → map g l ≡ l
map_fixed g [] h = refl
map_fixed g (x ∷ l) h = rw (h x, map_fixed g l h)

pub map_always : {A : Type 0} (g : A → A) (l : List A) (u : ℕ) (d : A) → g d ≡ d → get_or (map g l) u d ≡ g (get_or l u d)
map_always g [] u d e = sym e
map_always g (x ∷ l) zero d e = refl
map_always g (x ∷ l) (suc u) d e = map_always g l u d e

pub map_take : {A B : Type 0} (f : A → B) (n : ℕ) (l : List A) → map f (take n l) ≡ take n (map f l)
map_take f zero l = refl
map_take f (suc n) [] = refl
map_take {A} {B} f (suc n) (x ∷ xs) = ap (λ (l : List B). f x ∷ l) (map_take f n xs)

pub map_twice : {A : Type 0} (f g h : A → A) → ((x : A) → g (f x) ≡ h x) → (l : List A) → map g (map f l) ≡ map h l
map_twice f g h e [] = refl
map_twice {A} f g h e (x ∷ xs) = ap₂ (λ (y : A) (ys : List A). y ∷ ys) (e x) (map_twice f g h e xs)

pub map_same : {A B : Type 0} (f : A → A) (g : A → B) → ((x : A) → g (f x) ≡ g x) → (l : List A) → map g (map f l) ≡ map g l
map_same f g e [] = refl
map_same {A} {B} f g e (x ∷ xs) = ap₂ (λ (y : B) (ys : List B). y ∷ ys) (e x) (map_same f g e xs)

---- the first elements

-- what is read of each is stored one by one: of one more
pub gathered : {A B : Type 0} (f : A → B) (l : List A) (r : List B) (i : ℕ) (d : A) → i < length l → i < length r → take i r ≡ map f (take i l)
    → take (i + 1) (set r i (f (get_or l i d))) ≡ map f (take (i + 1) l)
gathered f l r i d h k e = rw (add-one, take-suc-set r i (f (get_or l i d)) k, take-suc l i d h, map-append f (take i l) (get_or l i d ∷ []), e) refl

-- the first n of a list whose first n are mapped
pub take_first : {A : Type 0} (f : A → A) (n : ℕ) (l : List A) → take n (map f (take n l) ++ drop n l) ≡ map f (take n l)
take_first f zero l = refl
take_first f (suc n) [] = refl
take_first {A} f (suc n) (x ∷ xs) = ap (λ (l : List A). f x ∷ l) (take_first f n xs)

pub drop_first : {A : Type 0} (f : A → A) (n : ℕ) (l : List A) → drop n (map f (take n l) ++ drop n l) ≡ drop n l
drop_first f zero l = refl
drop_first f (suc n) [] = refl
drop_first f (suc n) (x ∷ xs) = drop_first f n xs

pub length_first : {A : Type 0} (f : A → A) (n : ℕ) (l : List A) → length (map f (take n l) ++ drop n l) ≡ length l
length_first f zero l = refl
length_first f (suc n) [] = refl
length_first f (suc n) (x ∷ xs) = ap suc (length_first f n xs)

-- one of the first n
pub get_d_first : {A : Type 0} (f : A → A) (n : ℕ) (l : List A) (i : ℕ) (d : A) → i < n → i < length l
    → get_or (map f (take n l) ++ drop n l) i d ≡ f (get_or l i d)
get_d_first f zero l i d h k = absurd (not-suc-le-zero h)
get_d_first f (suc n) [] i d h k = absurd (not-suc-le-zero k)
get_d_first f (suc n) (x ∷ xs) zero d h k = refl
get_d_first f (suc n) (x ∷ xs) (suc i) d h k = get_d_first f n xs i d (le_of_suc-le-suc h) (le_of_suc-le-suc k)

module _ {A : Type 0} (f : A → A) where
  -- the next element is still the old one
  pub first_at : (i : ℕ) (l : List A) (d : A) → get_or (map f (take i l) ++ drop i l) i d ≡ get_or l i d
  first_at zero l d = refl
  first_at (suc i) [] d = refl
  first_at (suc i) (x ∷ xs) d = first_at i xs d

  pub first_more : (i : ℕ) (l : List A) (d : A) → i < length l
      → set (map f (take i l) ++ drop i l) i (f (get_or l i d)) ≡ map f (take (suc i) l) ++ drop (suc i) l
  first_more i [] d h = absurd (not-suc-le-zero h)
  first_more zero (x ∷ xs) d h = refl
  first_more (suc i) (x ∷ xs) d h = ap (λ (l : List A). f x ∷ l) (first_more i xs d (le_of_suc-le-suc h))
