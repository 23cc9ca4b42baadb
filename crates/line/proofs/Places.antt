-- Laws of lists by their places: what is replaced at one place, and a map that leaves each place. Assumes nothing.
use mathlib.Core.Path.{◌≡◌, refl, sym, ◌∙◌, ap, ap₂}
use mathlib.Core.List.{List, [], ◌∷◌, map}
use Prim.Native.Nat.{ℕ, zero, suc, ◌<◌, ◌≤◌}
use native.Mathlib.Omega.{arith}
use lib.ListN.{length, get_or, set, get_or-map}
use lib.Seq.{map-set_same}

pub map_set : {A B : Type 0} (f : A → B) (l : List A) (i : ℕ) (a : A) → map f (set l i a) ≡ set (map f l) i (f a)
map_set f [] i a = refl
map_set f (x ∷ l) zero a = refl
map_set {A} {B} f (x ∷ l) (suc i) a = ap (λ (m : List B). f x ∷ m) (map_set f l i a)

-- two maps that agree at each place
pub map_each : {A B : Type 0} (f g : A → B) (l : List A) (d : A) → ((i : ℕ) → i < length l → f (get_or l i d) ≡ g (get_or l i d))
    → map f l ≡ map g l
map_each f g [] d h = refl
map_each {A} {B} f g (x ∷ l) d h =
    ap₂ (λ (y : B) (m : List B). y ∷ m) (h 0 (omega arith)) (map_each f g l d (λ i k. h (suc i) (omega (arith, k))))

pub map_itself : {A : Type 0} (l : List A) → map (λ (x : A). x) l ≡ l
map_itself [] = refl
map_itself {A} (x ∷ l) = ap (λ (m : List A). x ∷ m) (map_itself l)

-- a map that leaves each place
pub map_stays : {A : Type 0} (f : A → A) (l : List A) (d : A) → ((i : ℕ) → i < length l → f (get_or l i d) ≡ get_or l i d) → map f l ≡ l
map_stays {A} f l d h = map_each f (λ (x : A). x) l d h ∙ map_itself l

-- two ways round
pub map_square : {A B C D : Type 0} (f : B → D) (g : A → B) (h : C → D) (k : A → C) (l : List A) (d : A)
    → ((i : ℕ) → i < length l → f (g (get_or l i d)) ≡ h (k (get_or l i d))) → map f (map g l) ≡ map h (map k l)
map_square f g h k [] d e = refl
map_square {A} {B} {C} {D} f g h k (x ∷ l) d e =
    ap₂ (λ (y : D) (m : List D). y ∷ m) (e 0 (omega arith)) (map_square f g h k l d (λ i p. e (suc i) (omega (arith, p))))

-- one that leaves every place but i
pub map_one : {A : Type 0} (f : A → A) (l : List A) (i : ℕ) (d : A) → i < length l
    → ((k : ℕ) → k < length l → (k ≡ i → ⊥) → f (get_or l k d) ≡ get_or l k d) → map f l ≡ set l i (f (get_or l i d))
map_one f [] i d h n = refl
map_one {A} f (x ∷ l) zero d h n =
    ap (λ (m : List A). f x ∷ m) (map_stays f l d (λ k p. n (suc k) (omega (arith, p)) (λ e. omega arith)))
map_one {A} f (x ∷ l) (suc i) d h n =
    ap₂ (λ (y : A) (m : List A). y ∷ m) (n 0 (omega arith) (λ e. omega arith))
    (map_one f l i d (omega (arith, h)) (λ k p e. n (suc k) (omega (arith, p)) (λ q. e (omega (arith, q)))))

-- what an element put in place i has of the old one, every place has
pub set_field : {A B : Type 0} (q : A → B) (l : List A) (i : ℕ) (y d : A) → q y ≡ q (get_or l i d) → (k : ℕ)
    → q (get_or (set l i y) k d) ≡ q (get_or l k d)
set_field {A} {B} q l i y d e k =
    sym (get_or-map q (set l i y) k d) ∙ ap (λ (m : List B). get_or m k (q d)) (map-set_same q l i y d e) ∙ get_or-map q l k d

-- what holds of every place, and of the element put in place i, holds of every place then
pub set_holds : {A : Type 0} (P : ℕ → A → Type 0) (l : List A) (i : ℕ) (y d : A) → ((k : ℕ) → P k (get_or l k d)) → P i y
    → (k : ℕ) → P k (get_or (set l i y) k d)
set_holds P [] i y d p q k = p k
set_holds P (x ∷ l) zero y d p q zero = q
set_holds P (x ∷ l) zero y d p q (suc k) = p (suc k)
set_holds P (x ∷ l) (suc i) y d p q zero = p 0
set_holds {A} P (x ∷ l) (suc i) y d p q (suc k) = set_holds (λ (n : ℕ) (z : A). P (suc n) z) l i y d (λ n. p (suc n)) q k

-- what holds of each mapped element, and of what stands past the end
pub map_holds : {A B : Type 0} (P : ℕ → B → Type 0) (f : A → B) (l : List A) (d : A) (e : B) → ((k : ℕ) → k < length l → P k (f (get_or l k d)))
    → ((k : ℕ) → length l ≤ k → P k e) → (k : ℕ) → P k (get_or (map f l) k e)
map_holds P f [] d e p q k = q k (omega arith)
map_holds P f (x ∷ l) d e p q zero = p 0 (omega arith)
map_holds {A} {B} P f (x ∷ l) d e p q (suc k) =
    map_holds (λ (n : ℕ) (y : B). P (suc n) y) f l d e (λ n h. p (suc n) (omega (arith, h))) (λ n h. q (suc n) (omega (arith, h))) k
