-- Lists by their elements, and their parts. Assumes nothing.
use Rattle.std.specs.Prelude.{Bool, true, false, List, [], ◌∷◌, ◌++◌, ℕ, zero, suc, ◌+◌, ◌-◌, eqb, length, take, drop}
use Rattle.octets.specs.Choice.{both}

-- f at the n numbers from i on
abbrev pub tabulate : {A : Type 0} → ℕ → ℕ → (ℕ → A) → List A
tabulate i zero f = []
tabulate i (suc n) f = f i ∷ tabulate (suc i) n f

-- the sum of f at the n numbers from i on
abbrev pub sum : ℕ → ℕ → (ℕ → ℕ) → ℕ
sum i zero f = 0
sum i (suc n) f = f i + sum (suc i) n f

-- the n elements of s from place `at` on
abbrev pub part : {A : Type 0} → List A → ℕ → ℕ → List A
part s at n = take n (drop at s)

-- s with the elements of t in the places from `at` on
abbrev pub replaced : {A : Type 0} → List A → ℕ → List A → List A
replaced s at t = take at s ++ (t ++ drop (length t) (drop at s))

-- s with t's own elements in the places from a up to e
abbrev pub written : {A : Type 0} → List A → ℕ → ℕ → List A → List A
written t a e s = take a s ++ (take (e - a) (drop a t) ++ drop e s)

-- t with as many elements of s as both have in its first places
abbrev pub copied : {A : Type 0} → List A → List A → List A
copied s t = take (length t) s ++ drop (length s) t

-- the same in its places from `at` on
abbrev pub copied_at : {A : Type 0} → List A → ℕ → List A → List A
copied_at s at t = take at t ++ copied s (drop at t)

-- the two lists are the same
unfoldable pub same : List ℕ → List ℕ → Bool
same [] [] = true
same [] (y ∷ ys) = false
same (x ∷ xs) [] = false
same (x ∷ xs) (y ∷ ys) = both (eqb x y) (same xs ys)

-- the test holds of each
unfoldable pub all : {A : Type 0} → (A → Bool) → List A → Bool
all p [] = true
all p (x ∷ xs) = both (p x) (all p xs)
