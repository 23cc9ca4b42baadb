-- Laws of what is in a list. Assumes nothing.
use mathlib.Core.Path.{◌≡◌, refl, sym, subst}
use mathlib.Core.List.Memᴰ
use mathlib.Core.List.{List, [], ◌∷◌, ◌++◌, Memᴰ}
use mathlib.Core.Logic.{⊎_elim}
use Prim.Native.Nat.{ℕ, zero, suc, ◌<◌}
use native.Mathlib.Nat.{le_of_suc-le-suc, not-suc-le-zero}
use lib.ListN.{length, get_or}

pub mem_at : {A : Type 0} (l : List A) (i : ℕ) (d : A) → i < length l → Memᴰ (get_or l i d) l
mem_at [] i d h = absurd (not-suc-le-zero h)
mem_at (x ∷ xs) zero d h = Memᴰ.head refl
mem_at (x ∷ xs) (suc i) d h = Memᴰ.tail (mem_at xs i d (le_of_suc-le-suc h))

-- what holds of each, and of one more
pub each_more : {A : Type 0} (P : A → Type 0) (l : List A) (a : A) → ((x : A) → Memᴰ x l → P x) → P a
    → (x : A) → Memᴰ x (l ++ (a ∷ [])) → P x
each_more P l a old new x m =
    ⊎_elim (λ (k : Memᴰ x l). old x k) (λ k. subst P (sym (Memᴰ.eq_of_singleton k)) new) (Memᴰ.append_cases l m)

-- nothing is in an empty list
pub none_in : {A P : Type 0} (l : List A) (x : A) → l ≡ [] → Memᴰ x l → P
none_in {A} l x e m = absurd (Memᴰ.not-nil (rw e at m))
