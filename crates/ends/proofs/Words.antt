-- The definitions of this crate in the library's words: what its methods on slices and iterators answer. Assumes nothing.
use Rattle.std.proofs.Common.{◌≡◌, ℕ, zero, suc, Bool, true, false, cond, ◌&&◌, ◌||◌, eqb, List, [], ◌∷◌, map, Option, Some, refl, add-one}
use Rattle.std.specs.List.{list_any, position_from, range_with_len}
use Rattle.std.specs.Cmp.Lexicographic.{pointwise}
use Rattle.octets.specs.Choice.{both, either, pick}
use Rattle.octets.specs.Lists.{same, tabulate}
use Rattle.ends.specs.Identities.{among, has, llids_of, meets}
use Rattle.ends.specs.Table.{find_from, table_llids}
use Rattle.ends.specs.declared.UnitRecord.{UnitRecord}
use Rattle.ends.proofs.Identities.{meets_append, meets_nil}
use Rattle.ends.proofs.Table.{identity_of}

either_or : (a b : Bool) → either a b ≡ (a || b)
unfolding either
either_or true b = refl
either_or false b = refl

pub both_and : (a b : Bool) → both a b ≡ (a && b)
unfolding both
both_and true b = refl
both_and false b = refl

-- two keys compared
pub same_pointwise : (a b : List ℕ) → same a b ≡ pointwise eqb a b
unfolding same
same_pointwise [] [] = refl
same_pointwise [] (y ∷ ys) = refl
same_pointwise (x ∷ xs) [] = refl
same_pointwise (x ∷ xs) (y ∷ ys) = rw (same_pointwise xs ys, both_and) refl

-- a number looked for
pub among_any : (x : ℕ) (l : List ℕ) → among x l ≡ list_any (λ y. eqb y x) l
unfolding among
among_any x [] = refl
among_any x (y ∷ ys) = rw (among_any x ys, either_or) refl

-- a test of what stands at each place of a row
pub any_tabulated : {A : Type 0} (p : A → Bool) (f : ℕ → A) (i n : ℕ) → list_any p (tabulate i n f) ≡ list_any (λ j. p (f j)) (range_with_len i n)
any_tabulated p f i zero = refl
any_tabulated p f i (suc n) = rw (any_tabulated p f (suc i) n, add-one) refl

-- a number of one list looked for in another
pub meets_any : (xs ys : List ℕ) → meets xs ys ≡ list_any (λ x. among x ys) xs
unfolding meets
meets_any [] ys = refl
meets_any (x ∷ xs) ys = rw (meets_any xs ys, either_or) refl

-- the same in each unit of a table
pub table_any : (xs : List ℕ) (us : List UnitRecord)
    → meets xs (table_llids us) ≡ list_any (λ i. meets xs (llids_of i)) (map identity_of us)
unfolding table_llids
table_any xs [] = meets_nil xs
table_any xs (u ∷ us) = rw (meets_append xs (llids_of u.identity) (table_llids us), table_any xs us, either_or) refl

---- the place of the unit that is found

-- the first is it, or it is looked for behind
pub placed_is : (t : Bool) (i : ℕ) {o r : Option ℕ} → o ≡ r → cond t (Some i) o ≡ pick t (Some i) r
unfolding pick
placed_is true i e = refl
placed_is false i e = e

pub find_position : (k : ℕ) (us : List UnitRecord) (llid : ℕ) → position_from (λ i. has i llid) k (map identity_of us) ≡ find_from k us llid
unfolding find_from
find_position k [] llid = refl
find_position k (u ∷ us) llid = rw add-one (placed_is (has u.identity llid) k (find_position (suc k) us llid))
