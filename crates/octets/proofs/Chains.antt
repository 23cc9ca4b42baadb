-- The tests of a chain of iterators, as `all` makes them, are those of the definitions. Assumes nothing.
use mathlib.Core.Bool.{Bool, true, false, ◌&&◌}
use mathlib.Core.List.{List, [], ◌∷◌}
use mathlib.Core.Path.{◌≡◌, refl, ◌∙◌}
use Prim.Native.Nat.{ℕ, zero, suc}
use native.Mathlib.Numerals.{add-one}
use native.Mathlib.Omega.{arith}
use denote.Param.Members.{Mut}
use Rattle.std.specs.Fn.{Called}
use Rattle.std.specs.Iterator.{YieldsThen}
use Rattle.std.specs.List.{FoldsTo, list_all, range_with_len}
use Rattle.std.specs.Prelude.{MatchOption, Option}
use Rattle.std.specs.declared.ops.Range.{Range}
use Rattle.std.proofs.iter.Yields.{nat_range_steps}
use Rattle.std.proofs.lemmas.Iterator.{YieldsList-from_range}
use Rattle.std.proofs.lemmas.Iterator.Search.{all_from_yields_List}
use Rattle.octets.specs.Choice.{both}
use Rattle.octets.specs.Each.{each}
use Rattle.octets.specs.Lists.{all}

both_of_and : (a b c : Bool) → b ≡ c → (a && b) ≡ both a c
unfolding both
both_of_and true b c e = e
both_of_and false b c e = refl

-- of each of the n numbers from i on
pub each_of_range : (p : ℕ → Bool) (i n : ℕ) → list_all p (range_with_len i n) ≡ each i n p
unfolding each
each_of_range p i zero = refl
each_of_range p i (suc n) = rw add-one (both_of_and (p i) _ _ (each_of_range p (suc i) n))

-- what `all` answers over the numbers below n, by its clause `ran`
pub each_from_all : {F : Type 0} {g : Mut F (ℕ × Unit {0}) Bool} {s : Range ℕ} (test : ℕ → Bool) (n : ℕ) (u : Range ℕ) (f : F) (r : Bool)
    → s ≡ record { start = 0; end = n }
    → (xs : List ℕ) × (o : Option ℕ) × (j : F) × YieldsThen nat_range_steps s xs o u × FoldsTo (λ p x q. Called g p (x, tt) true q) f xs j
    × MatchOption o (r ≡ true) (λ x. (r ≡ false) × ((h : F) × Called g j (x, tt) false h))
    → ((x : ℕ) (b : Bool) (q : F) → Called g f (x, tt) b q → (q ≡ f) × (b ≡ test x)) → r ≡ each 0 n test
each_from_all test n u f r e ran h = all_from_yields_List test u f r ran (YieldsList-from_range 0 n n e (omega arith)) h ∙ each_of_range test 0 n

-- and of each element of a list
pub all_of_list : {A : Type 0} (p : A → Bool) (xs : List A) → list_all p xs ≡ all p xs
unfolding all
all_of_list p [] = refl
all_of_list p (x ∷ xs) = both_of_and (p x) _ _ (all_of_list p xs)
