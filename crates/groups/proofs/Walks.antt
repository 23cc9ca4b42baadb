-- What the library says of a chain of iterators, in the words of the definitions: whether a test holds of each, whether two lists meet, and
-- where a number stands. Assumes nothing.
use mathlib.Core.Path.{◌≡◌, refl, ◌∙◌}
use mathlib.Core.Bool.{Bool, true, false, ◌&&◌, ◌||◌}
use mathlib.Core.List.{List, [], ◌∷◌, map}
use Prim.Native.Nat.{ℕ, zero, suc}
use native.Mathlib.Numerals.{add-one}
use native.Mathlib.Omega.{arith}
use lib.Dec.{eqb}
use denote.Param.Members.{Mut, Called}
use Rattle.std.proofs.iter.Yields.{nat_range_steps}
use Rattle.std.proofs.lemmas.Iterator.{YieldsList-from_range}
use Rattle.std.proofs.lemmas.Iterator.Adapters.{position_from-zero}
use Rattle.std.proofs.lemmas.Iterator.Search.{all_from_yields_List, position_from_yields_List}
use Rattle.std.specs.Iterator.{ChecksAll, FindsPosition}
use Rattle.std.specs.List.{list_all, list_any, position_from, range_with_len}
use Rattle.std.specs.declared.option.Option.{Option}
use Rattle.std.specs.declared.ops.Range.{Range}
use Rattle.octets.specs.Choice.{both, either}
use Rattle.octets.specs.Lists.{all, tabulate}
use Rattle.ends.specs.Identities.{among, llids_of, meets}
use Rattle.ends.specs.Table.{table_llids}
use Rattle.ends.specs.declared.Identity.{Identity}
use Rattle.ends.specs.declared.UnitRecord.{UnitRecord}
use Rattle.ends.proofs.Identities.{meets_append, meets_nil}
use Rattle.ends.proofs.Words.{placed_is}
use Rattle.group_protocol.specs.Members.{place_from}
use Rattle.group_protocol.specs.Subscriber.{joined_llids}
use Rattle.group_protocol.specs.declared.Joined.{Joined}

both_is : (a : Bool) {b c : Bool} → b ≡ c → (a && b) ≡ both a c
unfolding both
both_is true e = e
both_is false e = refl

either_is : (a : Bool) {b c : Bool} → b ≡ c → (a || b) ≡ either a c
unfolding either
either_is true e = refl
either_is false e = e

---- whether a test holds of each

pub all_counted : (p : ℕ → Bool) (f : ℕ → ℕ) (i n : ℕ) → list_all (λ k. p (f k)) (range_with_len i n) ≡ all p (tabulate i n f)
unfolding all
all_counted p f i zero = refl
all_counted p f i (suc n) = rw add-one (both_is (p (f i)) (all_counted p f (suc i) n))

---- whether two lists meet

pub meets_listed : (xs ys : List ℕ) → list_any (λ x. among x ys) xs ≡ meets xs ys
unfolding meets
meets_listed [] ys = refl
meets_listed (x ∷ xs) ys = either_is (among x ys) (meets_listed xs ys)

-- the LLIDs of units, by their identities
pub units_listed : (xs : List ℕ) (us : List UnitRecord)
    → list_any (λ (i : Identity). meets xs (llids_of i)) (map (λ (u : UnitRecord). u.identity) us) ≡ meets xs (table_llids us)
unfolding table_llids
units_listed xs [] = rw meets_nil
units_listed xs (u ∷ us) = rw meets_append (either_is (meets xs (llids_of u.identity)) (units_listed xs us))

pub joined_listed : (x : ℕ) (js : List Joined) → list_any (λ (j : Joined). eqb j.llid x) js ≡ among x (joined_llids js)
unfolding among joined_llids
joined_listed x [] = refl
joined_listed x (j ∷ js) = either_is (eqb j.llid x) (joined_listed x js)

---- where a number stands

pub place_counted : (f : ℕ → ℕ) (x i n : ℕ) → position_from (λ k. eqb (f k) x) i (range_with_len i n) ≡ place_from i (tabulate i n f) x
unfolding place_from
place_counted f x i zero = refl
place_counted f x i (suc n) = rw add-one (placed_is (eqb (f i) x) i (place_counted f x (suc i) n))

---- the chains from 0 to the count

-- a closure that leaves itself as it was and tests the number
abbrev pub Tests : {F : Type 0} → Mut F (ℕ × Unit {0}) Bool → F → (ℕ → Bool) → Type 0
Tests {F} g h p = (x : ℕ) (b : Bool) (q : F) → Called g h (x, tt) b q → (q ≡ h) × (b ≡ p x)

module _ {F : Type 0} {g : Mut F (ℕ × Unit {0}) Bool} {s u : Range ℕ} {h : F} (f : ℕ → ℕ) (n : ℕ)
    (from : s ≡ record { start = 0; end = n }) where
  pub all_in_use : (p : ℕ → Bool) {r : Bool} → ChecksAll nat_range_steps g s h r u → Tests g h (λ k. p (f k)) → r ≡ all p (tabulate 0 n f)
  all_in_use p ran each =
      all_from_yields_List _ _ _ _ ran (YieldsList-from_range 0 n n from (omega arith)) each ∙ all_counted p f 0 n

  pub place_in_use : (x : ℕ) {r : Option ℕ} → FindsPosition nat_range_steps g s h r u → Tests g h (λ k. eqb (f k) x)
      → r ≡ place_from 0 (tabulate 0 n f) x
  place_in_use x ran each =
      position_from_yields_List _ _ _ _ ran (YieldsList-from_range 0 n n from (omega arith)) each
      ∙ position_from-zero (λ k. eqb (f k) x) (range_with_len 0 n)
      ∙ place_counted f x 0 n
