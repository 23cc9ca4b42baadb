-- Laws of the pairs of a directory: what the tests on a pair say of its verdict. Assumes nothing.
use Rattle.std.specs.Prelude.{Ok}
use mathlib.Core.Path.{◌≡◌, sym, ◌∙◌}
use mathlib.Core.Bool.{Bool, true, false, not}
use mathlib.Core.List.{List}
use Prim.Native.Nat.{ℕ, suc, ◌+◌, ◌-◌, ◌*◌, ◌≤◌, ◌<◌}
use native.Mathlib.Nat.{add-sub_cancel_left}
use native.Mathlib.Numerals.{add-one}
use native.Mathlib.Omega.{arith}
use lib.Dec.{eqb}
use lib.ListN.{length, take, drop}
use borrow.Author.Tests.{leb-true, eqb-true, eq-eqb, ne_eqb}
use Rattle.octets.specs.Choice.{both, either, pick}
use Rattle.octets.proofs.Choice.{both_left, both_right, pick_first}
use Rattle.records.specs.Record.{sized}
use Rattle.records.specs.Place.{end_fits}
use Rattle.records.proofs.Places.{end_within, end_at}
use Rattle.records.specs.Block.{most_octets, most_records, records_in, offset_of, length_of, end_of, due_of, record_of}
use Rattle.directory.specs.Directory.{chained, pair_of, size_fits, with_pair, pairs_from}
use Rattle.directory.specs.declared.Pair.TheVariants.{Fits, OffChain, OffLength}

-- the end of pair i suits the block
abbrev pub ends : List ℕ → ℕ → Bool
ends b i = end_fits (eqb (i + 1) (records_in b)) (end_of b i) (length b)

pub pair_off_due : (b : List ℕ) (i : ℕ) → (offset_of b i ≡ due_of b i → ⊥) → OffChain ≡ pair_of b i
unfolding pair_of chained both pick
pair_off_due b i h = rw (ne_eqb (offset_of b i) (due_of b i) h)

pub pair_off_end : (b : List ℕ) (i : ℕ) → offset_of b i ≡ due_of b i → ends b i ≡ false → OffChain ≡ pair_of b i
unfolding pair_of chained both pick
pair_off_end b i h e = rw (eq-eqb (offset_of b i) (due_of b i) h, e)

pair_chained : (b : List ℕ) (i : ℕ) → offset_of b i ≡ due_of b i → ends b i ≡ true
    → pick (sized (record_of b i)) Fits OffLength ≡ pair_of b i
unfolding pair_of chained both pick
pair_chained b i h e = rw (eq-eqb (offset_of b i) (due_of b i) h, e)

-- where the octets from `from` to `to` are those of its record
between : (b : List ℕ) (i from to : ℕ) → from ≡ offset_of b i → to ≡ offset_of b i + length_of b i
    → take (to - from) (drop from b) ≡ record_of b i
unfolding record_of
between b i from to e f = rw (e, f, add-sub_cancel_left)

pub pair_by_length : (b : List ℕ) (i from to : ℕ) → from ≡ offset_of b i → to ≡ offset_of b i + length_of b i → from ≡ due_of b i
    → end_fits (eqb (i + 1) (records_in b)) to (length b) ≡ true
    → pick (sized (take (to - from) (drop from b))) Fits OffLength ≡ pair_of b i
unfolding end_of
pair_by_length b i from to e f d t = rw (between b i from to e f) (pair_chained b i (sym e ∙ d) (rw f at t))

-- what a pair that fits says of its record
pub record Within (b : List ℕ) (i : ℕ) : Type 0 where
  pub place : offset_of b i ≡ due_of b i
  pub inside : end_of b i ≤ length b
  pub last : i + 1 ≡ records_in b → end_of b i ≡ length b
  pub sizes : sized (record_of b i) ≡ true

pub pair_fits : (b : List ℕ) (i : ℕ) → pair_of b i ≡ Fits → Within b i
unfolding pair_of chained
pair_fits b i e =
    let f = pick_first (chained b i) _ OffChain Fits (λ z. cc) e in
    let s = pick_first (sized (record_of b i)) Fits OffLength Fits (λ z. cc) f.1 in
    let t : ends b i ≡ true = both_right _ _ f.0 in
    record {
      place = eqb-true _ _ (both_left _ _ f.0);
      inside = end_within _ _ _ t;
      last = λ l. end_at _ _ _ t (eq-eqb (i + 1) (records_in b) l);
      sizes = s.0;
    }

-- a pair that keeps both rules fits
pub is_fit : (b : List ℕ) (i : ℕ) → chained b i ≡ true → sized (record_of b i) ≡ true → pair_of b i ≡ Fits
unfolding pair_of pick
is_fit b i c s = rw (c, s)

-- what a block of the right size holds
pub record Sizes (b : List ℕ) : Type 0 where
  pub some : 2 ≤ length b
  pub most : length b ≤ most_octets
  pub few : records_in b ≤ most_records
  pub pairs : 2 + 8 * records_in b ≤ length b
  pub alone : records_in b ≡ 0 → length b ≡ 2

no_count : (n m : ℕ) → either (not (eqb n 0)) (eqb m 2) ≡ true → n ≡ 0 → m ≡ 2
unfolding either
no_count n m e z = eqb-true m 2 (rw (eq-eqb n 0 z) at e)

pub size_fits-holds : (b : List ℕ) → size_fits b ≡ true → Sizes b
unfolding size_fits
size_fits-holds b e =
    let l = both_left _ _ e in
    let r = both_right _ _ e in
    let q = both_right _ _ r in
    record {
      some = leb-true _ _ (both_left _ _ l);
      most = leb-true _ _ (both_right _ _ l);
      few = leb-true _ _ (both_left _ _ r);
      pairs = leb-true _ _ (both_left _ _ q);
      alone = no_count (records_in b) (length b) (both_right _ _ q);
    }

-- one turn of the loop over the pairs
pub pairs_at : (b : List ℕ) (n i : ℕ) → i < n → pairs_from b i (n - i) ≡ with_pair (pair_of b i) (i + 1) (pairs_from b (i + 1) (n - (i + 1)))
unfolding pairs_from
pairs_at b n i h = let e : n - i ≡ suc (n - suc i) = omega arith in rw (e, add-one)

pub pairs_end : (b : List ℕ) (n i : ℕ) → n ≤ i → pairs_from b i (n - i) ≡ Ok i
unfolding pairs_from
pairs_end b n i h = let e : n - i ≡ 0 = omega arith in rw e

pub due_next : (b : List ℕ) (i : ℕ) → due_of b (i + 1) ≡ end_of b i
unfolding due_of
due_next b i = rw add-one
