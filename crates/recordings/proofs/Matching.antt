-- Laws of the tables of partners, one record of a at a time. Assumes nothing.
use mathlib.Core.Path.{◌≡◌, refl, sym, ◌∙◌}
use mathlib.Core.Bool.{Bool, true, false}
use mathlib.Core.List.{List}
use mathlib.Core.Logic.{inl, inr, ⊎_elim}
use Prim.Native.Nat.{ℕ, ◌+◌, ◌≤◌, ◌<◌}
use native.Mathlib.Omega.{arith}
use lib.Dec.{eqb}
use lib.ListN.{length, get_or, set}
use lib.Seq.{get_or-set_same, get_or-set_other}
use borrow.Author.Count.{below_more}
use borrow.Author.Tests.{eqb-true, eqb-false}
use Rattle.records.specs.Block.{records_in, record_of}
use Rattle.sameness.specs.Pairing.{paired, partner_of, distinct}
use Rattle.recordings.specs.Duties.{Listed, Met}
use Rattle.sameness.proofs.Pairing.{paired_back, first_pairs, first_none, partner_is}

-- one partner more
pub listed_more : (t a b : List ℕ) (i p : ℕ) → i < length t → p ≡ partner_of (record_of a i) b → Listed t a b i → Listed (set t i p) a b (i + 1)
listed_more t a b i p h e f =
    below_more (λ k. get_or (set t i p) k 0 ≡ partner_of (record_of a k) b) i
    (λ k l. get_or-set_other t i k p 0 (λ q. omega arith) ∙ f k l) (get_or-set_same t i p 0 h ∙ e)

module _ (a b : List ℕ) (i : ℕ) where
  unpaired_by : (t : Bool) (j : ℕ) → paired (record_of b j) (record_of a i) ≡ t → distinct b ≡ true → j < records_in b
      → (j ≡ partner_of (record_of a i) b → ⊥) → paired (record_of b j) (record_of a i) ≡ false
  unpaired_by true j e d h n = absurd (n (sym (partner_is (record_of a i) b j d h (paired_back _ _ e))))
  unpaired_by false j e d h n = e

  met_on : (j v : ℕ) → distinct b ≡ true → j < records_in b → (j ≡ partner_of (record_of a i) b → ⊥) → Met (record_of b j) a i v
      → Met (record_of b j) a (i + 1) v
  met_on j v d h n m =
      let e = unpaired_by (paired (record_of b j) (record_of a i)) j refl d h n in
      ⊎_elim (λ x. inl (omega (arith, x.0), x.1)) (λ x. inr (x.0, below_more (λ k. paired (record_of b j) (record_of a k) ≡ false) i x.1 e)) m

  -- a record of b that is no partner of record i of a
  pub met_past : (s : List ℕ) → distinct b ≡ true → records_in b ≤ partner_of (record_of a i) b
      → ((j : ℕ) → j < records_in b → Met (record_of b j) a i (get_or s j 0)) → (j : ℕ) → j < records_in b
      → Met (record_of b j) a (i + 1) (get_or s j 0)
  met_past s d l f j h = met_on j (get_or s j 0) d h (λ q. omega arith) (f j h)

  met_by : (t : Bool) (s : List ℕ) (p j : ℕ) → eqb j p ≡ t → distinct b ≡ true → p ≡ partner_of (record_of a i) b → p < records_in b
      → records_in b ≤ length s → Met (record_of b j) a i (get_or s j 0) → j < records_in b → Met (record_of b j) a (i + 1) (get_or (set s p i) j 0)
  met_by true s p j t d e l n m h =
      let q : j ≡ p = eqb-true j p t in
      let hit = first_pairs (record_of a i) b 0 (records_in b) (omega arith) in
      rw (q, get_or-set_same s p i 0 (omega arith)) (inl (omega arith, paired_back _ _ (rw (← e) at hit)))
  met_by false s p j t d e l n m h =
      let q : j ≡ p → ⊥ = eqb-false j p t in
      rw (get_or-set_other s p j i 0 q) (met_on j (get_or s j 0) d h (λ z. q (z ∙ sym e)) m)

  -- one that is
  pub met_more : (s : List ℕ) (p : ℕ) → distinct b ≡ true → p ≡ partner_of (record_of a i) b → p < records_in b → records_in b ≤ length s
      → ((j : ℕ) → j < records_in b → Met (record_of b j) a i (get_or s j 0)) → (j : ℕ) → j < records_in b
      → Met (record_of b j) a (i + 1) (get_or (set s p i) j 0)
  met_more s p d e l n f j h = met_by (eqb j p) s p j refl d e l n (f j h) h

-- once all records of a are passed
pub met_all : (r a : List ℕ) (v : ℕ) → distinct a ≡ true → Met r a (records_in a) v → v ≡ partner_of r a
met_all r a v d m =
    ⊎_elim (λ x. sym (partner_is r a v d x.0 x.1))
    (λ x. x.0 ∙ sym (first_none r a 0 (records_in a) (λ k l h. x.1 k (omega arith)) ∙ omega arith)) m
