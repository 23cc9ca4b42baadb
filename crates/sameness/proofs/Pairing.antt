-- Laws of pairing: it is an equality of keys, so that in a block without two records alike a record has at most one partner. Assumes nothing.
use mathlib.Core.Path.{◌≡◌, refl, sym, ◌∙◌}
use mathlib.Core.Bool.{true, false}
use mathlib.Core.List.{List}
use mathlib.Core.Logic.{⊎_elim}
use Prim.Native.Nat.{ℕ, zero, suc, ◌+◌, ◌-◌, ◌≤◌, ◌<◌}
use native.Mathlib.Nat.{add-zero, add-suc, suc-add, eq-or-lt_of_le}
use native.Mathlib.Numerals.{add-one}
use native.Mathlib.Omega.{arith}
use lib.Dec.{eqb}
use borrow.Author.Tests.{eqb-true, eq-eqb, ne_eqb}
use Rattle.octets.proofs.Choice.{both_left, both_right, both_true, pick_false, pick_holds}
use Rattle.records.specs.declared.header.Header.{Header}
use Rattle.records.specs.Block.{records_in, record_of}
use Rattle.sameness.specs.Pairing.{keys_agree, paired, first_from, partner_of, alone, unlike_rest, distinct}
use Rattle.octets.proofs.Each.{each_at}

---- the relation

record Agreed (g h : Header) : Type 0 where
  channels : g.channel ≡ h.channel
  llids : g.llid ≡ h.llid
  clocks : g.clock ≡ h.clock

agreed : (g h : Header) → keys_agree g h ≡ true → Agreed g h
unfolding keys_agree
agreed g h e =
    let rest = both_right _ _ e in
    record { channels = eqb-true _ _ (both_left _ _ e); llids = eqb-true _ _ (both_left _ _ rest); clocks = eqb-true _ _ (both_right _ _ rest) }

agree : (g h : Header) → Agreed g h → keys_agree g h ≡ true
unfolding keys_agree
agree g h a = both_true (eq-eqb _ _ a.channels) (both_true (eq-eqb _ _ a.llids) (eq-eqb _ _ a.clocks))

pub paired_self : (r : List ℕ) → paired r r ≡ true
unfolding paired
paired_self r = agree _ _ (record { channels = refl; llids = refl; clocks = refl })

pub paired_back : (r s : List ℕ) → paired r s ≡ true → paired s r ≡ true
unfolding paired
paired_back r s e =
    let a = agreed _ _ e in agree _ _ (record { channels = sym a.channels; llids = sym a.llids; clocks = sym a.clocks })

pub paired_through : (r s t : List ℕ) → paired r s ≡ true → paired s t ≡ true → paired r t ≡ true
unfolding paired
paired_through r s t e f =
    let a = agreed _ _ e in
    let c = agreed _ _ f in
    agree _ _ (record { channels = a.channels ∙ c.channels; llids = a.llids ∙ c.llids; clocks = a.clocks ∙ c.clocks })

---- the first that pairs

module _ (r b : List ℕ) where
  pub first_high : (j m : ℕ) → first_from r b j m ≤ j + m
  unfolding first_from
  first_high j zero = omega arith
  first_high j (suc m) =
      pick_holds (λ x. x ≤ j + suc m) (paired r (record_of b j)) j _ (λ e. omega arith) (λ e. omega (arith, first_high (suc j) m))

  -- it does pair
  pub first_pairs : (j m : ℕ) → first_from r b j m < j + m → paired r (record_of b (first_from r b j m)) ≡ true
  unfolding first_from
  first_pairs j zero h = absurd (omega arith)
  first_pairs j (suc m) h =
      pick_holds (λ x. x < j + suc m → paired r (record_of b x) ≡ true) (paired r (record_of b j)) j _ (λ e l. e)
      (λ e l. first_pairs (suc j) m (omega arith)) h

  -- and none ahead of it does
  pub first_least : (j m k : ℕ) → j ≤ k → k < first_from r b j m → paired r (record_of b k) ≡ false
  unfolding first_from
  first_least j zero k l h = absurd (omega arith)
  first_least j (suc m) k l h =
      pick_holds (λ x. k < x → paired r (record_of b k) ≡ false) (paired r (record_of b j)) j _ (λ e q. absurd (omega arith))
      (λ e q. ⊎_elim (λ z. rw (← z) e) (λ g. first_least (suc j) m k g q) (eq-or-lt_of_le {n = j} {m = k} l)) h

  pub first_none : (j m : ℕ) → ((k : ℕ) → j ≤ k → k < j + m → paired r (record_of b k) ≡ false) → first_from r b j m ≡ j + m
  unfolding first_from
  first_none j zero f = rw add-zero
  first_none j (suc m) f =
      rw (pick_false _ _ (f j (omega arith) (omega arith)))
      (first_none (suc j) m (λ k l h. f k (omega arith) (omega arith)) ∙ rw (suc-add, add-suc))

---- a block without two records alike

apart : (b : List ℕ) (i k : ℕ) → distinct b ≡ true → i < k → k < records_in b → paired (record_of b i) (record_of b k) ≡ false
unfolding distinct unlike_rest
apart b i k d l h =
    let e : first_from (record_of b i) b (suc i) (records_in b - suc i) ≡ records_in b =
    eqb-true _ _ (each_at 0 (records_in b) (unlike_rest b) i d (omega arith) (omega arith)) in
    first_least (record_of b i) b (suc i) (records_in b - suc i) k l (omega arith)

-- the test of a loop over the records of b
pub unlike_tested : (b : List ℕ) (i n p : ℕ) → n ≡ records_in b → p ≡ first_from (record_of b i) b (i + 1) (n - (i + 1))
    → unlike_rest b i ≡ eqb p n
unfolding unlike_rest
unlike_tested b i n p q e = rw (e, q, add-one)

-- records of one block that pair are one
pub only_one : (b : List ℕ) (i k : ℕ) → distinct b ≡ true → i < records_in b → k < records_in b → paired (record_of b i) (record_of b k) ≡ true
    → i ≡ k
only_one b i k d h l e =
    let back = paired_back _ _ e in
    grind (arith, apart b i k d, apart b k i d)

-- the record of such a block that pairs is the partner
pub partner_is : (r b : List ℕ) (j : ℕ) → distinct b ≡ true → j < records_in b → paired r (record_of b j) ≡ true → partner_of r b ≡ j
partner_is r b j d h e =
    let p = partner_of r b in
    let first = first_high r b 0 (records_in b) in
    let hit = first_pairs r b 0 (records_in b) in
    let least = first_least r b 0 (records_in b) j in
    let one : p < records_in b → paired r (record_of b p) ≡ true → p ≡ j = λ l f. only_one b p j d l h (paired_through _ _ _ (paired_back _ _ f) e) in
    grind arith

-- a record with a partner is not alone
pub not_alone : (a b : List ℕ) (i j : ℕ) → partner_of (record_of a i) b ≡ j → j < records_in b → alone a b i ≡ false
unfolding alone
not_alone a b i j e h = ne_eqb (partner_of (record_of a i) b) (records_in b) (λ q. omega arith)
