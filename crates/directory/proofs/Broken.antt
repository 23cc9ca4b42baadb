-- Laws of the broken pair: the verdict on a directory names the first pair that breaks a rule, and no other. Assumes nothing.
use Rattle.std.specs.Prelude.{Result, Ok, Err}
use mathlib.Core.Path.{◌≡◌, refl, ap, ◌∙◌}
use mathlib.Core.Bool.{Bool, true, false}
use mathlib.Core.List.{List}
use mathlib.Core.Logic.{◌⊎◌, inl, inr, ⊎_elim}
use Prim.Native.Nat.{ℕ, zero, suc, ◌+◌, ◌≤◌, ◌<◌}
use native.Mathlib.Nat.{zero-add, eq-or-lt_of_le}
use native.Mathlib.Omega.{arith}
use Rattle.octets.specs.Choice.{pick}
use Rattle.octets.proofs.Choice.{pick_true, pick_false, pick_first}
use Rattle.refusal.specs.declared.Refusal.TheVariants.{BadDirectory, BrokenChain, UnsuitedLength}
use Rattle.records.specs.Record.{sized}
use Rattle.directory.specs.declared.Pair.{Pair}
use Rattle.directory.specs.declared.Pair.TheVariants.{Fits, OffChain, OffLength}
use Rattle.records.specs.Block.{records_in, record_of}
use Rattle.directory.specs.Directory.{chained, pair_of, size_fits, with_pair, pairs_from, directory_of}
use Rattle.directory.specs.Broken.{Keeps, Judged}
use Rattle.directory.proofs.Pairs.{is_fit}
use Rattle.directory.proofs.Records.{good, all_fit}
use Rattle.directory.proofs.Trimming.{trimmed_good, same_record}
use Rattle.refusal.specs.declared.Refusal.{Refusal}

---- the rules of one pair

-- what a verdict on a pair says of the tests of its chain and of its length
abbrev Says : Pair → Bool → Bool → Type 0
Says Fits c s = (c ≡ true) × (s ≡ true)
Says OffChain c s = c ≡ false
Says OffLength c s = (c ≡ true) × (s ≡ false)

said : (c s : Bool) → Says (pick c (pick s Fits OffLength) OffChain) c s
unfolding pick
said true true = (refl, refl)
said true false = (refl, refl)
said false s = refl

says : (b : List ℕ) (i : ℕ) (q : Pair) → pair_of b i ≡ q → Says q (chained b i) (sized (record_of b i))
unfolding pair_of
says b i q e = rw e at (said (chained b i) (sized (record_of b i)))

is_off_chain : (b : List ℕ) (i : ℕ) → chained b i ≡ false → pair_of b i ≡ OffChain
unfolding pair_of pick
is_off_chain b i c = rw c

is_off_length : (b : List ℕ) (i : ℕ) → chained b i ≡ true → sized (record_of b i) ≡ false → pair_of b i ≡ OffLength
unfolding pair_of pick
is_off_length b i c s = rw (c, s)

---- the first of several pairs

-- a pair that does not fit is off the chain, or of another length
abbrev off : Bool → Pair
off true = OffChain
off false = OffLength

-- what it makes of the verdict, whatever stands behind it
abbrev named : Bool → ℕ → Result ℕ Refusal
named true k = Err (BrokenChain k)
named false k = Err (UnsuitedLength k)

whatever_behind : (q : Bool) (k : ℕ) (d : Result ℕ Refusal) → with_pair (off q) k d ≡ named q k
unfolding with_pair
whatever_behind true k d = refl
whatever_behind false k d = refl

-- of the m pairs from i on, pair j is the first that does not fit
record First (b : List ℕ) (i m j : ℕ) (q : Bool) : Type 0 where
  from : i ≤ j
  to : j < i + m
  before : (k : ℕ) → i ≤ k → k < j → pair_of b k ≡ Fits
  found : pair_of b j ≡ off q

-- the verdict names this pair, or one behind it
this_or_behind : (p : Pair) (q : Bool) (k j : ℕ) (d : Result ℕ Refusal) → with_pair p k d ≡ named q j
    → ((p ≡ Fits) × (d ≡ named q j)) ⊎ ((p ≡ off q) × (k ≡ j))
unfolding with_pair
this_or_behind Fits q k j d e = inl (refl, e)
this_or_behind OffChain true k j d e = inr (refl, cc)
this_or_behind OffChain false k j d e = inr (cc, cc)
this_or_behind OffLength true k j d e = inr (cc, cc)
this_or_behind OffLength false k j d e = inr (refl, cc)

-- neither a whole directory nor 15 names a pair
never_good : (q : Bool) (i k : ℕ) → Ok i ≡ named q k → ⊥
never_good true i k e = let z : ◌≡◌ {A = ℕ} 0 1 = cc in omega arith
never_good false i k e = let z : ◌≡◌ {A = ℕ} 0 1 = cc in omega arith

never_bounds : (q : Bool) (k : ℕ) → Err BadDirectory ≡ named q k → true ≡ false
never_bounds true k e = cc
never_bounds false k e = cc

first : (b : List ℕ) (i m j : ℕ) (q : Bool) → pairs_from b i m ≡ named q (suc j) → First b i m j q
unfolding pairs_from
first b i zero j q e = absurd (never_good q i (suc j) e)
first b i (suc m) j q e =
    ⊎_elim
    (λ x.
    let f = first b (suc i) m j q x.1 in
    record {
      from = omega (arith, f.from);
      to = omega (arith, f.to);
      before = λ k l h. ⊎_elim (λ z. rw (← z) x.0) (λ g. f.before k g h) (eq-or-lt_of_le {n = i} {m = k} l);
      found = f.found;
    })
    (λ x.
    let z : j ≡ i = omega (arith, x.1) in
    record { from = omega arith; to = omega arith; before = λ k l h. absurd (omega arith); found = rw z x.0 })
    (this_or_behind (pair_of b i) q (suc i) (suc j) (pairs_from b (suc i) m) e)

-- and conversely
names : (b : List ℕ) (i m j : ℕ) (q : Bool) → First b i m j q → pairs_from b i m ≡ named q (suc j)
unfolding pairs_from with_pair
names b i zero j q f = absurd (omega (arith, f.from, f.to))
names b i (suc m) j q f =
    ⊎_elim (λ z. let r : pair_of b i ≡ off q = rw z f.found in rw r (whatever_behind q (suc i) _ ∙ ap (λ (k : ℕ). named q (suc k)) z))
    (λ l.
    rw (f.before i (omega arith) l)
    (names b (suc i) m j q (record { from = l; to = omega (arith, f.to); before = λ k a h. f.before k (omega arith) h; found = f.found })))
    (eq-or-lt_of_le {n = i} {m = j} f.from)

-- 15 is not for a pair
not_by_pair : (p : Pair) (k : ℕ) (d : Result ℕ Refusal) → (d ≡ Err BadDirectory → ⊥) → with_pair p k d ≡ Err BadDirectory → ⊥
unfolding with_pair
not_by_pair Fits k d h e = h e
not_by_pair OffChain k d h e = let z : ◌≡◌ {A = ℕ} 0 1 = cc in omega arith
not_by_pair OffLength k d h e = let z : ◌≡◌ {A = ℕ} 0 1 = cc in omega arith

not_bounds : (b : List ℕ) (i m : ℕ) → pairs_from b i m ≡ Err BadDirectory → ⊥
unfolding pairs_from
not_bounds b i zero e = let z : ◌≡◌ {A = ℕ} 0 1 = cc in omega arith
not_bounds b i (suc m) e = not_by_pair (pair_of b i) (suc i) (pairs_from b (suc i) m) (λ z. not_bounds b (suc i) m z) e

bounds_by : (s : Bool) (d : Result ℕ Refusal) → (d ≡ Err BadDirectory → ⊥) → pick s d (Err BadDirectory) ≡ Err BadDirectory → s ≡ false
unfolding pick
bounds_by true d h e = absurd (h e)
bounds_by false d h e = refl

---- the verdict on the whole

module _ (b : List ℕ) where
  -- pairs that fit keep both rules, and conversely
  keeps : (m : ℕ) → size_fits b ≡ true → ((k : ℕ) → k < m → pair_of b k ≡ Fits) → Keeps b m
  keeps m s f = record { bounds = s; chain = λ k h. (says b k Fits (f k h)).0; lengths = λ k h. (says b k Fits (f k h)).1 }

  fit : (m : ℕ) → Keeps b m → (k : ℕ) → k < m → pair_of b k ≡ Fits
  fit m r k h = is_fit b k (r.chain k h) (r.lengths k h)

  of_pairs : size_fits b ≡ true → directory_of b ≡ pairs_from b 0 (records_in b)
  unfolding directory_of
  of_pairs s = pick_true _ _ s

  -- the pair that the verdict names, and those before it
  broken_at : (q : Bool) (i : ℕ) → directory_of b ≡ named q (suc i) → (i < records_in b) × Keeps b i × (pair_of b i ≡ off q)
  unfolding directory_of
  broken_at q i e =
      let s = pick_first (size_fits b) (pairs_from b 0 (records_in b)) (Err BadDirectory) (named q (suc i)) (never_bounds q (suc i)) e in
      let f = first b 0 (records_in b) i q s.1 in
      (omega (arith, f.to), keeps i s.0 (λ k h. f.before k (omega arith) h), f.found)

  named_at : (q : Bool) (i : ℕ) → i < records_in b → Keeps b i → pair_of b i ≡ off q → directory_of b ≡ named q (suc i)
  named_at q i h r e =
      of_pairs r.bounds
      ∙ names b 0 (records_in b) i q (record { from = omega arith; to = omega arith; before = λ k l g. fit i r k g; found = e })

  pub judged : Judged b
  unfolding directory_of
  judged =
      record {
        whole = λ n e. let r = good b n e in (r.count, keeps n r.right r.fit);
        good = λ k.
            of_pairs k.bounds
            ∙ all_fit b 0 (records_in b) (λ j l h. fit (records_in b) k j (omega arith))
            ∙ ap Ok (zero-add (records_in b));
        bounds = λ e. bounds_by (size_fits b) (pairs_from b 0 (records_in b)) (not_bounds b 0 (records_in b)) e;
        out_of_bounds = λ e. pick_false _ _ e;
        off_chain = λ i e. let o = broken_at true i e in record { among = o.0; before = o.1; broken = says b i OffChain o.2 };
        broken_chain = λ i o. named_at true i o.among o.before (is_off_chain b i o.broken);
        off_length = λ i e.
            let o = broken_at false i e in
            let s = says b i OffLength o.2 in
            record { among = o.0; before = o.1; kept = s.0; broken = s.1 };
        unsuited_length = λ i o. named_at false i o.among o.before (is_off_length b i o.kept o.broken);
        trimmable = λ m k h. trimmed_good b m k h;
        same_records = λ m i k h l. same_record b m k h i l;
      }
