-- Laws of the records of a good directory: where they stand and how long they are. Assumes nothing.
use Rattle.std.specs.Prelude.{Result, Ok, Err}
use mathlib.Core.Path.{◌≡◌, refl, sym, ap, ap₂, ◌∙◌}
use mathlib.Core.Bool.{true}
use mathlib.Core.Logic.{⊎_elim}
use mathlib.Core.List.{List, []}
use Prim.Native.Nat.{ℕ, zero, suc, ◌+◌, ◌-◌, ◌≤◌, ◌<◌}
use native.Mathlib.Nat.{add-zero, zero-add, add-suc, suc-add, eq-or-lt_of_le}
use native.Mathlib.Omega.{arith}
use lib.Dec.{leb}
use lib.ListN.{length, drop}
use borrow.Author.Tests.{leb-true, eqb-true}
use Rattle.octets.specs.Choice.{both}
use Rattle.octets.specs.Lists.{part}
use Rattle.octets.proofs.Choice.{both_left, both_right, pick_first}
use Rattle.octets.proofs.Lists.{part_length, part_below, drop_part}
use Rattle.refusal.specs.declared.Refusal.{Refusal}
use Rattle.refusal.specs.declared.Refusal.TheVariants.{OutOfRange, BadDirectory}
use Rattle.records.specs.declared.header.Header.{Header}
use Rattle.records.specs.Record.{header_octets, record_octets, record_header, payload_of, sized}
use Rattle.records.specs.Block.{most_octets, most_records, records_in, offset_of, length_of, end_of, due_of, record_of, header_from, record_from}
use Rattle.records.specs.Following.{header_of}
use Rattle.records.proofs.Headers.{header_taken}
use Rattle.directory.specs.Directory.{pair_of, size_fits, with_pair, pairs_from, verdict_on, directory_of}
use Rattle.directory.specs.Duties.{Placed}
use Rattle.directory.specs.Payload.{record_asked, payload_verdict, bounds_of, bounds_after, payload_bounds, bounds_offset, bounds_length, unless_refused, payload_part}
use Rattle.directory.specs.declared.Pair.{Pair}
use Rattle.directory.specs.declared.Pair.TheVariants.{Fits, OffChain, OffLength}
use Rattle.directory.specs.declared.payload.Bounds.{Bounds}
use Rattle.directory.proofs.Pairs.{Sizes, size_fits-holds, pair_fits, due_next}
use Rattle.refusal.specs.Verdict.{Verdict, no_refusal}

-- what a good directory of n records says of its block
pub record Records (b : List ℕ) (n : ℕ) : Type 0 where
  pub count : n ≡ records_in b
  pub right : size_fits b ≡ true
  pub sizes : Sizes b
  pub fit : (i : ℕ) → i < n → pair_of b i ≡ Fits

good_pair : (p : Pair) (k : ℕ) (d : Result ℕ Refusal) (n : ℕ) → with_pair p k d ≡ Ok n → (p ≡ Fits) × (d ≡ Ok n)
unfolding with_pair
good_pair Fits k d n e = (refl, e)
good_pair OffChain k d n e = (cc, cc)
good_pair OffLength k d n e = (cc, cc)

-- a good verdict counts the pairs, which all fit
good_pairs : (b : List ℕ) (i m n : ℕ) → pairs_from b i m ≡ Ok n
    → (n ≡ i + m) × ((j : ℕ) → i ≤ j → j < i + m → pair_of b j ≡ Fits)
unfolding pairs_from
good_pairs b i zero n e = let z : i ≡ n = cc in (omega arith, λ j l h. absurd (omega arith))
good_pairs b i (suc m) n e =
    let g = good_pair (pair_of b i) (suc i) (pairs_from b (suc i) m) n e in
    let r = good_pairs b (suc i) m n g.1 in
    (omega (arith, r.0), λ j l h. ⊎_elim (λ z. rw (← z) g.0) (λ k. r.1 j k (omega arith)) (eq-or-lt_of_le {n = i} {m = j} l))

-- and conversely
pub all_fit : (b : List ℕ) (i m : ℕ) → ((j : ℕ) → i ≤ j → j < i + m → pair_of b j ≡ Fits) → pairs_from b i m ≡ Ok (i + m)
unfolding pairs_from with_pair
all_fit b i zero f = rw add-zero
all_fit b i (suc m) f =
    rw (f i (omega arith) (omega arith)) (all_fit b (suc i) m (λ j l h. f j (omega arith) (omega arith)) ∙ rw (suc-add, add-suc))

pub good : (b : List ℕ) (n : ℕ) → directory_of b ≡ Ok n → Records b n
unfolding directory_of
good b n e =
    let s = pick_first (size_fits b) (pairs_from b 0 (records_in b)) (Err BadDirectory) (Ok n) (λ z. cc) e in
    let p = good_pairs b 0 (records_in b) n s.1 in
    record { count = p.0 ∙ zero-add (records_in b); right = s.0; sizes = size_fits-holds b s.0; fit = λ i h. p.1 i (omega arith) (omega (arith, p.0)) }

-- an accepted directory counts its records
pub counted : (b : List ℕ) (d : Result ℕ Refusal) → directory_of b ≡ d → verdict_on d ≡ no_refusal → directory_of b ≡ Ok (records_in b)
counted b (Ok n) q e = q ∙ ap Ok (good b n q).count
counted b (Err r) q e = cc

-- where record i stands, and what its length is
pub placed : (b : List ℕ) (n i : ℕ) → Records b n → i < n → Placed b i
unfolding sized record_of end_of
placed b n i r h =
    let w = pair_fits b i (r.fit i h) in
    let l = part_length b (offset_of b i) (length_of b i) w.inside in
    let q = eqb-true _ _ (both_right _ _ w.sizes) in
    record { pair = omega (arith, r.sizes.pairs, r.count); inside = w.inside; octets = l; size = sym l ∙ q }

pub header_there : (b : List ℕ) (n : ℕ) → Records b n → (i : ℕ) → i < n → header_octets ≤ length (record_of b i)
header_there b n r i h = let p = placed b n i r h in omega (arith, p.octets, p.size)

-- the payload of record i, as a part of the block
payload_part-holds : (b : List ℕ) (i : ℕ) → Placed b i
    → payload_of (record_of b i) ≡ part b (offset_of b i + 16) (offset_of b i + length_of b i - (offset_of b i + 16))
unfolding payload_of record_of
payload_part-holds b i p = drop_part b (offset_of b i) (length_of b i) 16 (omega (arith, p.size))

-- what is found by going from record to record: record i starts at `from`, and the next where it ends
pub record At (b : List ℕ) (i from : ℕ) : Type 0 where
  pub header : header_from b from ≡ record_header (record_of b i)
  pub octets : record_from b from ≡ record_of b i
  pub next : from + record_octets (header_from b from).eqs ≡ due_of b (i + 1)
  pub inside : from + record_octets (header_from b from).eqs ≤ length b

pub at_due : (b : List ℕ) (n i from : ℕ) → Records b n → i < n → from ≡ due_of b i → At b i from
unfolding header_from record_from record_of end_of
at_due b n i from r h e =
    let p = placed b n i r h in
    let start : from ≡ offset_of b i = e ∙ sym (pair_fits b i (r.fit i h)).place in
    let head : record_header (drop from b) ≡ record_header (part b (offset_of b i) (length_of b i)) =
    ap (λ (x : ℕ). record_header (drop x b)) start ∙ sym (header_taken (length_of b i) (drop (offset_of b i) b) (omega (arith, p.size))) in
    let size : record_octets (record_header (drop from b)).eqs ≡ length_of b i = ap (λ (q : Header). record_octets q.eqs) head ∙ sym p.size in
    record {
      header = head;
      octets = ap₂ (λ (x l : ℕ). part b x l) start size;
      next = ap₂ (λ (x l : ℕ). x + l) start size ∙ sym (due_next b i);
      inside = omega (arith, start, size, p.inside);
    }

-- what goes by the record that starts at `from` and by what was judged of it goes by record i
module _ {J : Type 0} (b : List ℕ) (i from : ℕ) (x : At b i from) (u v : J) (e : u ≡ v) where
  pub of_record : {A : Type 0} (f : List ℕ → J → A) → f (record_from b from) u ≡ f (record_of b i) v
  of_record f = rw (e, x.octets)

-- a turn of a loop over the n records of a block: record i starts at `from`, and h is the header that is read there
pub record Reached (b : List ℕ) (n i from : ℕ) (h : Header) : Type 0 where
  pub records : Records b n
  pub few : i < most_records
  pub here : At b i from
  pub header : h ≡ header_of b i
  pub next : from + record_octets h.eqs ≡ due_of b (i + 1)
  pub end : from + record_octets h.eqs ≤ most_octets

pub reached : (b : List ℕ) (n i from : ℕ) (h : Header) → directory_of b ≡ Ok n → i < n → from ≡ due_of b i → h ≡ header_from b from
    → Reached b n i from h
reached b n i from h g l d e =
    let r = good b n g in
    let x = at_due b n i from r l d in
    let eqs = ap (λ (y : Header). y.eqs) e in
    record {
      records = r;
      few = omega (arith, r.count, r.sizes.few);
      here = x;
      header = e ∙ x.header;
      next = omega (arith, eqs, x.next);
      end = omega (arith, eqs, x.inside, r.sizes.most);
    }

pub record_below : (b : List ℕ) (i : ℕ) → length b ≤ most_octets → length (record_of b i) ≤ most_octets
unfolding record_of
record_below b i h = omega (arith, part_below b (offset_of b i) (length_of b i))

-- an accepted number is that of a record
pub record Asked (b : List ℕ) (k : ℕ) : Type 0 where
  pub count : ℕ
  pub records : Records b count
  pub first : 1 ≤ k
  pub last : k ≤ count

never : (r : Refusal) → Err r ≡ no_refusal → ⊥
never r e = let z : ◌≡◌ {A = ℕ} 0 1 = cc in omega arith

by_directory : (b : List ℕ) (k : ℕ) (d : Result ℕ Refusal) → directory_of b ≡ d → record_asked d k ≡ no_refusal → Asked b k
by_directory b k (Ok n) q e =
    let t = (pick_first (both (leb 1 k) (leb k n)) no_refusal (Err OutOfRange) no_refusal (λ z. cc) e).0 in
    record { count = n; records = good b n q; first = leb-true _ _ (both_left _ _ t); last = leb-true _ _ (both_right _ _ t) }
by_directory b k (Err r) q e = absurd (never r e)

pub asked_for : (b : List ℕ) (k : ℕ) → payload_verdict b k ≡ no_refusal → Asked b k
unfolding payload_verdict
asked_for b k e = by_directory b k (directory_of b) refl e

pub asked_few : {b : List ℕ} {k : ℕ} → Asked b k → k ≤ most_records
asked_few a = omega (arith, a.last, a.records.count, a.records.sizes.few)

-- so it is one more than the place of a record, whose length is not below that of its header
pub asked_first : (b : List ℕ) (k : ℕ) → payload_verdict b k ≡ no_refusal → 1 ≤ k
asked_first b k e = (asked_for b k e).first

pub asked_last : (b : List ℕ) (k : ℕ) → payload_verdict b k ≡ no_refusal → k ≤ most_records
asked_last b k e = asked_few (asked_for b k e)

pub asked_length : (b : List ℕ) (k : ℕ) → payload_verdict b k ≡ no_refusal → header_octets ≤ length_of b (k - 1)
asked_length b k e =
    let a = asked_for b k e in
    omega (arith, (placed b a.count (k - 1) a.records (omega (arith, a.first, a.last))).size)

named_by : (b : List ℕ) (k : ℕ) (v : Verdict) → payload_verdict b k ≡ v
    → let p = bounds_after v (bounds_of b (k - 1)) in
    (bounds_offset p + bounds_length p ≤ length b) × (part b (bounds_offset p) (bounds_length p) ≡ unless_refused v (payload_of (record_of b (k - 1))))
unfolding bounds_of
named_by b k (Ok tt) q =
    let i = k - 1 in
    let a = asked_for b k q in
    let p = placed b a.count i a.records (omega (arith, a.first, a.last)) in
    let n : offset_of b i + length_of b i - (offset_of b i + 16) ≡ length_of b i - 16 = omega arith in
    (omega (arith, p.inside, p.size), sym (payload_part-holds b i p ∙ rw n))
named_by b k (Err r) q = (omega arith, refl)

-- the bounds name the payload, which is empty where it is refused
pub part_named : (b : List ℕ) (k : ℕ)
    → let p = payload_bounds b k in (bounds_offset p + bounds_length p ≤ length b) × (part b (bounds_offset p) (bounds_length p) ≡ payload_part b k)
unfolding payload_bounds payload_part
part_named b k = named_by b k (payload_verdict b k) refl

-- where the payload of an accepted number lies
pub record Bounded (b : List ℕ) (k from n : ℕ) : Type 0 where
  pub inside : from + n ≤ length b
  pub octets : part b from n ≡ payload_part b k

pub bounded : (b : List ℕ) (k from n : ℕ) → payload_bounds b k ≡ Ok (record { from = from; octets = n }) → Bounded b k from n
bounded b k from n e = let q = part_named b k in record { inside = rw e at q.0; octets = rw e at q.1 }

pub bounded_inside : (b : List ℕ) (k : ℕ) (p : Bounds) → payload_bounds b k ≡ Ok p → p.from + p.octets ≤ length b
bounded_inside b k p e = (bounded b k p.from p.octets e).inside

pub refused_part : (b : List ℕ) (k : ℕ) (r : Refusal) → payload_bounds b k ≡ Err r → payload_part b k ≡ []
refused_part b k r e = sym (rw e at (part_named b k).1)

-- the records end where the block does
pub records_end : (b : List ℕ) (n : ℕ) → Records b n → due_of b n ≡ length b
unfolding due_of
records_end b zero r = omega (arith, r.count, r.sizes.alone (sym r.count))
records_end b (suc m) r = (pair_fits b m (r.fit m (omega arith))).last (omega (arith, r.count))
