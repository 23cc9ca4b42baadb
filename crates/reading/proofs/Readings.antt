-- Laws of both ways of reading: the usual way is the one of Opening, Verdict and Listing, and what a call comes to. Assumes nothing.
use Rattle.std.specs.Prelude.{Result, Ok, Err}
use mathlib.Core.Path.{◌≡◌, refl, sym, ap}
use mathlib.Core.Bool.{Bool, false}
use mathlib.Core.List.{List, ◌++◌}
use Prim.Native.Nat.{ℕ, zero, suc, ◌+◌, ◌-◌, ◌<◌}
use native.Mathlib.Omega.{arith}
use lib.Dec.{eqb}
use lib.ListN.{length}
use borrow.Author.Tests.{le-leb}
use Rattle.octets.specs.Choice.{pick}
use Rattle.octets.specs.Output.{with_output}
use Rattle.octets.proofs.Choice.{pick_same, both_true, pick_true}
use Rattle.refusal.specs.declared.Refusal.{Refusal}
use Rattle.records.specs.declared.near.Drift.{Drift}
use Rattle.records.specs.Settings.{settings_verdict}
use Rattle.records.specs.Block.{most_records, records_in, record_of}
use Rattle.records.specs.Near.{no_drift, signed_octet}
use Rattle.records.specs.Following.{drift_at}
use Rattle.directory.specs.Directory.{directory_of}
use Rattle.directory.specs.Payload.{payload_verdict}
use Rattle.directory.specs.Rebuilt.{joined}
use Rattle.reading.specs.Opening.{opened_record, record_adds, block_adds, open_verdict, opening_after, opening}
use Rattle.reading.specs.Verdict.{verdict_asked, call_directory, numbers_over, verdicts_after, verdicts_of}
use Rattle.reading.specs.Listing.{row_at, rows_from, body_after, listing_of}
use Rattle.reading.specs.Reading.{drift_by, verdict_by, record_by, total_by, opening_as, opening_by, asked_by, numbers_by, judging_as, judging_by, body_as, listing_by}
use Rattle.directory.proofs.Records.{Records, header_there}
use Rattle.reading.proofs.Opening.{written_length}
use Rattle.reading.proofs.Reopening.{opened_is}
use Rattle.refusal.specs.Verdict.{Verdict, no_refusal}

-- before the first record there are no corrections
pub no_corrections : (near : Bool) (s b : List ℕ) → no_drift ≡ drift_by near s b 0
unfolding drift_at
no_corrections near s b = sym (pick_same near no_drift)

-- a record is written in as many octets
pub record_size : (near : Bool) (s b : List ℕ) (n : ℕ) → Records b n → (i : ℕ) → i < n → length (record_by near s b i) ≡ length (record_of b i)
record_size near s b n r i h = written_length s (record_of b i) (verdict_by near s b i) (header_there b n r i h)

---- the usual way
opening_usual_by : (v : Verdict) (s b out : List ℕ)
    → with_output (opening_as false v s b out).answer.opened (opening_as false v s b out).output ≡ opening_after v s b out
unfolding opening_as opening_after total_by block_adds record_adds opened_record pick
opening_usual_by (Ok tt) s b out = rw (opened_is s b)
opening_usual_by (Err r) s b out = refl

pub opening_usual : (s b out : List ℕ) → with_output (opening_by false s b out).answer.opened (opening_by false s b out).output ≡ opening s b out
unfolding opening_by opening
opening_usual s b out = opening_usual_by (open_verdict s b (length out)) s b out

pub asked_usual : (s b : List ℕ) (k : ℕ) → asked_by false s b k ≡ verdict_asked s b k
unfolding asked_by verdict_asked pick
asked_usual s b k = refl

judging_usual_by : (d : Result ℕ Refusal) (s b out : List ℕ)
    → with_output (judging_as false d s b out).answer.directory (judging_as false d s b out).output ≡ verdicts_after d s b out
unfolding numbers_by numbers_over asked_by verdict_asked pick
judging_usual_by (Ok n) s b out = refl
judging_usual_by (Err r) s b out = refl

pub judging_usual : (s b out : List ℕ) → with_output (judging_by false s b out).answer.directory (judging_by false s b out).output ≡ verdicts_of s b out
unfolding judging_by verdicts_of
judging_usual s b out = judging_usual_by (call_directory (eqb (length out) most_records) s b) s b out

rows_are : (s b : List ℕ) (i m : ℕ) → rows_from s b i m ≡ joined (row_at s b) i m
unfolding rows_from joined
rows_are s b i zero = refl
rows_are s b i (suc m) = ap (λ (t : List ℕ). row_at s b i ++ t) (rows_are s b (suc i) m)

body_usual : (v : Verdict) (s b : List ℕ) → body_as false s b v ≡ body_after s b v
unfolding body_as body_after pick
body_usual (Ok tt) s b = sym (rows_are s b 0 (records_in b))
body_usual (Err r) s b = refl

pub listing_usual : (s b : List ℕ) → listing_by false s b ≡ listing_of s b
unfolding listing_by listing_of
listing_usual s b = rw (body_usual (open_verdict s b (length b)) s b)

-- the verdict on a record of a whole block that is asked for is the record's own
pub asked_own : (near : Bool) (s b : List ℕ) (n i : ℕ) → settings_verdict s ≡ no_refusal → directory_of b ≡ Ok n → i < n
    → asked_by near s b (i + 1) ≡ verdict_by near s b i
unfolding asked_by payload_verdict
asked_own near s b n i a g h =
    let back : i + 1 - 1 ≡ i = omega arith in
    rw (a, g, pick_true _ _ (both_true (le-leb 1 (i + 1) (omega arith)) (le-leb (i + 1) n (omega arith))), back)

---- what a call comes to
module _ (near : Bool) (s b out : List ℕ) where
  pub opening_bad : (r : Refusal) → open_verdict s b (length out) ≡ Err r
      → with_output (record { opened = Err r; smallest = 0; largest = 0 }) out ≡ opening_by near s b out
  unfolding opening_by opening_as
  opening_bad r e = rw e

  pub judging_bad : (r : Refusal) → call_directory (eqb (length out) most_records) s b ≡ Err r
      → with_output (record { directory = Err r; smallest = 0; largest = 0 }) out ≡ judging_by near s b out
  unfolding judging_by
  judging_bad r e = rw e

  pub judging_good : (n : ℕ) → call_directory (eqb (length out) most_records) s b ≡ Ok n → n ≡ records_in b
      → (o : List ℕ) (x y : ℕ) (d : Drift)
      → d ≡ drift_by near s b n → x ≡ signed_octet d.smallest → y ≡ signed_octet d.largest → o ≡ numbers_by near s b n out
      → with_output (record { directory = Ok n; smallest = x; largest = y }) o ≡ judging_by near s b out
  unfolding judging_by
  judging_good n v c o x y d ed ex ey eo = rw (v, ex, ey, ed, eo, c)
