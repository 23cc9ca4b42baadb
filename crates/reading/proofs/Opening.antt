-- Laws of opening: what becomes of a record, what it adds, and what an accepted call gives. Assumes nothing.
use Rattle.std.specs.Prelude.{Result, Ok, Err}
use mathlib.Core.Path.{◌≡◌, refl, ap, ◌∙◌}
use mathlib.Core.Bool.{Bool, true, false, not}
use mathlib.Core.List.{List}
use Prim.Native.Nat.{ℕ, ◌-◌, ◌/◌, ◌≤◌}
use native.Mathlib.Omega.{arith}
use lib.ListN.{length, drop, length-append, length-take, length-drop, length-set}
use lib.Count.{ones}
use lib.Dec.{eqb}
use borrow.Author.Tests.{eq-eqb, eqb-true, not-false}
use Rattle.octets.specs.Choice.{pick}
use Rattle.octets.proofs.Lists.{sum_below}
use Rattle.octets.proofs.Choice.{pick_first}
use Rattle.octets.specs.Output.{with_output}
use Rattle.refusal.specs.declared.Refusal.{Refusal}
use Rattle.refusal.specs.declared.Refusal.TheVariants.{BadLength}
use Rattle.refusal.specs.Order.{refuse_if, and_then}
use Rattle.refusal.proofs.Order.{refuse_accepted, then_accepted}
use Rattle.envelope.specs.ControlMask.{control_octet, count_enciphered, most_runs, runs}
use Rattle.sealing.proofs.Payload.{runs_at_most, sealed_length}
use Rattle.records.specs.Settings.{settings_octets, settings_verdict}
use Rattle.records.specs.Record.{payload_of}
use Rattle.records.specs.Block.{most_octets, records_in, record_of}
use Rattle.directory.specs.Directory.{verdict_on, directory_of}
use Rattle.reading.specs.Opening.{written_as, added_as, opened_record, record_adds, opened_block, block_count, block_runs, expansions, open_verdict, opening_after, opening}
use Rattle.reading.specs.Reading.{verdict_by, adds_by}
use Rattle.records.specs.Verdict.{verdict_of, RecordVerdict}
use Rattle.reading.specs.Verdict.{after_settings, call_directory}
use Rattle.records.proofs.Verdicts.{settings_octets-holds}
use Rattle.directory.proofs.Records.{counted, record_below}
use Rattle.records.specs.declared.header.Access.TheVariants.{Clear, Sealed}
use Rattle.refusal.specs.Verdict.{Verdict, no_refusal}

-- a clear or refused record is written as it is, and adds nothing
pub clear_record : (s r : List ℕ) → verdict_of s r ≡ (Ok Clear) → (opened_record s r ≡ r) × ((g : List ℕ → ℕ) → record_adds g s r ≡ 0)
unfolding opened_record record_adds written_as added_as
clear_record s r e = (rw e, λ g. rw e)

pub refused_record : (s r : List ℕ) (c : Refusal) → verdict_of s r ≡ Err c
    → (opened_record s r ≡ r) × ((g : List ℕ → ℕ) → record_adds g s r ≡ 0)
unfolding opened_record record_adds written_as added_as
refused_record s r c e = (rw e, λ g. rw e)

-- opening keeps a record's length
pub written_length : (s r : List ℕ) (v : RecordVerdict) → 16 ≤ length r → length (written_as s r v) ≡ length r
unfolding written_as payload_of
written_length s r (Ok Clear) h = refl
written_length s r (Err c) h = refl
written_length s r (Ok (Sealed i t)) h = simp (length-append, length-take, length-set, sealed_length, length-drop) (omega arith)

pub opened_length : (s r : List ℕ) → 16 ≤ length r → length (opened_record s r) ≡ length r
unfolding opened_record
opened_length s r h = written_length s r (verdict_of s r) h

pub enciphered_below : (p : List ℕ) → count_enciphered p ≤ length p
unfolding count_enciphered
enciphered_below p =
    omega (arith, sum_below 0 (length p / 9) 8 (λ e. 8 - ones (control_octet p e)) (λ e. omega arith))

pub runs_below-holds : (p : List ℕ) → runs p ≤ length p
unfolding runs
runs_below-holds p = omega (arith, runs_at_most p (most_runs p))

-- what a record adds is few
module _ (g : List ℕ → ℕ) (few : (p : List ℕ) → g p ≤ length p) where
  pub added_below : (r : List ℕ) (v : RecordVerdict) → added_as g r v ≤ length r
  unfolding added_as payload_of
  added_below r (Ok Clear) = omega arith
  added_below r (Err c) = omega arith
  added_below r (Ok (Sealed i t)) = omega (arith, few (drop 16 r), length-drop 16 r)

  pub adds_few : (near : Bool) (s b : List ℕ) (i : ℕ) → length b ≤ most_octets → adds_by near g s b i ≤ most_octets
  adds_few near s b i h = omega (arith, added_below (record_of b i) (verdict_by near s b i), record_below b i h)

-- what acceptance of the call tells
pub record Callable (s b : List ℕ) (m : ℕ) : Type 0 where
  pub size : m ≡ length b
  pub accepted : settings_verdict s ≡ no_refusal
  pub settings : length s ≡ settings_octets
  pub good : directory_of b ≡ Ok (records_in b)

pub callable : (s b : List ℕ) (m : ℕ) → open_verdict s b m ≡ no_refusal → Callable s b m
unfolding open_verdict
callable s b m e =
    let p = refuse_accepted (not (eqb m (length b))) BadLength _ e in
    let q = then_accepted (settings_verdict s) (verdict_on (directory_of b)) p.1 in
    record {
      size = eqb-true _ _ (not-false _ p.0);
      accepted = q.0;
      settings = settings_octets-holds s q.0;
      good = counted b (directory_of b) refl q.1;
    }

-- what a call that goes on has found
pub call_good : (suits : Bool) (s b : List ℕ) (n : ℕ) → call_directory suits s b ≡ Ok n
    → (suits ≡ true) × (settings_verdict s ≡ no_refusal) × (directory_of b ≡ Ok n)
unfolding call_directory
call_good suits s b n e =
    let p = pick_first suits _ (Err BadLength) (Ok n) (λ z. cc) e in
    let q = by_settings (settings_verdict s) (directory_of b) n p.1 in
    (p.0, q.0, q.1) where
      by_settings : (v : Verdict) (d : Result ℕ Refusal) (n : ℕ) → after_settings v d ≡ Ok n → (v ≡ no_refusal) × (d ≡ Ok n)
      by_settings (Ok tt) d n e = (refl, e)
      by_settings (Err r) d n e = (cc, cc)

found_by : (t : Bool) (v : Verdict) (d : Result ℕ Refusal)
    → refuse_if (not t) BadLength (and_then v (verdict_on d)) ≡ verdict_on (pick t (after_settings v d) (Err BadLength))
unfolding refuse_if and_then pick
found_by true (Ok tt) d = refl
found_by true (Err r) d = refl
found_by false v d = refl

-- the verdict on the opening call is that on what it finds
open_found : (s b : List ℕ) (m : ℕ) → open_verdict s b m ≡ verdict_on (call_directory (eqb m (length b)) s b)
unfolding open_verdict call_directory
open_found s b m = found_by (eqb m (length b)) (settings_verdict s) (directory_of b)

module _ (s b : List ℕ) (m : ℕ) where
  pub found_bad : (r : Refusal) → call_directory (eqb m (length b)) s b ≡ Err r → open_verdict s b m ≡ Err r
  found_bad r e = open_found s b m ∙ ap verdict_on e

  pub found_good : (n : ℕ) → call_directory (eqb m (length b)) s b ≡ Ok n → open_verdict s b m ≡ no_refusal
  found_good n e = open_found s b m ∙ ap verdict_on e

-- a listing has no output that could be of another length
pub listing_found : (s b : List ℕ) → call_directory (eqb (length b) (length b)) s b ≡ call_directory true s b
listing_found s b = rw (eq-eqb (length b) (length b) refl)

pub opening_done : (s b out : List ℕ) → open_verdict s b (length out) ≡ no_refusal
    → with_output (Ok (record { count = block_count s b; runs = block_runs s b; expansions = expansions s })) (opened_block s b) ≡ opening s b out
unfolding opening opening_after
opening_done s b out e = rw e
