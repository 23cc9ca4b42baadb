-- A capture block b read under the settings s: in the near way, with a receive clock that is known only nearly, or in the usual one
-- (02, C-18). The usual way is that of Opening, Verdict and Listing. Assumes nothing.
use Rattle.std.specs.Prelude.{Bool, List, ◌++◌, ℕ, ◌+◌, ◌-◌, eqb, length, drop, Result, Ok, Err}
use Rattle.octets.specs.Choice.{pick}
use Rattle.octets.specs.Lists.{sum, tabulate}
use Rattle.octets.specs.Output.{WithOutput, with_output}
use Rattle.envelope.specs.ControlMask.{count_enciphered, runs}
use Rattle.records.specs.declared.near.Drift.{Drift}
use Rattle.records.specs.Settings.{settings_verdict}
use Rattle.records.specs.Verdict.{verdict_of, record_number, RecordVerdict}
use Rattle.records.specs.Block.{most_records, records_in, record_of}
use Rattle.records.specs.Near.{no_drift, signed_octet}
use Rattle.records.specs.Following.{header_of, drift_at, near_verdict}
use Rattle.rows.specs.Text.{row_of, refused_row}
use Rattle.reading.specs.declared.NearAnswer.{NearAnswer}
use Rattle.reading.specs.declared.NearVerdicts.{NearVerdicts}
use Rattle.directory.specs.Payload.{payload_verdict}
use Rattle.reading.specs.Opening.{written_as, added_as, expansions, open_verdict}
use Rattle.reading.specs.Verdict.{after_call, call_directory}
use Rattle.reading.specs.Listing.{heading_text}
use Rattle.directory.specs.Rebuilt.{joined, rebuilt}
use Rattle.refusal.specs.Verdict.{Verdict}
use Rattle.refusal.specs.declared.Refusal.{Refusal}

-- the corrections before record i, none in the usual way, and the verdict on it
abbrev pub drift_by : Bool → List ℕ → List ℕ → ℕ → Drift
drift_by near s b i = pick near (drift_at s b i) no_drift

abbrev pub verdict_by : Bool → List ℕ → List ℕ → ℕ → RecordVerdict
verdict_by near s b i = pick near (near_verdict s b i) (verdict_of s (record_of b i))

-- the smallest and the largest correction of a call, each as the octet of a signed number; 0 where no header was accepted (D88)
abbrev pub smallest_by : Bool → List ℕ → List ℕ → ℕ
smallest_by near s b = signed_octet (drift_by near s b (records_in b)).smallest

abbrev pub largest_by : Bool → List ℕ → List ℕ → ℕ
largest_by near s b = signed_octet (drift_by near s b (records_in b)).largest

---- opening

-- record i as its verdict has it written: the clock field stays as recorded
abbrev pub record_by : Bool → List ℕ → List ℕ → ℕ → List ℕ
record_by near s b i = written_as s (record_of b i) (verdict_by near s b i)

-- what it adds to a sum over payloads, and the sum
abbrev pub adds_by : Bool → (List ℕ → ℕ) → List ℕ → List ℕ → ℕ → ℕ
adds_by near g s b i = added_as g (record_of b i) (verdict_by near s b i)

unfoldable pub total_by : Bool → (List ℕ → ℕ) → List ℕ → List ℕ → ℕ
total_by near g s b = sum 0 (records_in b) (adds_by near g s b)

-- a refused call has no corrections, and leaves the output as it was lent
unfoldable pub opening_as : Bool → Verdict → List ℕ → List ℕ → List ℕ → WithOutput NearAnswer
opening_as near (Ok tt) s b out =
    with_output
    (record {
      opened = Ok (record { count = total_by near count_enciphered s b; runs = total_by near runs s b; expansions = expansions s });
      smallest = smallest_by near s b;
      largest = largest_by near s b;
    })
    (rebuilt (record_by near s b) b)
opening_as near (Err r) s b out = with_output (record { opened = Err r; smallest = 0; largest = 0 }) out

-- 14, 1, 15, 18 and 19 are the same both ways; out is the output as it was lent
unfoldable pub opening_by : Bool → List ℕ → List ℕ → List ℕ → WithOutput NearAnswer
opening_by near s b out = opening_as near (open_verdict s b (length out)) s b out

---- the verdict on the record with number k, from 1, and the verdicts on all

unfoldable pub asked_by : Bool → List ℕ → List ℕ → ℕ → RecordVerdict
asked_by near s b k = after_call (settings_verdict s) (after_call (payload_verdict b k) (verdict_by near s b (k - 1)))

-- the output out with the codes of the verdicts on the first n records, that of record k at octet k - 1; the rest stays
unfoldable pub numbers_by : Bool → List ℕ → List ℕ → ℕ → List ℕ → List ℕ
numbers_by near s b n out = tabulate 0 n (λ i. record_number (asked_by near s b (i + 1))) ++ drop n out

abbrev pub judging_as : Bool → Result ℕ Refusal → List ℕ → List ℕ → List ℕ → WithOutput NearVerdicts
judging_as near (Ok n) s b out =
    with_output (record { directory = Ok n; smallest = smallest_by near s b; largest = largest_by near s b }) (numbers_by near s b n out)
judging_as near (Err r) s b out = with_output (record { directory = Err r; smallest = 0; largest = 0 }) out

unfoldable pub judging_by : Bool → List ℕ → List ℕ → List ℕ → WithOutput NearVerdicts
judging_by near s b out = judging_as near (call_directory (eqb (length out) most_records) s b) s b out

---- the listing

abbrev pub row_by : Bool → List ℕ → List ℕ → ℕ → List ℕ
row_by near s b i = row_of (i + 1) (header_of b i) (verdict_by near s b i)

unfoldable pub body_as : Bool → List ℕ → List ℕ → Verdict → List ℕ
body_as near s b (Ok tt) = joined (row_by near s b) 0 (records_in b)
body_as near s b (Err r) = refused_row r

abbrev pub body_by : Bool → List ℕ → List ℕ → List ℕ
body_by near s b = body_as near s b (open_verdict s b (length b))

unfoldable pub listing_by : Bool → List ℕ → List ℕ → List ℕ
listing_by near s b = heading_text ++ body_by near s b
