-- The verdict on a record that is asked for by its number, and the verdicts on all (01, Capture block). Assumes nothing.
use Rattle.std.specs.Prelude.{Bool, List, ◌++◌, ℕ, ◌+◌, ◌-◌, eqb, length, drop, Result, Ok, Err}
use Rattle.octets.specs.Choice.{pick}
use Rattle.octets.specs.Lists.{tabulate}
use Rattle.octets.specs.Output.{WithOutput, with_output}
use Rattle.refusal.specs.declared.Refusal.TheVariants.{BadLength}
use Rattle.records.specs.Settings.{settings_verdict}
use Rattle.records.specs.Verdict.{verdict_of, record_number, RecordVerdict}
use Rattle.records.specs.Block.{most_records, record_of}
use Rattle.directory.specs.Directory.{directory_of}
use Rattle.directory.specs.Payload.{payload_verdict}
use Rattle.refusal.specs.Verdict.{Verdict}
use Rattle.refusal.specs.declared.Refusal.{Refusal}

-- a call's own refusal comes ahead of what it gives
abbrev pub after_call : Verdict → RecordVerdict → RecordVerdict
after_call (Ok tt) v = v
after_call (Err r) v = Err r

-- the verdict on the record with number k, from 1: 14 and 1 for the settings, 15, 18 or 19, 1 for k, then the record's own
unfoldable pub verdict_asked : List ℕ → List ℕ → ℕ → RecordVerdict
verdict_asked s b k =
    after_call (settings_verdict s) (after_call (payload_verdict b k) (verdict_of s (record_of b (k - 1))))

-- what a call finds: 14 where its output does not suit, 14 and 1 for the settings, then what the directory is found to be
abbrev pub after_settings : Verdict → Result ℕ Refusal → Result ℕ Refusal
after_settings (Ok tt) d = d
after_settings (Err r) d = Err r

unfoldable pub call_directory : Bool → List ℕ → List ℕ → Result ℕ Refusal
call_directory suits s b = pick suits (after_settings (settings_verdict s) (directory_of b)) (Err BadLength)

-- the output out with the codes of the verdicts on the first n records, that of record k at octet k - 1; the rest stays
unfoldable pub numbers_over : List ℕ → List ℕ → ℕ → List ℕ → List ℕ
numbers_over s b n out = tabulate 0 n (λ i. record_number (verdict_asked s b (i + 1))) ++ drop n out

abbrev pub verdicts_after : Result ℕ Refusal → List ℕ → List ℕ → List ℕ → WithOutput (Result ℕ Refusal)
verdicts_after (Ok n) s b out = with_output (Ok n) (numbers_over s b n out)
verdicts_after (Err r) s b out = with_output (Err r) out

-- the verdicts on all records, into an output of 256 octets (D78)
unfoldable pub verdicts_of : List ℕ → List ℕ → List ℕ → WithOutput (Result ℕ Refusal)
verdicts_of s b out = verdicts_after (call_directory (eqb (length out) most_records) s b) s b out
