-- Opening a capture block b under the settings s (01, Capture block). Assumes nothing.
use Rattle.std.specs.Prelude.{not, List, [], ◌++◌, ℕ, zero, suc, ◌+◌, eqb, length, take, set, Result, Ok, Err}
use Rattle.octets.specs.Bits.{bit_of}
use Rattle.octets.specs.Lists.{sum}
use Rattle.octets.specs.Output.{WithOutput}
use Rattle.refusal.specs.declared.Refusal.{Refusal}
use Rattle.refusal.specs.declared.Refusal.TheVariants.{BadLength}
use Rattle.refusal.specs.Number.{number_of, pair_number}
use Rattle.refusal.specs.Order.{refuse_if, and_then}
use Rattle.envelope.specs.ControlMask.{count_enciphered, runs}
use Rattle.envelope.specs.declared.Nonce.{Nonce}
use Rattle.cipher.specs.KeyExpansion.{key_expansion}
use Rattle.sealing.specs.Payload.{sealed}
use Rattle.records.specs.declared.header.Header.{Header}
use Rattle.reading.specs.declared.Opened.{Opened}
use Rattle.records.specs.Settings.{key_of, mac_of, presence_of, settings_verdict}
use Rattle.records.specs.Record.{header_octets, flags_at, record_header, payload_of}
use Rattle.records.specs.Block.{directory_octets, records_in, record_of}
use Rattle.directory.specs.Directory.{verdict_on, directory_of}
use Rattle.records.specs.Verdict.{cleared_flags, verdict_of, RecordVerdict}
use Rattle.records.specs.declared.header.Access.TheVariants.{Clear, Sealed}
use Rattle.refusal.specs.Verdict.{Verdict}

-- what the counter blocks of a record with the header h are made of, at the clock t: one MAC for both directions (D76)
abbrev pub record_nonce : List ℕ → Header → ℕ → Nonce
record_nonce s h t = record { channel = h.channel; mac = mac_of s; clock = t }

-- an opened record has EncEnabled and EncKey cleared among its flags
abbrev pub cleared : List ℕ → List ℕ
cleared r = set r flags_at (cleared_flags (record_header r).flags)

-- a record as the verdict has it written: refused and clear ones are copied unchanged
unfoldable pub written_as : List ℕ → List ℕ → RecordVerdict → List ℕ
written_as s r (Ok (Sealed i t)) = take header_octets (cleared r) ++ sealed (key_expansion (key_of s i)) (record_nonce s (record_header r) t) (payload_of r)
written_as s r (Ok Clear) = r
written_as s r (Err c) = r

-- what a record adds to a sum over payloads, as the verdict has it: clear and refused ones add nothing (D80)
unfoldable pub added_as : (List ℕ → ℕ) → List ℕ → RecordVerdict → ℕ
added_as f r (Ok (Sealed i t)) = f (payload_of r)
added_as f r (Ok Clear) = 0
added_as f r (Err c) = 0

unfoldable pub opened_record : List ℕ → List ℕ → List ℕ
opened_record s r = written_as s r (verdict_of s r)

unfoldable pub record_adds : (List ℕ → ℕ) → List ℕ → List ℕ → ℕ
record_adds f s r = added_as f r (verdict_of s r)

-- the m records from record i on, each opened by itself
unfoldable pub opened_from : List ℕ → List ℕ → ℕ → ℕ → List ℕ
opened_from s b i zero = []
opened_from s b i (suc m) = opened_record s (record_of b i) ++ opened_from s b (suc i) m

-- the directory stays, and the records follow it
unfoldable pub opened_block : List ℕ → List ℕ → List ℕ
opened_block s b = take (directory_octets (records_in b)) b ++ opened_from s b 0 (records_in b)

-- the sum over the records
unfoldable pub block_adds : (List ℕ → ℕ) → List ℕ → List ℕ → ℕ
block_adds f s b = sum 0 (records_in b) (λ i. record_adds f s (record_of b i))

-- the octets deciphered, and the runs of the cipher (02, C-17)
abbrev pub block_count : List ℕ → List ℕ → ℕ
block_count s b = block_adds count_enciphered s b

abbrev pub block_runs : List ℕ → List ℕ → ℕ
block_runs s b = block_adds runs s b

-- 02, C-17: each present key is expanded once, used or not
unfoldable pub expansions : List ℕ → ℕ
expansions s = bit_of (presence_of s) 0 + bit_of (presence_of s) 1

-- 14, 1, 15, then 18 and 19
unfoldable pub open_verdict : List ℕ → List ℕ → ℕ → Verdict
open_verdict s b output_octets =
    refuse_if (not (eqb output_octets (length b))) BadLength (and_then (settings_verdict s) (verdict_on (directory_of b)))

-- what opening took, or its refusal
abbrev pub OpenAnswer : Type 0
OpenAnswer = Result Opened Refusal

unfoldable pub opening_after : Verdict → List ℕ → List ℕ → List ℕ → WithOutput OpenAnswer
opening_after (Ok tt) s b out =
    record { answer = Ok (record { count = block_count s b; runs = block_runs s b; expansions = expansions s }); output = opened_block s b }
opening_after (Err r) s b out = record { answer = Err r; output = out }

-- out is the output as it was lent
unfoldable pub opening : List ℕ → List ℕ → List ℕ → WithOutput OpenAnswer
opening s b out = opening_after (open_verdict s b (length out)) s b out

-- the code of an answer, the pair that a refusal names, else 0, its count, runs and expansions
abbrev pub open_number : OpenAnswer → ℕ
open_number (Ok o) = 0
open_number (Err r) = number_of r

abbrev pub open_pair : OpenAnswer → ℕ
open_pair (Ok o) = 0
open_pair (Err r) = pair_number r

abbrev pub open_count : OpenAnswer → ℕ
open_count (Ok o) = o.count
open_count (Err r) = 0

abbrev pub open_runs : OpenAnswer → ℕ
open_runs (Ok o) = o.runs
open_runs (Err r) = 0

abbrev pub open_expansions : OpenAnswer → ℕ
open_expansions (Ok o) = o.expansions
open_expansions (Err r) = 0
