-- Two blocks a and b held against each other (02, C-15). Assumes nothing.
use Rattle.std.specs.Prelude.{Bool, not, List, [], ◌∷◌, ◌++◌, ℕ, ◌+◌, eqb, length, drop, Result, Ok, Err, ⊤}
use Rattle.octets.specs.Choice.{both, pick}
use Rattle.octets.specs.Lists.{tabulate, sum}
use Rattle.octets.specs.Output.{WithOutput}
use Rattle.refusal.specs.declared.Refusal.{Refusal}
use Rattle.refusal.specs.declared.Refusal.TheVariants.{OutOfRange, BadLength, RepeatedRecord}
use Rattle.refusal.specs.Number.{number_of, pair_number}
use Rattle.refusal.specs.Order.{refuse_if, and_then}
use Rattle.records.specs.Record.{record_header}
use Rattle.records.specs.Verdict.{header_fits}
use Rattle.records.specs.Block.{records_in, record_of}
use Rattle.directory.specs.Directory.{verdict_on, directory_of}
use Rattle.directory.specs.Rebuilt.{joined}
use Rattle.recordings.specs.declared.verdict.Denial.{Denial}
use Rattle.recordings.specs.declared.compare.Comparison.{Comparison}
use Rattle.recordings.specs.declared.compare.Mark.{Mark}
use Rattle.recordings.specs.declared.compare.Mark.TheVariants.{Alone, Same, Different}
use Rattle.octets.specs.Each.{each}
use Rattle.sameness.specs.Pairing.{partner_of, alone, distinct}
use Rattle.sameness.specs.Sameness.{same}
use Rattle.refusal.specs.Verdict.{Verdict, no_refusal}

-- the octets of the output, an entry each
abbrev pub output_octets : ℕ
output_octets = 512

-- what an entry says of its record
abbrev pub alone_mark : ℕ
alone_mark = 0

abbrev pub same_mark : ℕ
same_mark = 1

abbrev pub different_mark : ℕ
different_mark = 2

abbrev pub mark_octet : Mark → ℕ
mark_octet Alone = alone_mark
mark_octet Same = same_mark
mark_octet Different = different_mark

-- record r has its partner, if any, in b at this place
unfoldable pub mark_at : List ℕ → List ℕ → ℕ → ℕ
mark_at r b p = pick (eqb p (records_in b)) alone_mark (pick (same r (record_of b p)) same_mark different_mark)

-- the entry of record i of a
abbrev pub mark_of : List ℕ → List ℕ → ℕ → ℕ
mark_of a b i = mark_at (record_of a i) b (partner_of (record_of a i) b)

-- an entry for record j of b if it is alone
abbrev pub alone_entry : List ℕ → List ℕ → ℕ → List ℕ
alone_entry b a j = pick (alone b a j) (alone_mark ∷ []) []

-- and for each that is, of the first m
abbrev pub alone_marks : List ℕ → List ℕ → ℕ → List ℕ
alone_marks b a m = joined (alone_entry b a) 0 m

-- per record of the first block in order, then per unpaired record of the second
unfoldable pub entries_of : List ℕ → List ℕ → List ℕ
entries_of a b = tabulate 0 (records_in a) (mark_of a b) ++ alone_marks b a (records_in b)

-- 1 for a record of this LLID that is alone
abbrev pub alone_at : ℕ → List ℕ → List ℕ → ℕ → ℕ
alone_at llid a b i = pick (both (alone a b i) (eqb (record_header (record_of a i)).llid llid)) 1 0

-- the records of an LLID that are alone, in a and in both blocks
unfoldable pub alone_of : ℕ → List ℕ → List ℕ → ℕ
alone_of llid a b = sum 0 (records_in a) (alone_at llid a b)

abbrev pub total_of : ℕ → List ℕ → List ℕ → ℕ
total_of llid a b = alone_of llid a b + alone_of llid b a

-- kind, channel index and flags of every record are of their values; EPAM is not looked at
unfoldable pub headers_fit : List ℕ → Bool
headers_fit b = each 0 (records_in b) (λ i. header_fits (record_header (record_of b i)))

-- 15, 18 or 19, then 1 for any record
unfoldable pub block_verdict : List ℕ → Verdict
block_verdict b = and_then (verdict_on (directory_of b)) (refuse_if (not (headers_fit b)) OutOfRange no_refusal)

-- 22
unfoldable pub repeat_verdict : List ℕ → Verdict
repeat_verdict b = refuse_if (not (distinct b)) RepeatedRecord no_refusal

-- a refusal with the block that earns it, 1 or 2, or 0 where no block does, or none
abbrev pub Ruling : Type 0
Ruling = Result ⊤ Denial

abbrev pub no_denial : Ruling
no_denial = Ok tt

-- a verdict's refusal, which this block earns; else the rest of the order
unfoldable pub ruled : ℕ → Verdict → Ruling → Ruling
ruled block (Ok tt) rest = rest
ruled block (Err r) rest = Err (record { refusal = r; block = block })

-- 14, the first block's own refusals, the second's, then 22, for the first block and for the second
unfoldable pub ruling_on : ℕ → List ℕ → List ℕ → Ruling
ruling_on size a b =
    ruled 0 (refuse_if (not (eqb size output_octets)) BadLength no_refusal)
    (ruled 1 (block_verdict a) (ruled 2 (block_verdict b) (ruled 1 (repeat_verdict a) (ruled 2 (repeat_verdict b) no_denial))))

-- the code, the pair that a refusal names and its block, else 0; entries written and the total, 0 where the call is refused
abbrev pub denied : Refusal → ℕ → Comparison
denied r block = record { number = number_of r; pair = pair_number r; block = block; entries = 0; total = 0 }

abbrev pub compared : ℕ → ℕ → Comparison
compared entries total = record { number = 0; pair = 0; block = 0; entries = entries; total = total }

unfoldable pub compared_after : Ruling → ℕ → List ℕ → List ℕ → List ℕ → WithOutput Comparison
compared_after (Ok tt) llid a b out =
    record { answer = compared (length (entries_of a b)) (total_of llid a b); output = entries_of a b ++ drop (length (entries_of a b)) out }
compared_after (Err d) llid a b out = record { answer = denied d.refusal d.block; output = out }

-- out is the output as it was lent
unfoldable pub comparing : ℕ → List ℕ → List ℕ → List ℕ → WithOutput Comparison
comparing llid a b out = compared_after (ruling_on (length out) a b) llid a b out
