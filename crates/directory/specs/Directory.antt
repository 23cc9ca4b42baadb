-- The verdict on the directory of a capture block b (01, Capture block; 02, C-11). Assumes nothing.
use Rattle.std.specs.Prelude.{Bool, not, List, ℕ, zero, suc, ◌+◌, leb, eqb, length, Result, Ok, Err}
use Rattle.octets.specs.Choice.{both, either, pick}
use Rattle.refusal.specs.declared.Refusal.TheVariants.{BadDirectory, BrokenChain, UnsuitedLength}
use Rattle.directory.specs.declared.Pair.{Pair}
use Rattle.directory.specs.declared.Pair.TheVariants.{Fits, OffChain, OffLength}
use Rattle.records.specs.Record.{sized}
use Rattle.records.specs.Place.{end_fits}
use Rattle.records.specs.Block.{most_octets, most_records, count_octets, directory_octets, records_in, offset_of, end_of, due_of, record_of}
use Rattle.refusal.specs.Verdict.{Verdict, no_refusal}
use Rattle.refusal.specs.declared.Refusal.{Refusal}

-- pair i stands in the chain of offsets: it starts where the chain says, ends within the block, and at its end if it is the last
unfoldable pub chained : List ℕ → ℕ → Bool
chained b i = both (eqb (offset_of b i) (due_of b i)) (end_fits (eqb (i + 1) (records_in b)) (end_of b i) (length b))

-- the chain first, then the length against the record's EQs (D73)
unfoldable pub pair_of : List ℕ → ℕ → Pair
pair_of b i = pick (chained b i) (pick (sized (record_of b i)) Fits OffLength) OffChain

-- the block and its count are within their bounds, the pairs are all there, and a block without records is the count alone (D71)
unfoldable pub size_fits : List ℕ → Bool
size_fits b =
    both (both (leb count_octets (length b)) (leb (length b) most_octets))
    (both (leb (records_in b) most_records)
    (both (leb (directory_octets (records_in b)) (length b)) (either (not (eqb (records_in b) 0)) (eqb (length b) count_octets))))

-- what the pair with this number, counted from 1, makes of the verdict on the pairs behind it: 18 or 19 and the number (02, C-11; D74)
unfoldable pub with_pair : Pair → ℕ → Result ℕ Refusal → Result ℕ Refusal
with_pair Fits k rest = rest
with_pair OffChain k rest = Err (BrokenChain k)
with_pair OffLength k rest = Err (UnsuitedLength k)

-- the first pair that does not fit, of the m from pair i on (D72)
unfoldable pub pairs_from : List ℕ → ℕ → ℕ → Result ℕ Refusal
pairs_from b i zero = Ok i
pairs_from b i (suc m) = with_pair (pair_of b i) (suc i) (pairs_from b (suc i) m)

-- 15 comes ahead of both
unfoldable pub directory_of : List ℕ → Result ℕ Refusal
directory_of b = pick (size_fits b) (pairs_from b 0 (records_in b)) (Err BadDirectory)

abbrev pub verdict_on : Result ℕ Refusal → Verdict
verdict_on (Ok n) = no_refusal
verdict_on (Err r) = Err r
