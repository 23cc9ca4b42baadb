-- The entries and the total as C-15 had them, for the law that they are held to (02, C-20). Assumes nothing.
use Rattle.std.specs.Prelude.{List, ℕ, ◌+◌, eqb}
use Rattle.octets.specs.Choice.{both, pick}
use Rattle.octets.specs.Lists.{sum}
use Rattle.records.specs.Record.{record_header}
use Rattle.records.specs.Block.{records_in, record_of}
use Rattle.sameness.specs.Pairing.{alone, partner_of}
use Rattle.sameness.specs.Sameness.{same_data}
use Rattle.recordings.specs.Comparing.{alone_mark, same_mark, different_mark}

-- the entry of record i of a
unfoldable pub mark_before : List ℕ → List ℕ → ℕ → ℕ
mark_before a b i =
    pick (alone a b i) alone_mark (pick (same_data (record_of a i) (record_of b (partner_of (record_of a i) b))) same_mark different_mark)

-- the records of an LLID whose entry was 0, in a and in both blocks
unfoldable pub alone_before : ℕ → List ℕ → List ℕ → ℕ
alone_before llid a b = sum 0 (records_in a) (λ i. pick (both (eqb (mark_before a b i) alone_mark) (eqb (record_header (record_of a i)).llid llid)) 1 0)

abbrev pub total_before : ℕ → List ℕ → List ℕ → ℕ
total_before llid a b = alone_before llid a b + alone_before llid b a
