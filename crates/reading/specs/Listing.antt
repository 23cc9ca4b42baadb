-- The listing of a capture block, as ASCII codes (01, Capture block: the reader program). Assumes nothing.
use Rattle.std.specs.Prelude.{List, [], ◌∷◌, ◌++◌, ℕ, zero, suc, ◌+◌, ◌*◌, length, Ok, Err}
use Rattle.records.specs.Record.{record_header}
use Rattle.records.specs.Verdict.{verdict_of}
use Rattle.rows.specs.Text.{row_of, refused_row}
use Rattle.records.specs.Block.{most_records, records_in, record_of}
use Rattle.reading.specs.Opening.{open_verdict}
use Rattle.refusal.specs.Verdict.{Verdict}

-- the row of record i
abbrev pub row_at : List ℕ → List ℕ → ℕ → List ℕ
row_at s b i = row_of (i + 1) (record_header (record_of b i)) (verdict_of s (record_of b i))

-- the m records from record i on
unfoldable pub rows_from : List ℕ → List ℕ → ℕ → ℕ → List ℕ
rows_from s b i zero = []
rows_from s b i (suc m) = row_at s b i ++ rows_from s b (suc i) m

-- what a listing has room for, behind its heading: a row of a block's record has numbers of at most four digits (D84)
abbrev pub line_octets : ℕ
line_octets = 40

abbrev pub body_octets : ℕ
body_octets = line_octets * most_records

-- "no llid ch key eqs result" and a line feed
abbrev pub heading_text : List ℕ
heading_text =
    110 ∷ 111 ∷ 32 ∷ 108 ∷ 108 ∷ 105 ∷ 100 ∷ 32 ∷ 99 ∷ 104 ∷ 32 ∷ 107 ∷ 101 ∷ 121 ∷ 32 ∷ 101 ∷ 113 ∷ 115 ∷ 32 ∷ 114
    ∷ 101 ∷ 115 ∷ 117 ∷ 108 ∷ 116 ∷ 10 ∷ []

-- a refused call prints its code, an accepted one a row for each record (D82)
unfoldable pub body_after : List ℕ → List ℕ → Verdict → List ℕ
body_after s b (Ok tt) = rows_from s b 0 (records_in b)
body_after s b (Err r) = refused_row r

abbrev pub body_of : List ℕ → List ℕ → List ℕ
body_of s b = body_after s b (open_verdict s b (length b))

unfoldable pub listing_of : List ℕ → List ℕ → List ℕ
listing_of s b = heading_text ++ body_of s b
