-- The listing of two blocks, as ASCII codes (02, C-15), laid out as the reader's (01, Capture block). Assumes nothing.
use Rattle.std.specs.Prelude.{List, [], ◌∷◌, ◌++◌, ℕ, ◌+◌, ◌*◌, leb, eqb, length, drop, Ok, Err}
use Rattle.octets.specs.BigEndian.{number_at}
use Rattle.octets.specs.Choice.{pick}
use Rattle.octets.specs.Lists.{part}
use Rattle.refusal.specs.declared.Refusal.TheVariants.{BadLength}
use Rattle.records.specs.Record.{record_header}
use Rattle.records.specs.Block.{records_in, record_of}
use Rattle.directory.specs.Rebuilt.{joined}
use Rattle.rows.specs.Text.{row_octets}
use Rattle.rows.specs.Entries.{entry_row, denied_row, total_row}
use Rattle.sameness.specs.Pairing.{partner_of, alone}
use Rattle.recordings.specs.Comparing.{output_octets, alone_mark, mark_at, total_of, ruling_on, Ruling}

-- "first second llid ch clock result" and a line feed
abbrev pub heading_text : List ℕ
heading_text =
    102 ∷ 105 ∷ 114 ∷ 115 ∷ 116 ∷ 32 ∷ 115 ∷ 101 ∷ 99 ∷ 111 ∷ 110 ∷ 100 ∷ 32 ∷ 108 ∷ 108 ∷ 105 ∷ 100 ∷ 32 ∷ 99 ∷ 104
    ∷ 32 ∷ 99 ∷ 108 ∷ 111 ∷ 99 ∷ 107 ∷ 32 ∷ 114 ∷ 101 ∷ 115 ∷ 117 ∷ 108 ∷ 116 ∷ 10 ∷ []

-- the number, from 1, of a partner at place p of b, 0 where there is none
unfoldable pub partner_number : List ℕ → ℕ → ℕ
partner_number b p = pick (eqb p (records_in b)) 0 (p + 1)

-- the row of record i of a, whose partner is at place p of b
abbrev pub row_with : List ℕ → List ℕ → ℕ → ℕ → List ℕ
row_with a b i p = entry_row (i + 1) (partner_number b p) (record_header (record_of a i)) (mark_at (record_of a i) b p)

abbrev pub first_row : List ℕ → List ℕ → ℕ → List ℕ
first_row a b i = row_with a b i (partner_of (record_of a i) b)

-- the row of record j of b if it is alone
abbrev pub alone_row : List ℕ → List ℕ → ℕ → List ℕ
alone_row b a j = pick (alone b a j) (entry_row 0 (j + 1) (record_header (record_of b j)) alone_mark) []

-- what a listing has room for behind its heading: a row for each entry, and the total
abbrev pub body_octets : ℕ
body_octets = row_octets * (output_octets + 1)

-- a row for each entry in its order, and the total
abbrev pub rows_of : ℕ → List ℕ → List ℕ → List ℕ
rows_of llid a b = (joined (first_row a b) 0 (records_in a) ++ joined (alone_row b a) 0 (records_in b)) ++ total_row (total_of llid a b)

-- a refused call prints its code, pair and block
unfoldable pub body_after : Ruling → ℕ → List ℕ → List ℕ → List ℕ
body_after (Ok tt) llid a b = rows_of llid a b
body_after (Err d) llid a b = denied_row d.refusal d.block

-- the input: LLID (2 octets), the length of the first block (4), both blocks
abbrev pub head_octets : ℕ
head_octets = 6

abbrev pub asked_llid : List ℕ → ℕ
asked_llid s = number_at 2 s 0

abbrev pub first_length : List ℕ → ℕ
first_length s = number_at 4 s 2

abbrev pub first_block : List ℕ → List ℕ
first_block s = part s head_octets (first_length s)

abbrev pub second_block : List ℕ → List ℕ
second_block s = drop (head_octets + first_length s) s

-- input that ends before its first block does, or before its head, is of a bad length: 14 (D93)
unfoldable pub body_of : List ℕ → List ℕ
body_of s =
    pick (leb (head_octets + first_length s) (length s))
    (body_after (ruling_on output_octets (first_block s) (second_block s)) (asked_llid s) (first_block s) (second_block s)) (denied_row BadLength 0)

unfoldable pub listing_of : List ℕ → List ℕ
listing_of s = heading_text ++ body_of s
