-- The text of the rows of two recordings, as ASCII codes (02, C-15). Assumes nothing.
use Rattle.std.specs.Prelude.{List, [], ◌∷◌, ◌++◌, ℕ, codes, eqb}
use Rattle.octets.specs.Choice.{pick}
use Rattle.refusal.specs.declared.Refusal.{Refusal}
use Rattle.records.specs.declared.header.Header.{Header}
use Rattle.rows.specs.Text.{digits, decimal_of, refused_text, pair_text}

-- a record's number from 1, or - where there is none
unfoldable pub number_text : ℕ → List ℕ
number_text k = pick (eqb k 0) (45 ∷ []) (decimal_of k)

-- "alone", "same" and "different"
abbrev pub alone_text : List ℕ
alone_text = codes "alone"

abbrev pub same_text : List ℕ
same_text = codes "same"

abbrev pub different_text : List ℕ
different_text = codes "different"

-- for an entry of 0, 1 and 2
unfoldable pub mark_text : ℕ → List ℕ
mark_text mark = pick (eqb mark 0) alone_text (pick (eqb mark 1) same_text different_text)

-- the numbers in both blocks, LLID (4 hex digits), channel index (2)
unfoldable pub entry_head : ℕ → ℕ → Header → List ℕ
entry_head first second h =
    number_text first ++ (32 ∷ (number_text second ++ (32 ∷ (digits 16 4 h.llid ++ (32 ∷ (digits 16 2 h.channel ++ (32 ∷ [])))))))

-- clock and entry
unfoldable pub entry_tail : ℕ → ℕ → List ℕ
entry_tail clock mark = decimal_of clock ++ (32 ∷ (mark_text mark ++ (10 ∷ [])))

unfoldable pub entry_row : ℕ → ℕ → Header → ℕ → List ℕ
entry_row first second h mark = entry_head first second h ++ entry_tail h.clock mark

-- a blank and the block that earns a refusal, nothing where none does
unfoldable pub block_text : ℕ → List ℕ
block_text block = pick (eqb block 0) [] (32 ∷ decimal_of block)

-- the row of a call that is refused, with the pair, then the block
unfoldable pub denied_row : Refusal → ℕ → List ℕ
denied_row r block = ((refused_text r ++ pair_text r) ++ block_text block) ++ (10 ∷ [])

-- "total " and the number
unfoldable pub total_row : ℕ → List ℕ
total_row total = (codes "total " ++ decimal_of total) ++ (10 ∷ [])
