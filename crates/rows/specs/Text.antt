-- The text of a listing's rows, as ASCII codes (01, Capture block: the reader program). Assumes nothing.
use Rattle.std.specs.Prelude.{◌≡◌, List, [], ◌∷◌, ◌++◌, ℕ, codes, zero, suc, ◌+◌, ◌/◌, ◌%◌, ◌^◌, ◌≤◌, leb, ltb, eqb, length, take, Ok, Err}
use Rattle.octets.specs.Choice.{pick}
use Rattle.octets.specs.Lists.{copied_at}
use Rattle.octets.specs.Output.{WithOutput, with_output}
use Rattle.refusal.specs.declared.Refusal.{Refusal}
use Rattle.refusal.specs.Number.{number_of, pair_number}
use Rattle.records.specs.declared.header.Header.{Header}
use Rattle.records.specs.Verdict.{enc_enabled, enc_key, RecordVerdict}
use Rattle.rows.specs.declared.Line.{Line}
use Rattle.records.specs.declared.header.Access.TheVariants.{Clear, Sealed}

-- a digit below 16: 0 to 9, then a to f
unfoldable pub glyph_of : ℕ → ℕ
glyph_of d = pick (ltb d 10) (48 + d) (87 + d)

-- the last k digits of n in base b, with zeros ahead
abbrev pub digits : ℕ → ℕ → ℕ → List ℕ
digits b zero n = []
digits b (suc k) n = glyph_of (n / b ^ k % b) ∷ digits b k n

-- the most digits of a number of 64 bits
abbrev pub most_digits : ℕ
most_digits = 20

-- how many digits n has, where they are at most m
unfoldable pub digits_within : ℕ → ℕ → ℕ
digits_within zero n = 0
digits_within (suc m) n = pick (ltb n 10) 1 (suc (digits_within m (n / 10)))

unfoldable pub digit_count : ℕ → ℕ
digit_count n = digits_within most_digits n

-- a number without zeros ahead
unfoldable pub decimal_of : ℕ → List ℕ
decimal_of n = digits 10 (digit_count n) n

-- EncKey, or - for a clear record, of refused ones too (D81)
unfoldable pub key_glyph : Header → ℕ
key_glyph h = pick (enc_enabled h.flags) (48 + enc_key h.flags) 45

-- "refused " and the code
unfoldable pub refused_text : Refusal → List ℕ
refused_text r = codes "refused " ++ decimal_of (number_of r)

-- "open", clear ones too, or refused
unfoldable pub result_text : RecordVerdict → List ℕ
result_text (Ok Clear) = codes "open"
result_text (Ok (Sealed i t)) = codes "open"
result_text (Err r) = refused_text r

-- number from 1, LLID (4 hex digits), channel index (2)
unfoldable pub row_head : ℕ → Header → List ℕ
row_head k h = decimal_of k ++ (32 ∷ (digits 16 4 h.llid ++ (32 ∷ (digits 16 2 h.channel ++ (32 ∷ [])))))

-- EncKey, EQs
unfoldable pub row_middle : Header → List ℕ
row_middle h = key_glyph h ∷ 32 ∷ (decimal_of h.eqs ++ (32 ∷ []))

-- then the result
unfoldable pub row_tail : Header → RecordVerdict → List ℕ
row_tail h v = row_middle h ++ (result_text v ++ (10 ∷ []))

unfoldable pub row_of : ℕ → Header → RecordVerdict → List ℕ
row_of k h v = row_head k h ++ row_tail h v

-- a record that may be seen but not opened: its result is "seen" (02, C-19)
unfoldable pub seen_row : ℕ → Header → List ℕ
seen_row k h = row_head k h ++ (row_middle h ++ (codes "seen" ++ (10 ∷ [])))

-- a record whose header may not be seen: its number and a dash only (02, C-19)
unfoldable pub hidden_row : ℕ → List ℕ
hidden_row k = decimal_of k ++ (32 ∷ 45 ∷ 10 ∷ [])

-- a blank and the pair that a refused call names, nothing where it names none (02, C-11)
unfoldable pub pair_text : Refusal → List ℕ
pair_text r = pick (eqb (pair_number r) 0) [] (32 ∷ decimal_of (pair_number r))

-- the row of a call that is refused
unfoldable pub refused_row : Refusal → List ℕ
refused_row r = (refused_text r ++ pair_text r) ++ (10 ∷ [])

-- the most octets of a row: two decimal numbers, and 23 beside them
abbrev pub row_octets : ℕ
row_octets = 63

-- what a line holds
abbrev pub text_of : Line → List ℕ
text_of l = take l.used l.octets

-- a line with this text and no more
pub record Holds (l : Line) (text : List ℕ) : Type 0 where
  pub octets : text_of l ≡ text
  pub used : l.used ≡ length text
  pub inside : l.used ≤ row_octets

-- a text with a line behind its first `at` octets, as much of it as there is room for, and where that ends
unfoldable pub with_line : List ℕ → ℕ → Line → WithOutput ℕ
with_line text at l =
    let end = at + length (text_of l) in with_output (pick (leb end (length text)) end (length text)) (copied_at (text_of l) at text)
