-- The listing of a capture block b for the user who asks, as ASCII codes (02, C-19). Assumes nothing.
use Rattle.std.specs.Prelude.{Bool, true, List, ◌++◌, ℕ, ◌+◌, Result, Ok, Err}
use Rattle.records.specs.declared.header.Header.{Header}
use Rattle.records.specs.Block.{records_in}
use Rattle.records.specs.Following.{header_of}
use Rattle.rows.specs.Text.{row_of, seen_row, hidden_row, refused_row}
use Rattle.reading.specs.Listing.{heading_text}
use Rattle.directory.specs.Rebuilt.{joined}
use Rattle.rights.specs.declared.settings.Caller.{Caller}
use Rattle.rights.specs.declared.judging.ClassVerdict.{ClassVerdict}
use Rattle.rights.specs.declared.judging.ClassVerdict.TheVariants.{Hidden, Seen, Told}
use Rattle.class.specs.Reading.{told_of, call_for}
use Rattle.refusal.specs.declared.Refusal.{Refusal}

-- the row of record k, from 1, with the header h
unfoldable pub row_as : ℕ → Header → ClassVerdict → List ℕ
row_as k h Hidden = hidden_row k
row_as k h Seen = seen_row k h
row_as k h (Told v) = row_of k h v

abbrev pub row_for : Bool → Caller → List ℕ → List ℕ → List ℕ → ℕ → List ℕ
row_for near c s q b i = row_as (i + 1) (header_of b i) (told_of near c s q b i)

-- a refused call prints its code, an accepted one a row for each record
unfoldable pub body_after : Result ℕ Refusal → Bool → Caller → List ℕ → List ℕ → List ℕ → List ℕ
body_after (Ok n) near c s q b = joined (row_for near c s q b) 0 (records_in b)
body_after (Err r) near c s q b = refused_row r

abbrev pub body_for : Bool → Caller → List ℕ → List ℕ → List ℕ → List ℕ
body_for near c s q b = body_after (call_for true c s q b) near c s q b

unfoldable pub listing_for : Bool → Caller → List ℕ → List ℕ → List ℕ → List ℕ
listing_for near c s q b = heading_text ++ body_for near c s q b
