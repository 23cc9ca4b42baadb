-- Laws of the rows of a listing. Assumes nothing.
use Prim.Native.Nat.{ℕ, ◌≤◌, ◌<◌}
use native.Mathlib.Omega.{arith}
use lib.ListN.{length}
use Rattle.rows.specs.Text.{row_of}
use Rattle.rows.proofs.Lines.{decimal_below, row_few}
use Rattle.records.specs.declared.header.Header.{Header}
use Rattle.reading.specs.Listing.{line_octets}
use Rattle.records.specs.Verdict.{RecordVerdict}

-- a row whose numbers have at most four digits
pub row_short : (k : ℕ) (h : Header) (v : RecordVerdict) → k < 10000 → h.eqs < 10000 → length (row_of k h v) ≤ line_octets
row_short k h v few small = omega (arith, row_few k h v, decimal_below 3 k few, decimal_below 3 h.eqs small)
