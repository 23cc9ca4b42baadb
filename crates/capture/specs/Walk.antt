-- A capture block b, gone through record by record: each judged with the corrections before it, by whatever judges records. Assumes nothing.
use Rattle.std.specs.Prelude.{List, ℕ, zero, suc, ◌+◌, Result, Ok, Err}
use Rattle.records.specs.declared.header.Header.{Header}
use Rattle.records.specs.declared.near.Drift.{Drift}
use Rattle.records.specs.declared.near.Heard.{Heard}
use Rattle.records.specs.Near.{no_drift}
use Rattle.records.specs.Following.{header_of}
use Rattle.records.specs.Block.{header_from}
use Rattle.rows.specs.Text.{refused_row}
use Rattle.directory.specs.Rebuilt.{joined}
use Rattle.refusal.specs.declared.Refusal.{Refusal}
use Rattle.capture.specs.declared.walk.Turn.{Turn}
use Rattle.capture.specs.declared.walk.Walk.{Walk}

-- the record at which a walk stands: its header, and the verdict of who judges it
abbrev pub turned : {V : Type 0} → (Drift → Header → Heard V) → List ℕ → Walk → Turn V
turned judged b w =
    let h = header_from b w.from in
    record { from = w.from; header = h; verdict = (judged w.drift h).verdict }

-- the corrections before record i, none at first
unfoldable pub drift_walked : {V : Type 0} → (Drift → Header → Heard V) → List ℕ → ℕ → Drift
drift_walked judged b zero = no_drift
drift_walked judged b (suc i) = (judged (drift_walked judged b i) (header_of b i)).drift

-- the verdict on it
abbrev pub verdict_walked : {V : Type 0} → (Drift → Header → Heard V) → List ℕ → ℕ → V
verdict_walked judged b i = (judged (drift_walked judged b i) (header_of b i)).verdict

-- its row, where a row is made of the record's number, its header and the verdict
abbrev pub row_walked : {V : Type 0} → (ℕ → Header → V → List ℕ) → (Drift → Header → Heard V) → List ℕ → ℕ → List ℕ
row_walked row judged b i = row (i + 1) (header_of b i) (verdict_walked judged b i)

-- the rows of the records, or the code of the refusal that the call earns
unfoldable pub body_walked : {V : Type 0} → Result ℕ Refusal → (ℕ → Header → V → List ℕ) → (Drift → Header → Heard V)
    → List ℕ → List ℕ
body_walked (Ok n) row judged b = joined (row_walked row judged b) 0 n
body_walked (Err r) row judged b = refused_row r
