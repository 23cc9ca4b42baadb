-- The answer of the call that seals or opens a payload, in numbers (01, When the reader says no). Assumes nothing.
use Rattle.std.specs.Prelude.{ℕ, Result, Ok, Err}
use Rattle.refusal.specs.Number.{number_of}
use Rattle.refusal.specs.declared.Refusal.{Refusal}
use Rattle.envelope.specs.declared.Work.{Work}

-- the code of an answer, its count, and its runs of the cipher
-- what sealing took, or its refusal
abbrev pub SealAnswer : Type 0
SealAnswer = Result Work Refusal

abbrev pub seal_number : SealAnswer → ℕ
seal_number (Ok w) = 0
seal_number (Err r) = number_of r

abbrev pub seal_count : SealAnswer → ℕ
seal_count (Ok w) = w.count
seal_count (Err r) = 0

abbrev pub seal_runs : SealAnswer → ℕ
seal_runs (Ok w) = w.runs
seal_runs (Err r) = 0
