-- A call that writes into an output that is lent to it. Assumes nothing.
use Rattle.std.specs.Prelude.{List, ℕ}

-- what a call answers, beside what its output then holds
pub record WithOutput (R : Type 0) : Type 0 where
  pub answer : R
  pub output : List ℕ

abbrev pub with_output : {R : Type 0} → R → List ℕ → WithOutput R
with_output r out = record { answer = r; output = out }
