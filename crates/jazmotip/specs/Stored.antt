-- What the calls for the store decide, in numbers (02, C-12). Assumes nothing.
use Rattle.std.specs.Prelude.{ℕ}
use Rattle.octets.specs.Output.{WithOutput, with_output}
use Rattle.refusal.specs.Number.{verdict_number, verdict_pair}
use Rattle.jazmotip.specs.declared.stored.StoreAnswer.{StoreAnswer}
use Rattle.refusal.specs.Verdict.{Verdict}

-- of a payload: 0, or 14
abbrev pub payload_stored : WithOutput Verdict → WithOutput ℕ
payload_stored w = with_output (verdict_number w.answer) w.output

-- of a block: with the pair that a refusal names, else 0
abbrev pub store_answer : Verdict → StoreAnswer
store_answer v = record { number = verdict_number v; pair = verdict_pair v }

abbrev pub block_stored : WithOutput Verdict → WithOutput StoreAnswer
block_stored w = with_output (store_answer w.answer) w.output
