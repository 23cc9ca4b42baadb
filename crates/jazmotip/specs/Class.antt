-- What the calls of a class decide, in numbers (02, C-19). Assumes nothing.
use Rattle.std.specs.Prelude.{ℕ}
use Rattle.octets.specs.Output.{WithOutput, with_output}
use Rattle.refusal.specs.Number.{verdict_number}
use Rattle.reading.specs.declared.NearAnswer.{NearAnswer}
use Rattle.jazmotip.specs.declared.blocks.BlockAnswer.{BlockAnswer}
use Rattle.jazmotip.specs.Blocks.{block_answer}
use Rattle.refusal.specs.Verdict.{Verdict}

-- a block opened in the usual way, which corrects no clock
abbrev pub opened_for : WithOutput NearAnswer → WithOutput BlockAnswer
opened_for o = with_output (block_answer o.answer.opened) o.output

-- a key loaded: 0, or the refusal code, and the sets
abbrev pub key_loaded : WithOutput Verdict → WithOutput ℕ
key_loaded o = with_output (verdict_number o.answer) o.output
