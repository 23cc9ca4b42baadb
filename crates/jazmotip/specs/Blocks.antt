-- What the calls on a capture block decide, in numbers (01, Capture block): a refusal code, and the pair that it names, 0 where
-- there is none (02, C-11). Assumes nothing.
use Rattle.std.specs.Prelude.{ℕ, Result, Ok, Err}
use Rattle.octets.specs.Output.{WithOutput, with_output}
use Rattle.refusal.specs.Number.{number_of, pair_number}
use Rattle.directory.specs.declared.payload.Bounds.{Bounds}
use Rattle.records.specs.Verdict.{record_number, record_pair, RecordVerdict}
use Rattle.directory.specs.Payload.{bounds_number, bounds_pair, bounds_offset, bounds_length}
use Rattle.reading.specs.Opening.{OpenAnswer, open_number, open_pair, open_count, open_runs, open_expansions}
use Rattle.reading.specs.declared.NearAnswer.{NearAnswer}
use Rattle.reading.specs.declared.NearVerdicts.{NearVerdicts}
use Rattle.jazmotip.specs.declared.blocks.BlockDirectory.{BlockDirectory}
use Rattle.jazmotip.specs.declared.blocks.BlockVerdict.{BlockVerdict}
use Rattle.jazmotip.specs.declared.blocks.BlockPart.{BlockPart}
use Rattle.jazmotip.specs.declared.blocks.BlockAnswer.{BlockAnswer}
use Rattle.jazmotip.specs.declared.near_blocks.BlockNearAnswer.{BlockNearAnswer}
use Rattle.jazmotip.specs.declared.near_blocks.BlockNearVerdicts.{BlockNearVerdicts}
use Rattle.records.specs.declared.header.Access.TheVariants.{Clear, Sealed}
use Rattle.refusal.specs.declared.Refusal.{Refusal}

abbrev pub block_directory : Result ℕ Refusal → BlockDirectory
block_directory (Ok n) = record { number = 0; pair = 0; records = n }
block_directory (Err r) = record { number = number_of r; pair = pair_number r; records = 0 }

abbrev pub judged_in_numbers : WithOutput (Result ℕ Refusal) → WithOutput BlockDirectory
judged_in_numbers o = with_output (block_directory o.answer) o.output

-- EncEnabled 1 with the key's index and the clock where a record is to be opened
abbrev pub block_verdict : RecordVerdict → BlockVerdict
block_verdict (Ok Clear) = record { number = record_number (Ok Clear); pair = record_pair (Ok Clear); encenabled = 0; enckey = 0; clock = 0 }
block_verdict (Ok (Sealed i t)) =
    record { number = record_number (Ok (Sealed i t)); pair = record_pair (Ok (Sealed i t)); encenabled = 1; enckey = i; clock = t }
block_verdict (Err r) = record { number = record_number (Err r); pair = record_pair (Err r); encenabled = 0; enckey = 0; clock = 0 }

abbrev pub block_part : Result Bounds Refusal → BlockPart
block_part p = record { number = bounds_number p; pair = bounds_pair p; offset = bounds_offset p; length = bounds_length p }

abbrev pub block_answer : OpenAnswer → BlockAnswer
block_answer a = record { number = open_number a; expansions = open_expansions a; pair = open_pair a; count = open_count a; runs = open_runs a }

abbrev pub opened_in_numbers : WithOutput OpenAnswer → WithOutput BlockAnswer
opened_in_numbers o = with_output (block_answer o.answer) o.output

-- in the near way (02, C-18), with the smallest and the largest correction
abbrev pub nearly_opened : WithOutput NearAnswer → WithOutput BlockNearAnswer
nearly_opened o =
    with_output (record { answer = block_answer o.answer.opened; smallest = o.answer.smallest; largest = o.answer.largest }) o.output

abbrev pub nearly_judged : WithOutput NearVerdicts → WithOutput BlockNearVerdicts
nearly_judged o =
    with_output (record { directory = block_directory o.answer.directory; smallest = o.answer.smallest; largest = o.answer.largest }) o.output
