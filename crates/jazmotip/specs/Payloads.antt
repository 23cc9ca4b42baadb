-- Sealing with EncEnabled as a number, and its answer in numbers (01, Counter block and mask; When the reader says no: 14, 1).
-- Assumes nothing.
use Rattle.std.specs.Prelude.{Err}
use Rattle.std.specs.Prelude.{true, false, List, ℕ, zero, suc, length}
use Rattle.octets.specs.Choice.{pick}
use Rattle.octets.specs.Output.{WithOutput, with_output}
use Rattle.refusal.specs.declared.Refusal.TheVariants.{OutOfRange, BadLength}
use Rattle.envelope.specs.Acceptance.{lengths_fit}
use Rattle.envelope.specs.Answer.{SealAnswer, seal_number, seal_count, seal_runs}
use Rattle.envelope.specs.declared.Nonce.{Nonce}
use Rattle.sealing.specs.Seal.{sealing}
use Rattle.jazmotip.specs.declared.payloads.PayloadAnswer.{PayloadAnswer}

-- a flag above 1 is a value outside its range: 14, then 1
unfoldable pub flag_denied : ℕ → ℕ → SealAnswer
flag_denied n m = Err (pick (lengths_fit n m) OutOfRange BadLength)

-- EncEnabled 0 and 1 are the clear and the enciphered envelope of `sealing`
unfoldable pub sealing_by : ℕ → List ℕ → Nonce → List ℕ → List ℕ → WithOutput SealAnswer
sealing_by zero w n p out = sealing false w n p out
sealing_by (suc zero) w n p out = sealing true w n p out
sealing_by (suc (suc more)) w n p out = with_output (flag_denied (length p) (length out)) out

-- in place: the payload is input and output
abbrev pub in_place_by : ℕ → List ℕ → Nonce → List ℕ → WithOutput SealAnswer
in_place_by f w n p = sealing_by f w n p p

abbrev pub payload_answer : SealAnswer → PayloadAnswer
payload_answer a = record { number = seal_number a; count = seal_count a; runs = seal_runs a }

abbrev pub in_numbers : WithOutput SealAnswer → WithOutput PayloadAnswer
in_numbers s = with_output (payload_answer s.answer) s.output
