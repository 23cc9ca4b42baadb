-- The call that seals or opens a payload (01, Counter block and mask, When the reader says no: 14, 1). Assumes nothing.
use Rattle.std.specs.Prelude.{Bool, List, ℕ, length, Ok, Err}
use Rattle.octets.specs.Choice.{pick}
use Rattle.octets.specs.Output.{WithOutput}
use Rattle.envelope.specs.Acceptance.{seal_verdict}
use Rattle.envelope.specs.ControlMask.{count_enciphered, runs}
use Rattle.envelope.specs.declared.Nonce.{Nonce}
use Rattle.envelope.specs.Answer.{SealAnswer}
use Rattle.sealing.specs.Payload.{sealed}
use Rattle.refusal.specs.Verdict.{Verdict}

-- the payload as it leaves: a clear envelope's passes unchanged (D65)
unfoldable pub carried : Bool → List ℕ → Nonce → List ℕ → List ℕ
carried enciphered w n p = pick enciphered (sealed w n p) p

unfoldable pub count_carried : Bool → List ℕ → ℕ
count_carried enciphered p = pick enciphered (count_enciphered p) 0

-- the runs of the cipher (02, C-17): a clear envelope takes none
unfoldable pub runs_carried : Bool → List ℕ → ℕ
runs_carried enciphered p = pick enciphered (runs p) 0

unfoldable pub sealing_after : Verdict → Bool → List ℕ → Nonce → List ℕ → List ℕ → WithOutput SealAnswer
sealing_after (Ok tt) enciphered w n p out =
    record { answer = Ok (record { count = count_carried enciphered p; runs = runs_carried enciphered p }); output = carried enciphered w n p }
sealing_after (Err r) enciphered w n p out = record { answer = Err r; output = out }

-- w is the expanded key, p the input, out the output as it was lent
unfoldable pub sealing : Bool → List ℕ → Nonce → List ℕ → List ℕ → WithOutput SealAnswer
sealing enciphered w n p out = sealing_after (seal_verdict (length p) (length out) n) enciphered w n p out
