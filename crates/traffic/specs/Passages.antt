-- What an end's decision makes of a payload (01, Counter block and mask; Keys). Assumes nothing.
use Rattle.std.specs.Prelude.{Bool, not, List, ℕ, length, Ok, Err}
use Rattle.octets.specs.Output.{WithOutput, with_output}
use Rattle.refusal.specs.Order.{and_then}
use Rattle.envelope.specs.Acceptance.{lengths_fit, seal_verdict}
use Rattle.envelope.specs.declared.Nonce.{Nonce}
use Rattle.cipher.specs.KeyExpansion.{key_expansion}
use Rattle.sealing.specs.Seal.{carried, count_carried, runs_carried}
use Rattle.ends.specs.declared.Onu.{Onu}
use Rattle.protocol.specs.Replies.{Reply}
use Rattle.unit.specs.declared.Decided.{Decided}
use Rattle.protocol.specs.Headers.{choice_enciphered}
use Rattle.protocol.specs.declared.Passage.{Passage}
use Rattle.envelope.specs.declared.Work.{Work}
use Rattle.refusal.specs.Verdict.{Verdict}

-- 14: the lengths of payload and output, ahead of what the header says (D34)
unfoldable pub misfit : List ℕ → List ℕ → Bool
misfit p out = not (lengths_fit (length p) (length out))

abbrev pub passage_nonce : ℕ → Passage → Nonce
passage_nonce channel q = record { channel = channel; mac = q.mac; clock = q.clock }

-- the payload, sealed or opened, or unchanged where it is clear
unfoldable pub passed : ℕ → Passage → List ℕ → List ℕ
passed channel q p = carried (choice_enciphered q.choice) (key_expansion q.key) (passage_nonce channel q) p

-- the octets enciphered
unfoldable pub passed_count : Passage → List ℕ → ℕ
passed_count q p = count_carried (choice_enciphered q.choice) p

-- the runs of the cipher (02, C-17)
unfoldable pub passed_runs : Passage → List ℕ → ℕ
passed_runs q p = runs_carried (choice_enciphered q.choice) p

abbrev pub passed_work : Passage → List ℕ → Work
passed_work q p = record { count = passed_count q p; runs = passed_runs q p }

-- what an ONU's send or receipt decides, but for its octets
unfoldable pub onu_decided : {H : Type 0} → Reply Onu H → Decided Onu H
onu_decided r = record { verdict = r.verdict; after = r.end; handed = r.handed }

-- a refusal leaves the output
unfoldable pub output_after : Verdict → List ℕ → List ℕ → List ℕ
output_after (Ok tt) next lent = next
output_after (Err r) next lent = lent

-- what a verdict leaves of a payload that would pass: refused, nothing is counted and the output stays
unfoldable pub carried_after : Verdict → ℕ → Passage → List ℕ → List ℕ → WithOutput Work
carried_after (Ok tt) channel q p out = with_output (passed_work q p) (passed channel q p)
carried_after (Err r) channel q p out = with_output (record { count = 0; runs = 0 }) out

-- the same, what sealing refuses being refused after the verdict
abbrev pub carried_fitting : Verdict → ℕ → Passage → List ℕ → List ℕ → WithOutput Work
carried_fitting v channel q p out = carried_after (and_then v (seal_verdict (length p) (length out) (passage_nonce channel q))) channel q p out
