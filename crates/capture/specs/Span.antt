-- The record that starts at a place of a capture block b, opened by itself into an output of the same length. Assumes nothing.
use Rattle.std.specs.Prelude.{Bool, List, ℕ, ◌+◌, ◌*◌, leb, eqb, length, set}
use Rattle.octets.specs.Choice.{both, pick}
use Rattle.octets.specs.Eqs.{eq_octets}
use Rattle.octets.specs.Lists.{part, replaced}
use Rattle.octets.specs.Output.{WithOutput, with_output}
use Rattle.envelope.specs.Acceptance.{nonce_fits}
use Rattle.envelope.specs.ControlMask.{count_enciphered, runs}
use Rattle.envelope.specs.declared.Nonce.{Nonce}
use Rattle.sealing.specs.Payload.{sealed}
use Rattle.records.specs.Block.{most_octets}
use Rattle.records.specs.Record.{header_octets, flags_at, record_octets}
use Rattle.envelope.specs.declared.Work.{Work}

-- a record that ends at `to` lies in a block and in an output of its length, and its counter blocks are of their range
unfoldable pub span_fits : Nonce → ℕ → ℕ → ℕ → Bool
span_fits nonce size room to = both (both (leb to size) (both (eqb room size) (leb size most_octets))) (nonce_fits nonce)

-- the payload of a record of so many EQs from `from` on
abbrev pub span_payload : List ℕ → ℕ → ℕ → List ℕ
span_payload b from eqs = part b (from + header_octets) (eq_octets * eqs)

-- that record under the expanded key w: its payload is opened, and its flags are these; one that does not lie there is left as it is
unfoldable pub span_opening : List ℕ → Nonce → ℕ → List ℕ → List ℕ → ℕ → ℕ → WithOutput Work
span_opening w nonce flags b out from eqs =
    pick (span_fits nonce (length b) (length out) (from + record_octets eqs))
    (with_output (record { count = count_enciphered (span_payload b from eqs); runs = runs (span_payload b from eqs) })
    (replaced (set out (from + flags_at) flags) (from + header_octets) (sealed w nonce (span_payload b from eqs))))
    (with_output (record { count = 0; runs = 0 }) out)
