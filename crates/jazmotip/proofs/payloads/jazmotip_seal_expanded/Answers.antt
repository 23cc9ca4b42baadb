-- A flag above 1 is denied, 0 and 1 are sealing's own.
use Rattle.jazmotip.proofs.Flags.{flag_sealed}
use Rattle.jazmotip.proofs.payloads.jazmotip_seal_expanded.Goals as goal

pub returns : goal.returns
returns c = rw c.numbered-2.ensures (flag_sealed _ _ _ _ _ _ _ c.if-encenabled-gt1.false c.seal_expanded-answer.ensures)
