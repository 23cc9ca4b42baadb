-- The parts are those of the definition's end.
use Rattle.std.proofs.Common.{ap}
use Rattle.jazmotip.proofs.at_olt.jazmotip_olt_acknowledge.Goals as goal

pub returns : goal.returns
returns c = rw (c.whole-head.ensures _ (ap (λ y. y.parts) c.acknowledge-done.ensures), c.acknowledge-done.ensures)
