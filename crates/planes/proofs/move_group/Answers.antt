-- `planes::move_group` meets its contract: the three octets of the EQs before e are moved. Assumes nothing.
use Rattle.planes.proofs.Moves.{turn}
use Rattle.planes.proofs.move_group.Goals as goal

pub loop-e-preserved : goal.loop-e-preserved
loop-e-preserved g c = turn c.loop-e.invariant c.move_octet.ensures c.move_octet-in-loop-e.ensures c.move_octet-in-loop-e-2.ensures
