-- `planes::move_octet` meets its contract, either way. Assumes nothing.
use Rattle.std.proofs.Common.{arith}
use Rattle.planes.proofs.Moves.{rearranged_one, restored_one}
use Rattle.planes.proofs.move_octet.Goals as goal

pub returns-then-this-ne0 : goal.returns-then-this-ne0
returns-then-this-ne0 g c = restored_one _ _ _ _ _ c.requires.sized c.requires.octet c.requires.eq _ (grind arith)

pub returns-else-this-ne0 : goal.returns-else-this-ne0
returns-else-this-ne0 g c = rearranged_one _ _ _ _ _ c.requires.sized c.requires.octet c.requires.eq _ (rw c.if-this-ne0.false)
