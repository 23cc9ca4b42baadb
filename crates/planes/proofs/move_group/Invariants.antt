-- `planes::move_group` meets its contract: the three octets of the EQs before e are moved. Assumes nothing.
use Rattle.std.proofs.Common.{◌+◌, not, eqb}
use Rattle.planes.specs.Duties.{Moved}
use Rattle.planes.specs.Places.{target}
use Rattle.planes.specs.Planes.{moved}
use Rattle.planes.proofs.move_group.Given as goal

abbrev pub invariant-loop-e : goal.invariant-loop-e
invariant-loop-e g l =
    let back = not (eqb g.row.BACK 0) in
    Moved (moved back l.payload) l.initial.output l.output (target back l.block.n) l.c (l.c + 3) l.block.from l.e
