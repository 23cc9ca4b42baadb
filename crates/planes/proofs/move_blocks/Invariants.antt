-- `planes::move_blocks` meets its contract: the EQs before `from` are moved, and in the end all are. Assumes nothing.
use Rattle.std.proofs.Common.{not, eqb, min}
use Rattle.octets.specs.Eqs.{eq_octets}
use Rattle.planes.specs.Duties.{Moved}
use Rattle.planes.specs.Places.{target}
use Rattle.planes.specs.Planes.{moved}
use Rattle.planes.proofs.move_blocks.Given as goal

abbrev pub invariant-loop-from : goal.invariant-loop-from
invariant-loop-from g l =
    let back = not (eqb g.row.BACK 0) in
    Moved (moved back l.payload) l.initial.output l.output (target back l.n) 0 eq_octets 0 (min l.from l.n)
