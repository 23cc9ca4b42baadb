-- `planes::move_blocks` meets its contract: the EQs before `from` are moved, and in the end all are. Assumes nothing.
use Rattle.std.proofs.Common.{◌≡◌, min, arith}
use Rattle.planes.proofs.Moves.{more_eqs, all_moved}
use Rattle.planes.proofs.move_blocks.Goals as goal

pub returns : goal.returns
returns g c =
    let end : min c.loop-from.from c.args.n ≡ c.args.n = omega arith in
    all_moved _ _ _ _ _ c.requires (rw end at c.loop-from.invariant)

pub returns-2 : goal.returns-2
returns-2 g c =
    let start : min c.loop-from.from c.args.n ≡ c.loop-from.from = omega arith in
    let end : c.min-to.result ≡ c.args.n = omega arith in
    all_moved _ _ _ _ _ c.requires (more_eqs (rw start at c.loop-from.invariant) (rw end at c.move_block.ensures))
