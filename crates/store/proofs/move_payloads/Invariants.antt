-- `store::move_payloads` meets its contract: the payloads of the records before i are moved, the rest of the output is the block's. Assumes nothing.
use Rattle.std.proofs.Common.{◌≡◌, ◌++◌, not, eqb, drop}
use Rattle.records.specs.Block.{due_of}
use Rattle.directory.proofs.Rebuilding.{up_to}
use Rattle.planes.specs.Planes.{moved}
use Rattle.store.proofs.Blocks.{changed}
use Rattle.store.proofs.move_payloads.Given as goal

abbrev pub invariant-loop-i : goal.invariant-loop-i
invariant-loop-i g l = l.output ≡ up_to (changed (moved (not (eqb g.row.BACK 0))) l.block) l.block l.i ++ drop (due_of l.block l.i) l.block
