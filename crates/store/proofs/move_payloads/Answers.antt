-- `store::move_payloads` meets its contract: the payloads of the records before i are moved, the rest of the output is the block's. Assumes nothing.
use Rattle.std.proofs.Common.{◌≡◌, not, eqb, ◌∙◌, arith}
use Rattle.planes.specs.Planes.{moved}
use Rattle.planes.proofs.Planes.{moved_length}
use Rattle.directory.proofs.Records.{good}
use Rattle.directory.proofs.Rebuilding.{none_rebuilt}
use Rattle.store.proofs.Blocks.{changed, sizes, one_done, all_done}
use Rattle.store.proofs.move_payloads.Goals as goal

pub loop-i-init : goal.loop-i-init
loop-i-init g c =
    let back = not (eqb g.row.BACK 0) in
    let b = c.args.block.now in
    let r = good b _ c.requires.block_value in
    c.requires.output_value ∙ none_rebuilt (changed (moved back) b) b _ r (sizes (moved back) (moved_length back) b _ r)

pub loop-i-preserved : goal.loop-i-preserved
loop-i-preserved g c =
    c.move_payload.ensures
    ∙ one_done _ (moved_length _) _ _ (good _ _ c.requires.block_value) _ _ (omega (arith, c.count-i-end.ensures)) c.loop-i.invariant

pub returns : goal.returns
returns g c =
    let end : c.loop-i.i ≡ c.count-i-end.result = omega arith in
    all_done _ (moved_length _) _ _ (good _ _ c.requires.block_value) _ (rw (end, c.count-i-end.ensures) at c.loop-i.invariant)
