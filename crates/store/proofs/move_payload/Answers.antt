-- `store::move_payload` meets its contract: the part of the output has the payload's length, and comes back in its place. Assumes nothing.
use Rattle.std.proofs.Common.{rules}
use Rattle.planes.proofs.Calls.{wrote}
use Rattle.directory.proofs.Records.{good}
use Rattle.store.proofs.Moves.{in_output, part_accepts, part_back}
use Rattle.store.proofs.move_payload.Goals as goal

pub slice_bounds-move_octets-end : goal.slice_bounds-move_octets-end
slice_bounds-move_octets-end g c =
    let fits =
    in_output c.args.block.now c.args.output.now c.payload_at-payload.result.now _ c.args.i c.offset.result
    (good _ _ c.requires.block_value) c.requires.i_bound c.requires.output_len c.payload_at-payload.ensures c.offset.ensures in
    search rules

pub returns : goal.returns
returns g c =
    let records = good _ _ c.requires.block_value in
    let bound = c.requires.i_bound in
    let same = c.payload_at-payload.ensures in
    let place = c.offset.ensures in
    let accepts = part_accepts _ _ _ _ _ _ records bound c.requires.output_len same place in
    part_back _ _ _ _ _ _ records bound c.requires.output_len same place _ _ (wrote _ _ _ _ _ c.move_octets.ensures accepts)
