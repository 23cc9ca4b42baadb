-- `store::move_block` meets its contract: a refusal, or the block copied and its payloads moved. Assumes nothing.
use Rattle.std.proofs.Common.{sym, ◌∙◌}
use Rattle.octets.proofs.Lists.{copied_whole}
use Rattle.store.proofs.Directories.{storable}
use Rattle.store.proofs.move_block.Goals as goal

pub move_payloads-requires : goal.move_payloads-requires
move_payloads-requires g c =
    let fits = storable _ _ (sym c.store_verdict.ensures ∙ c.in_ok-store_verdict.was) in
    record { block_value = fits.good; output_value = c.copy.ensures ∙ copied_whole c.args.block.now c.args.output.now fits.size }
