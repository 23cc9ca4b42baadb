-- The calls that rearrange and restore all payloads of a capture block b (02, C-12). Assumes nothing.
use Rattle.std.specs.Prelude.{Bool, not, List, ℕ, eqb, length}
use Rattle.octets.specs.Output.{WithOutput}
use Rattle.refusal.specs.declared.Refusal.TheVariants.{BadLength}
use Rattle.refusal.specs.Order.{refuse_if}
use Rattle.planes.specs.Planes.{moved}
use Rattle.planes.specs.Calls.{writing}
use Rattle.directory.specs.Directory.{verdict_on, directory_of}
use Rattle.store.specs.Blocks.{block_with, rearranged_block, restored_block}
use Rattle.refusal.specs.Verdict.{Verdict}

-- 14 for an output of another length, then 15, 18 and 19 for the directory; no settings are asked for (D91)
unfoldable pub store_verdict : List ℕ → ℕ → Verdict
store_verdict b output_octets = refuse_if (not (eqb output_octets (length b))) BadLength (verdict_on (directory_of b))

-- out is the output as it was lent
abbrev pub rearranging_block : List ℕ → List ℕ → WithOutput Verdict
rearranging_block b out = writing (store_verdict b (length out)) (rearranged_block b) out

abbrev pub restoring_block : List ℕ → List ℕ → WithOutput Verdict
restoring_block b out = writing (store_verdict b (length out)) (restored_block b) out

-- either call, the one that restores where `back` is true
abbrev pub moving_block : Bool → List ℕ → List ℕ → WithOutput Verdict
moving_block back b out = writing (store_verdict b (length out)) (block_with (moved back) b) out
