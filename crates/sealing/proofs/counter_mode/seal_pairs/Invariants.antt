-- `sealing::counter_mode::seal_pairs` meets its contract: the blocks below the first of the two are sealed, and between them none needs a run. Assumes nothing.
use Prim.Native.Nat.{◌+◌, ◌-◌, ◌%◌, ◌≤◌, ◌<◌}
use Rattle.envelope.specs.ControlMask.{max_blocks, blocks_of, needs_run}
use Rattle.envelope.specs.declared.Nonce.{Nonce}
use Rattle.sealing.proofs.Counts.{Below}
use Rattle.cipher.specs.Cipher.{Nr}
use Rattle.cipher.specs.FirstRound.{Kept}
use Rattle.cipher.specs.RowWords.{PairKeys}
use Rattle.sealing.specs.Steps.{NextRun}
use lib.ListN.{length}
use mathlib.Core.Bool.{true}
use mathlib.Core.Path.{◌≡◌}
use Rattle.sealing.proofs.counter_mode.seal_pairs.Given as goal

abbrev pub invariant-loop-second : goal.invariant-loop-second
invariant-loop-second l =
    (l.blocks ≡ blocks_of (length l.initial.payload)) × (length l.initial.payload % 9 ≡ 0) × (l.blocks ≤ max_blocks)
    × (length l.payload ≡ length l.initial.payload)
    × PairKeys l.w Nr l.keys
    × (l.first ≤ l.blocks) × (l.first < l.blocks → needs_run l.initial.payload l.first ≡ true)
    × NextRun l.initial.payload l.blocks (l.first + 1) l.second
    × ((n : Nonce) → Kept l.w n l.kept → Below l.w n l.initial.payload l.first l.payload l.count l.runs)

abbrev pub decreases-loop-second : goal.decreases-loop-second
decreases-loop-second l = l.blocks - l.first
