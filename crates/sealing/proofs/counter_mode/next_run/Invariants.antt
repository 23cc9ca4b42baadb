-- `sealing::counter_mode::next_run` meets its contract: no block from i up to k needs a run. Assumes nothing.
use mathlib.Core.Path.{◌≡◌}
use mathlib.Core.Bool.{false}
use Prim.Native.Nat.{ℕ, ◌-◌, ◌≤◌, ◌<◌}
use Rattle.envelope.specs.ControlMask.{needs_run}
use Rattle.sealing.proofs.counter_mode.next_run.Given as goal

abbrev pub invariant-loop-k : goal.invariant-loop-k
invariant-loop-k l = (l.i ≤ l.k) × (l.i ≤ l.blocks → l.k ≤ l.blocks) × ((b : ℕ) → l.i ≤ b → b < l.k → needs_run l.payload b ≡ false)

abbrev pub decreases-loop-k : goal.decreases-loop-k
decreases-loop-k l = l.blocks - l.k
