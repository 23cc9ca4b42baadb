-- `directory::check` meets its contract: the loop's invariant: the next record is due at `due`, and the
-- verdict on the whole directory is that on the pairs from i on. Assumes nothing.
use mathlib.Core.Path.{◌≡◌}
use Prim.Native.Nat.{◌-◌}
use Rattle.records.specs.Block.{due_of}
use Rattle.directory.specs.Directory.{pairs_from, directory_of}
use Rattle.directory.proofs.check.Given as goal

abbrev pub invariant-loop-i : goal.invariant-loop-i
invariant-loop-i l = (l.due ≡ due_of l.block l.i) × (directory_of l.block ≡ pairs_from l.block l.i (l.n - l.i))
