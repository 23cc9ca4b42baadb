-- `recordings::partners::Held::count_alone` meets its contract. The loop's invariant: the sum over the records before i. Assumes nothing.
use mathlib.Core.Path.{◌≡◌}
use Prim.Native.Nat.{◌≤◌}
use Rattle.octets.specs.Lists.{sum}
use Rattle.recordings.specs.Comparing.{alone_at}
use Rattle.recordings.proofs.partners.Held.count_alone.Given as goal

abbrev pub invariant-loop-i : goal.invariant-loop-i
invariant-loop-i l = (l.total ≤ l.i) × (l.total ≡ sum 0 l.i (alone_at l.llid l.self.block.now l.self.other.now))
