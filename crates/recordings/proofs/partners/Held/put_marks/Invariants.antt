-- `recordings::partners::Held::put_marks` meets its contract. The loop's invariant: the output has the entries of the records before i, and
-- behind them stays as it was. Assumes nothing.
use mathlib.Core.Path.{◌≡◌}
use mathlib.Core.List.{◌++◌}
use lib.ListN.{drop}
use Rattle.octets.specs.Lists.{tabulate}
use Rattle.recordings.specs.Comparing.{mark_of}
use Rattle.recordings.proofs.partners.Held.put_marks.Given as goal

abbrev pub invariant-loop-i : goal.invariant-loop-i
invariant-loop-i l = l.output ≡ tabulate 0 l.i (mark_of l.self.block.now l.self.other.now) ++ drop l.i l.initial.output
