-- `recordings::partners::Held::put_alones` meets its contract. The loop's invariant: the entries of the records before j that are alone
-- stand behind the first `at` octets. Assumes nothing.
use mathlib.Core.Path.{◌≡◌}
use mathlib.Core.List.{◌++◌}
use Prim.Native.Nat.{◌+◌, ◌≤◌}
use lib.ListN.{length, take, drop}
use Rattle.recordings.specs.Comparing.{alone_marks}
use Rattle.recordings.proofs.partners.Held.put_alones.Given as goal

abbrev pub invariant-loop-j : goal.invariant-loop-j
invariant-loop-j l =
    let marks = alone_marks l.self.block.now l.self.other.now l.j in record {
      size : length l.output ≡ length l.initial.output;
      within : l.end ≤ l.at + l.j;
      end : l.end ≡ l.at + length marks;
      front : take l.end l.output ≡ take l.at l.initial.output ++ marks;
      rest : drop l.end l.output ≡ drop l.end l.initial.output;
    }
