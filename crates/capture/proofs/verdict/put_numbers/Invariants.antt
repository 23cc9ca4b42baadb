-- `capture::verdict::put_numbers` meets its contract: the loop's invariant: the walk is ahead of record i, and the codes of the records
-- before it fill the output from the front. Assumes nothing.
use mathlib.Core.Path.{◌≡◌}
use mathlib.Core.List.{◌++◌}
use Prim.Native.Nat.{◌+◌}
use lib.ListN.{drop}
use Rattle.octets.specs.Lists.{tabulate}
use Rattle.records.specs.Near.{judged}
use Rattle.records.specs.Verdict.{record_number}
use Rattle.reading.specs.Reading.{asked_by}
use Rattle.capture.proofs.Walks.{Ahead}
use Rattle.capture.proofs.verdict.put_numbers.Given as goal

abbrev pub invariant-loop-i : goal.invariant-loop-i
invariant-loop-i l =
    let r = l.reader in
    Ahead (judged r.near r.settings.now) l.block l.walk l.i
    × (l.output ≡ tabulate 0 l.i (λ j. record_number (asked_by r.near r.settings.now l.block (j + 1))) ++ drop l.i l.initial.output)
