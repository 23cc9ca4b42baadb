-- `capture::opening::open_records` meets its contract: the loop's invariant: the walk is ahead of the next record, the records before it
-- are opened, the rest of the output is the block's, and the totals are theirs. Assumes nothing.
use Rattle.std.specs.Prelude.{Ok}
use mathlib.Core.Path.{◌≡◌}
use mathlib.Core.Bool.{Bool}
use mathlib.Core.List.{List}
use Prim.Native.Nat.{ℕ}
use Rattle.envelope.specs.ControlMask.{count_enciphered}
use Rattle.envelope.specs.ControlMask as Mask
use Rattle.records.specs.Near.{judged}
use Rattle.directory.specs.Directory.{directory_of}
use Rattle.directory.proofs.Records.{good}
use Rattle.reading.specs.Reading.{record_by, adds_by}
use Rattle.reading.proofs.Loops.{Plan, Suits, Opened}
use Rattle.reading.proofs.Readings.{record_size}
use Rattle.capture.specs.Walk.{drift_walked}
use Rattle.capture.proofs.opening.open_records.Given as goal

abbrev pub plan : Bool → List ℕ → List ℕ → Plan
plan near s b =
    record {
      written = record_by near s b;
      count = adds_by near count_enciphered s b;
      runs = adds_by near Mask.runs s b;
      drift = drift_walked (judged near s) b;
    }

pub suits : (near : Bool) (s b : List ℕ) (n : ℕ) → directory_of b ≡ Ok n → Suits (plan near s b) b n
suits near s b n g = record { records = good b n g; sizes = record_size near s b n (good b n g) }

abbrev pub invariant-loop : goal.invariant-loop
invariant-loop l =
    let r = l.reader in
    Opened (plan r.near r.settings.now l.block) l.block l.n l.output l.work.count l.work.runs l.walk.from l.walk.drift l.counter
