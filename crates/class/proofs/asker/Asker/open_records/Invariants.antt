-- `class::asker::Asker::open_records` meets its contract: the loop's invariant: the walk is ahead of the next record, the records before it
-- are opened, the rest of the output is the block's, and the totals are theirs. Assumes nothing.
use Rattle.std.specs.Prelude.{Ok}
use mathlib.Core.Path.{◌≡◌}
use mathlib.Core.Bool.{Bool}
use mathlib.Core.List.{List}
use Prim.Native.Nat.{ℕ}
use Rattle.envelope.specs.ControlMask.{count_enciphered}
use Rattle.envelope.specs.ControlMask as Mask
use Rattle.directory.specs.Directory.{directory_of}
use Rattle.directory.proofs.Records.{good}
use Rattle.reading.proofs.Loops.{Plan, Suits, Opened}
use Rattle.capture.specs.Walk.{drift_walked}
use Rattle.rights.specs.declared.settings.Caller.{Caller}
use Rattle.class.specs.Reading.{judged_in}
use Rattle.class.specs.Opening.{record_for, adds_for}
use Rattle.class.proofs.Turns.{record_size}
use Rattle.class.proofs.asker.Asker.open_records.Given as goal

abbrev pub plan : Bool → Caller → List ℕ → List ℕ → List ℕ → Plan
plan near c s q b =
    record {
      written = record_for near c s q b;
      count = adds_for near c s q b count_enciphered;
      runs = adds_for near c s q b Mask.runs;
      drift = drift_walked (judged_in near c s q) b;
    }

pub suits : (near : Bool) (c : Caller) (s q b : List ℕ) (n : ℕ) → directory_of b ≡ Ok n → Suits (plan near c s q b) b n
suits near c s q b n g = record { records = good b n g; sizes = record_size near c s q b n (good b n g) }

abbrev pub invariant-loop : goal.invariant-loop
invariant-loop l =
    let a = l.self in
    Opened (plan a.near a.caller a.sets.now a.rights.now l.block) l.block l.n l.output l.work.count l.work.runs l.walk.from l.walk.drift l.counter
