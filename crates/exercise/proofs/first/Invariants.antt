-- `exercise::first` meets its contract. The loop's invariant: no step that is passed matters. Assumes nothing.
use Rattle.std.proofs.Common.{◌≡◌, ◌+◌, ◌-◌}
use Rattle.exercise.specs.Losses.{first_from}
use Rattle.exercise.proofs.first.Given as goal

abbrev pub invariant-loop-k : goal.invariant-loop-k
invariant-loop-k l = first_from l.s 0 l.steps ≡ first_from l.s (l.k - 1) (l.steps + 1 - l.k)
