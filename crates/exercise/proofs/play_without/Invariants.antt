-- `exercise::play_without` meets its contract. The loop's invariant: what is left of the script, played on, comes to the whole play. Assumes nothing.
use mathlib.Core.Path.{◌≡◌}
use Prim.Native.Nat.{◌-◌}
use Rattle.exercise.specs.Play.{played_from}
use Rattle.exercise.proofs.play_without.Given as goal

abbrev pub invariant-loop-i : goal.invariant-loop-i
invariant-loop-i l = played_from l.s l.lost 0 l.steps l.initial.p ≡ played_from l.s l.lost l.i (l.steps - l.i) l.p
