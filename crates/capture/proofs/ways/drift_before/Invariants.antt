-- `capture::ways::drift_before` meets its contract: the loop's invariant: the corrections are those before record j. Assumes nothing.
use mathlib.Core.Path.{◌≡◌}
use Rattle.records.specs.Following.{drift_at}
use Rattle.capture.proofs.ways.drift_before.Given as goal

abbrev pub invariant-loop-j : goal.invariant-loop-j
invariant-loop-j l = l.drift ≡ drift_at l.settings l.block l.j
