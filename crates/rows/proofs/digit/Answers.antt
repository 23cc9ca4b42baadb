-- `rows::digit` meets its contract. The loop's invariant: so many digits are gone from the number's end. Assumes nothing.
use Rattle.std.proofs.Common.{add-one, pow-suc}
use native.Mathlib.Nat.{div-div-eq-div-mul}
use Rattle.rows.proofs.digit.Goals as goal

pub loop-preserved : goal.loop-preserved
loop-preserved c = rw (c.loop.invariant, add-one, pow-suc) (div-div-eq-div-mul _ _ _)
