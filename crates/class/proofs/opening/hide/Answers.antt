-- `class::opening::hide` meets its contract: the record is cleared, and its EQs are written again. Assumes nothing.
use mathlib.Core.Path.{◌∙◌}
use Prim.Native.Nat.{◌+◌, ◌-◌}
use native.Mathlib.Omega.{arith}
use Rattle.class.proofs.Placing.{hidden_in_place}
use Rattle.class.proofs.opening.hide.Goals as goal

pub returns : goal.returns
returns c =
    let a = c.args in
    let size = c.record_octets.ensures in
    c.copy_at.ensures
    ∙ hidden_in_place a.output.now _ _ a.from (a.from + c.record_octets.result - a.from) a.eqs c.requires.0
    (omega (arith, size)) c.clear.ensures
    (rw c.octets48-e.ensures)
