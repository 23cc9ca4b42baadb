-- `headend::registering::place_of` meets its contract: the place where the unit is found, or one past the table. Assumes nothing.
use mathlib.Core.Path.{sym, ◌∙◌}
use native.Mathlib.Omega.{arith}
use Rattle.ends.specs.Table.{find}
use Rattle.ends.proofs.Table.{find_at}
use Rattle.headend.proofs.registering.place_of.Goals as goal

pub overflow_cast-result : goal.overflow_cast-result
unfolding find
overflow_cast-result c =
    let a = c.args in
    omega (arith, (find_at a.olt a.llid _ (sym c.find-found.ensures.value ∙ c.in-Some.is)).used)
