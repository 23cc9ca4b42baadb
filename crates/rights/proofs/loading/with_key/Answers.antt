-- `rights::loading::with_key` meets its contract: the bit is 0, so the sum has it. Assumes nothing.
use mathlib.Core.Path.{sym, ◌∙◌}
use native.Mathlib.Omega.{arith}
use borrow.Author.Rules.{rules}
use Rattle.octets.proofs.Choice.{pick_false}
use Rattle.rights.proofs.Loads.{absent_bit, raised, raised_below}
use Rattle.rights.specs.Loading.{with_key}
use Rattle.rights.proofs.loading.with_key.Goals as goal

pub overflow_add-result : goal.overflow_add-result
overflow_add-result c =
    let absent = absent_bit _ _ c.bit.ensures c.if-bit-eq1.false in
    record { fits = omega (arith, raised_below c.args.present _ (search rules) c.requires absent) }

pub overflow_add-result-2 : goal.overflow_add-result-2
overflow_add-result-2 c =
    let absent = absent_bit _ _ c.bit.ensures c.if-bit-eq1.false in
    record { fits = omega (arith, raised_below c.args.present _ (search rules) c.requires absent) }

pub returns : goal.returns
unfolding with_key
returns c =
    let a = c.args in
    raised a.present a.index c.requires ∙ sym (pick_false _ _ (absent_bit _ _ c.bit.ensures c.if-bit-eq1.false))
