-- `rows::seen_row` meets its contract: its pieces in their order, on an empty line. Assumes nothing.
use Rattle.std.proofs.Common.{arith}
use Rattle.rows.specs.Text.{seen_row}
use Rattle.rows.proofs.Lines.{both_grown, held, decimal_few, head_few, middle_few}
use Rattle.rows.proofs.seen_row.Goals as goal

pub returns : goal.returns
unfolding seen_row
returns c =
    let a = c.args in
    held c.new-line.ensures (both_grown c.put_head.ensures (both_grown c.put_middle.ensures c.push_all.ensures))
    (omega (arith, head_few a.k a.h, middle_few a.h, decimal_few a.k, decimal_few a.h.eqs))
