-- `rows::row` meets its contract: its pieces in their order, on an empty line. Assumes nothing.
use Rattle.std.proofs.Common.{arith}
use Rattle.rows.specs.Text.{row_of, row_tail}
use Rattle.rows.proofs.Lines.{both_grown, held, decimal_few, head_few, middle_few, result_few}
use Rattle.rows.proofs.row.Goals as goal

pub returns : goal.returns
unfolding row_of row_tail
returns c =
    let a = c.args in
    held c.new-line.ensures (both_grown c.put_head.ensures (both_grown c.put_middle.ensures (both_grown c.put_result.ensures c.push.ensures)))
    (omega (arith, head_few a.k a.h, middle_few a.h, result_few a.verdict, decimal_few a.k, decimal_few a.h.eqs))
