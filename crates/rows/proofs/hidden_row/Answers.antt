-- `rows::hidden_row` meets its contract: the number and a dash, on an empty line. Assumes nothing.
use Rattle.std.proofs.Common.{arith}
use Rattle.rows.specs.Text.{hidden_row}
use Rattle.rows.proofs.Lines.{both_grown, held, decimal_few}
use Rattle.rows.proofs.hidden_row.Goals as goal

pub returns : goal.returns
unfolding hidden_row
returns c =
    held c.new-line.ensures (both_grown c.put_decimal.ensures c.push_all.ensures) (omega (arith, decimal_few c.args.k))
