-- `rows::entries::total_row` meets its contract: the word, then the number, on an empty line. Assumes nothing.
use Rattle.std.proofs.Common.{arith}
use Rattle.rows.specs.Entries.{total_row}
use Rattle.rows.proofs.Lines.{both_grown, held, decimal_few}
use Rattle.rows.proofs.entries.total_row.Goals as goal

pub returns : goal.returns
unfolding total_row
returns c =
    held c.new-line.ensures (both_grown (both_grown c.push_all.ensures c.put_decimal.ensures) c.push.ensures) (omega (arith, decimal_few c.args.total))
