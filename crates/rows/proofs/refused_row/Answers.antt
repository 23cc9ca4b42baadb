-- `rows::refused_row` meets its contract: the text of the refusal, its pair and a line feed, on an empty line. Assumes nothing.
use Rattle.std.proofs.Common.{arith}
use Rattle.rows.specs.Text.{refused_row}
use Rattle.rows.proofs.Lines.{both_grown, held, refused_few, pair_few}
use Rattle.rows.proofs.refused_row.Goals as goal

pub returns : goal.returns
unfolding refused_row
returns c =
    held c.new-line.ensures (both_grown (both_grown c.put_refused.ensures c.put_pair.ensures) c.push.ensures)
    (omega (arith, refused_few c.args.refusal, pair_few c.args.refusal))
