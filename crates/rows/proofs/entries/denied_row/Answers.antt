-- `rows::entries::denied_row` meets its contract: the text of the refusal, its pair and block, on an empty line. Assumes nothing.
use Rattle.std.proofs.Common.{arith}
use Rattle.rows.specs.Entries.{denied_row}
use Rattle.rows.proofs.Lines.{both_grown, held, refused_few, pair_few}
use Rattle.rows.proofs.EntryTexts.{block_few}
use Rattle.rows.proofs.entries.denied_row.Goals as goal

pub returns : goal.returns
unfolding denied_row
returns c =
    let a = c.args in
    held c.new-line.ensures
    (both_grown (both_grown (both_grown c.put_refused.ensures c.put_pair.ensures) c.put_block.ensures) c.push.ensures)
    (omega (arith, refused_few a.refusal, pair_few a.refusal, block_few a.block))
