-- `rows::entries::entry_row` meets its contract: head and tail, on an empty line. Assumes nothing.
use Rattle.std.proofs.Common.{arith}
use Rattle.rows.specs.Entries.{entry_row}
use Rattle.rows.proofs.Lines.{both_grown, held}
use Rattle.rows.proofs.EntryTexts.{head_text_few, tail_text_few}
use Rattle.rows.proofs.entries.entry_row.Goals as goal

pub returns : goal.returns
unfolding entry_row
returns c =
    let a = c.args in
    held c.new-line.ensures (both_grown c.put_head.ensures c.put_tail.ensures)
    (omega (arith, head_text_few a.first a.second a.h (omega arith) (omega arith), tail_text_few a.h.clock a.mark))
