-- `rows::put_line` meets its contract: the line's own octets are copied behind `at`, and end with the text where that has no room for
-- more. Assumes nothing.
use Rattle.std.proofs.Common.{arith}
use Rattle.rows.proofs.Texts.{line_ends}
use Rattle.rows.proofs.put_line.Goals as goal

pub returns : goal.returns
returns c = let s = c.saturating_add.ensures in line_ends _ _ _ _ _ c.part_of-piece.ensures c.copy_at.ensures _ (omega arith)
