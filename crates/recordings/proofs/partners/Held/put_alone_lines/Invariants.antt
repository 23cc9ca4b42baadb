-- `recordings::partners::Held::put_alone_lines` meets its contract. The loop's invariant: the rows of the records before j that are alone
-- stand behind the first `at` octets. Assumes nothing.
use Rattle.rows.specs.Text.{row_octets}
use Rattle.directory.proofs.Filling.{Rows}
use Rattle.recordings.specs.Listing.{alone_row}
use Rattle.recordings.proofs.partners.Held.put_alone_lines.Given as goal

abbrev pub invariant-loop-j : goal.invariant-loop-j
invariant-loop-j l = Rows (alone_row l.self.block.now l.self.other.now) row_octets l.initial.text l.at l.text l.end l.j
