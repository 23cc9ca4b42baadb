-- `recordings::partners::Held::put_lines` meets its contract. The loop's invariant: the rows of the records before i stand behind the first
-- `at` octets. Assumes nothing.
use Rattle.rows.specs.Text.{row_octets}
use Rattle.directory.proofs.Filling.{Rows}
use Rattle.recordings.specs.Listing.{first_row}
use Rattle.recordings.proofs.partners.Held.put_lines.Given as goal

abbrev pub invariant-loop-i : goal.invariant-loop-i
invariant-loop-i l = Rows (first_row l.self.block.now l.self.other.now) row_octets l.initial.text l.at l.text l.end l.i
