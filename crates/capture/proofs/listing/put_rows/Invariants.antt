-- `capture::listing::put_rows` meets its contract: the loop's invariant: the walk is ahead of record i, and the rows of the records
-- before it stand behind the first `at` octets. Assumes nothing.
use Rattle.reading.specs.Listing.{line_octets}
use Rattle.directory.proofs.Filling.{Rows}
use Rattle.capture.specs.Walk.{row_walked}
use Rattle.capture.proofs.Walks.{Ahead}
use Rattle.capture.proofs.listing.put_rows.Given as goal

abbrev pub invariant-loop-i : goal.invariant-loop-i
invariant-loop-i g l =
    Ahead (g.J.Judge.judged l.judge) l.block l.walk l.i
    × Rows (row_walked g.J.Judge.listed (g.J.Judge.judged l.judge) l.block) line_octets l.initial.text l.at l.text l.end l.i
