-- `capture::opening::open_near` meets its contract: it opens in the near way, and the promise is a law. Assumes nothing.
use Rattle.reading.proofs.Exact.{reads_as_exact, not_empty}
use Rattle.capture.proofs.opening.open_near.Goals as goal

pub returns : goal.returns
returns c = record { output_after = c.open_by.ensures; reads_as_exact = reads_as_exact _ _ _; not_empty = not_empty }
