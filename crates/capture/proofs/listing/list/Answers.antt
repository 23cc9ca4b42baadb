-- `capture::listing::list` meets its contract: it lists in the usual way. Assumes nothing.
use mathlib.Core.Path.{◌∙◌}
use Rattle.reading.proofs.Readings.{listing_usual}
use Rattle.capture.proofs.listing.list.Goals as goal

pub returns : goal.returns
returns c =
    let q = c.list_by.ensures in
    record { upper_bound = q.upper_bound; text_after = q.text_after ∙ listing_usual _ _; text_unchanged = q.text_unchanged }
