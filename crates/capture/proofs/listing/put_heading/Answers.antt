-- `capture::listing::put_heading` meets its contract: the heading is copied to the front. Assumes nothing.
use native.Mathlib.Omega.{arith}
use Rattle.rows.proofs.Texts.{put}
use Rattle.reading.specs.Listing.{heading_text}
use Rattle.capture.proofs.listing.put_heading.Goals as goal

pub returns : goal.returns
returns c =
    let p = put c.args.text.now _ heading_text 0 (omega arith) c.copy_at.ensures in
    record { text_after = p.front; text_unchanged = p.rest }
