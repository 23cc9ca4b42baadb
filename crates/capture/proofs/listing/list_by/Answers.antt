-- `capture::listing::list_by` meets its contract: the heading, then what stands behind it. Assumes nothing.
use native.Mathlib.Omega.{arith}
use Rattle.octets.specs.Choice.{pick}
use Rattle.reading.specs.Reading.{listing_by}
use Rattle.reading.specs.Verdict.{call_directory}
use Rattle.directory.proofs.Filling.{headed}
use Rattle.capture.proofs.Turns.{body_is}
use Rattle.capture.proofs.listing.list_by.Goals as goal

pub returns : goal.returns
unfolding listing_by call_directory pick
returns c =
    let q = c.put_body.ensures in
    let p = c.put_heading.ensures in
    let body = rw (c.settings_verdict.ensures, body_is c.args.near c.args.settings.now c.args.block.now) at q.text_after in
    let h = headed _ _ _ _ _ _ p.text_after p.text_unchanged q.lower_bound.0 (body, q.text_unchanged) (omega (arith, q.lower_bound.1)) in
    record { upper_bound = h.0; text_after = h.1.0; text_unchanged = h.1.1 }
