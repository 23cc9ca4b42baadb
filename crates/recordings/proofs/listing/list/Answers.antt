-- `recordings::listing::list` meets its contract: the heading, then what stands behind it. Assumes nothing.
use native.Mathlib.Omega.{arith}
use Rattle.rows.proofs.Texts.{put}
use Rattle.directory.proofs.Filling.{headed}
use Rattle.recordings.specs.Listing.{heading_text, listing_of}
use Rattle.recordings.proofs.listing.list.Goals as goal

pub returns : goal.returns
unfolding listing_of
returns c =
    let q = c.put_input.ensures in
    let p = put c.args.text.now _ heading_text 0 (omega arith) c.copy_at.ensures in
    let z = headed _ _ _ _ _ _ p.front p.rest q.lower_bound.0 (q.text_after, q.text_unchanged) (omega (arith, q.lower_bound.1)) in
    record { upper_bound = z.0; text_after = z.1.0; text_unchanged = z.1.1 }
