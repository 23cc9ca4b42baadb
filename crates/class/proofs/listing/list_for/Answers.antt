-- `class::listing::list_for` meets its contract: the heading, then the body. Assumes nothing.
use native.Mathlib.Omega.{arith}
use Rattle.directory.proofs.Filling.{headed}
use Rattle.class.specs.Listing.{listing_for}
use Rattle.class.proofs.listing.list_for.Goals as goal

pub returns : goal.returns
unfolding listing_for
returns c =
    let q = c.put_body_for.ensures in
    let p = c.put_heading.ensures in
    let h = headed _ _ _ _ _ _ p.text_after p.text_unchanged q.lower_bound.0 (q.text_after, q.text_unchanged) (omega (arith, q.lower_bound.1)) in
    record { upper_bound = h.0; text_after = h.1.0; text_unchanged = h.1.1 }
