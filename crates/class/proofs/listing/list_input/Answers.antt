-- `class::listing::list_input` meets its contract: the heading, then what the input gives. Assumes nothing.
use native.Mathlib.Omega.{arith}
use Rattle.directory.proofs.Filling.{headed}
use Rattle.class.specs.Input.{input_listing}
use Rattle.class.proofs.listing.list_input.Goals as goal

pub returns : goal.returns
unfolding input_listing
returns c =
    let q = c.put_input.ensures in
    let p = c.put_heading.ensures in
    let h = headed _ _ _ _ _ _ p.text_after p.text_unchanged q.lower_bound.0 (q.text_after, q.text_unchanged) (omega (arith, q.lower_bound.1)) in
    record { upper_bound = h.0; text_after = h.1.0; text_unchanged = h.1.1 }
