-- `class::listing::put_body_for` meets its contract: what the call finds, and the rows of the block. Assumes nothing.
use Rattle.class.specs.Reading.{call_for}
use Rattle.class.proofs.Turns.{body_is}
use Rattle.class.proofs.listing.put_body_for.Goals as goal

pub returns : goal.returns
unfolding call_for
returns c =
    let q = c.put_body.ensures in
    let a = c.args.asker.now in
    record {
      lower_bound = q.lower_bound;
      text_after =
          rw (c.class_verdict-ahead.ensures.value, body_is a.near a.caller a.sets.now a.rights.now c.args.block.now) at q.text_after;
      text_unchanged = q.text_unchanged;
    }
