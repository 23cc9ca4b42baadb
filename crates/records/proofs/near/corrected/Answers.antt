-- `records::near::corrected` meets its contract: each field by the function that makes it. Assumes nothing.
use Rattle.records.specs.Near.{corrected}
use Rattle.records.proofs.near.corrected.Goals as goal

pub returns : goal.returns
returns c = unfold corrected in
    rw (c.larger.ensures, c.smaller.ensures, c.stepped.ensures, c.sum_at-at.ensures.0)
