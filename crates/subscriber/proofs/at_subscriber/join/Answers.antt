-- `join` meets its contract: the verdict decides, and the group takes the next place. Assumes nothing.
use mathlib.Core.Path.{sym, ◌∙◌}
use Rattle.subscriber.proofs.SubscriberLift.{join_room}
use Rattle.subscriber.proofs.at_subscriber.join.Goals as goal

pub with_one_more-next-requires : goal.with_one_more-next-requires
with_one_more-next-requires c =
    join_room _ _ (sym c.join_verdict-verdict.ensures ∙ c.in-Ok.is)
