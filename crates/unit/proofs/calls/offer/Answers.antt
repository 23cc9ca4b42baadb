-- `unit::calls::offer` meets its contract: the unit decides, and its key message is handed over. Assumes nothing.
use Rattle.std.proofs.Common.{sym, ◌∙◌}
use Rattle.refusal.proofs.Order.{then_accepted}
use Rattle.protocol.proofs.UnitCalls.{offer_accepted}
use Rattle.unit.proofs.calls.offer.Goals as goal

pub offered-next-requires : goal.offered-next-requires
offered-next-requires c =
    let e = sym c.and_then-verdict.ensures ∙ c.in-Ok.is in
    (offer_accepted _ _ (sym c.offer_verdict.ensures ∙ (then_accepted _ _ e).1)).below
