-- The parts are those of the definition's end.
use Rattle.std.proofs.Common.{ap}
use Rattle.jazmotip.proofs.at_olt.jazmotip_olt_send.Goals as goal

pub returns : goal.returns
returns c =
    let e = c.send-done.ensures in
    rw (c.whole-head.ensures _ (ap (λ y. y.answer.parts) e), ap (λ y. y.answer) e, ap (λ y. y.output) e)
