-- `jazmotip::at_onu::jazmotip_onu_advance` meets its contract. Assumes nothing.
use mathlib.Core.Path.{ap}
use Rattle.subscriber.specs.declared.SubscriberMoved.{SubscriberMoved}
use Rattle.jazmotip.proofs.at_onu.jazmotip_onu_advance.Goals as goal

pub returns : goal.returns
returns c =
    (ap (λ (m : SubscriberMoved). m.number) c.advanced-answer.ensures, ap (λ (m : SubscriberMoved). m.subscriber) c.advanced-answer.ensures)
