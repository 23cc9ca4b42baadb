-- `receive` meets its contract: by the group that has the LLID. Assumes nothing.
use mathlib.Core.Path.{sym, ◌∙◌}
use Rattle.group_protocol.specs.Subscriber.{find_joined}
use Rattle.group_protocol.specs.Naming.{by_llid}
use Rattle.subscriber.specs.SubscriberTraffic.{subscriber_receive_of}
use Rattle.subscriber.proofs.SubscriberSteps.{receive_told}
use Rattle.subscriber.proofs.subscriber_traffic.receive.Goals as goal

pub returns-in-None-clause-output_after : goal.returns-in-None-clause-output_after
unfolding subscriber_receive_of find_joined by_llid
returns-in-None-clause-output_after c =
    rw (sym c.find_joined-found.ensures ∙ c.in-None.is) c.own_receive.ensures

pub returns-in-None-clause-apart : goal.returns-in-None-clause-apart
returns-in-None-clause-apart c =
    let a = c.args in (receive_told a.subscriber a.header a.octets.now a.output.now _ (returns-in-None-clause-output_after c)).1.0

pub returns-in-None-clause-alone : goal.returns-in-None-clause-alone
returns-in-None-clause-alone c =
    let a = c.args in (receive_told a.subscriber a.header a.octets.now a.output.now _ (returns-in-None-clause-output_after c)).1.1

pub returns-in-Some-clause-output_after : goal.returns-in-Some-clause-output_after
unfolding subscriber_receive_of find_joined by_llid
returns-in-Some-clause-output_after c =
    rw (sym c.find_joined-found.ensures ∙ c.in-Some.is) c.group_receive.ensures

pub returns-in-Some-clause-apart : goal.returns-in-Some-clause-apart
returns-in-Some-clause-apart c =
    let a = c.args in (receive_told a.subscriber a.header a.octets.now a.output.now _ (returns-in-Some-clause-output_after c)).1.0

pub returns-in-Some-clause-alone : goal.returns-in-Some-clause-alone
returns-in-Some-clause-alone c =
    let a = c.args in (receive_told a.subscriber a.header a.octets.now a.output.now _ (returns-in-Some-clause-output_after c)).1.1
