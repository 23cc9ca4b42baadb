-- `send` meets its contract: by the group that has the LLID. Assumes nothing.
use mathlib.Core.Path.{sym, ◌∙◌}
use Rattle.group_protocol.specs.Subscriber.{find_joined}
use Rattle.traffic.specs.Passages.{misfit}
use Rattle.group_protocol.specs.Naming.{by_llid}
use Rattle.subscriber.specs.SubscriberTraffic.{subscriber_send_of}
use Rattle.subscriber.proofs.SubscriberSteps.{send_told}
use Rattle.subscriber.proofs.subscriber_traffic.send.Goals as goal

pub returns-in-None-clause-output_after : goal.returns-in-None-clause-output_after
unfolding subscriber_send_of find_joined by_llid
returns-in-None-clause-output_after c =
    rw (sym c.find_joined-found.ensures ∙ c.in-None.is) c.own_send.ensures

pub returns-in-None-clause-apart : goal.returns-in-None-clause-apart
returns-in-None-clause-apart c =
    let a = c.args in (send_told a.subscriber a.llid a.channel a.payload.now a.output.now _ (returns-in-None-clause-output_after c)).1.0

pub returns-in-None-clause-alone : goal.returns-in-None-clause-alone
returns-in-None-clause-alone c =
    let a = c.args in (send_told a.subscriber a.llid a.channel a.payload.now a.output.now _ (returns-in-None-clause-output_after c)).1.1

pub returns-in-Some-clause-output_after : goal.returns-in-Some-clause-output_after
unfolding subscriber_send_of find_joined by_llid misfit
returns-in-Some-clause-output_after c =
    rw (
      sym c.find_joined-found.ensures ∙ c.in-Some.is,
      c.not_sent.ensures,
      c.verdict_number.ensures,
      c.group_send_verdict-verdict.ensures,
      c.lengths_fit-misfit.ensures,
    )

pub returns-in-Some-clause-apart : goal.returns-in-Some-clause-apart
returns-in-Some-clause-apart c =
    let a = c.args in (send_told a.subscriber a.llid a.channel a.payload.now a.output.now _ (returns-in-Some-clause-output_after c)).1.0

pub returns-in-Some-clause-alone : goal.returns-in-Some-clause-alone
returns-in-Some-clause-alone c =
    let a = c.args in (send_told a.subscriber a.llid a.channel a.payload.now a.output.now _ (returns-in-Some-clause-output_after c)).1.1
