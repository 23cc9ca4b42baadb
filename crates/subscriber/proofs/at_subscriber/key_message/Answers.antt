-- `key_message` meets its contract: by the group that has the LLID. Assumes nothing.
use mathlib.Core.Path.{sym, ◌∙◌}
use Rattle.group_protocol.specs.Subscriber.{find_joined}
use Rattle.group_protocol.specs.Naming.{by_llid}
use Rattle.subscriber.specs.SubscriberCalls.{subscriber_key_message_of}
use Rattle.subscriber.proofs.SubscriberSteps.{key_message_told}
use Rattle.subscriber.proofs.at_subscriber.key_message.Goals as goal

pub returns-in-None-clause-value : goal.returns-in-None-clause-value
unfolding subscriber_key_message_of find_joined by_llid
returns-in-None-clause-value c =
    rw (sym c.find_joined-found.ensures ∙ c.in-None.is) c.own_message.ensures

pub returns-in-None-clause-apart : goal.returns-in-None-clause-apart
returns-in-None-clause-apart c =
    let a = c.args in (key_message_told a.subscriber a.message _ (returns-in-None-clause-value c)).1.0

pub returns-in-None-clause-alone : goal.returns-in-None-clause-alone
returns-in-None-clause-alone c =
    let a = c.args in (key_message_told a.subscriber a.message _ (returns-in-None-clause-value c)).1.1

pub returns-in-Some-clause-value : goal.returns-in-Some-clause-value
unfolding subscriber_key_message_of find_joined by_llid
returns-in-Some-clause-value c =
    rw (sym c.find_joined-found.ensures ∙ c.in-Some.is) c.group_message.ensures

pub returns-in-Some-clause-apart : goal.returns-in-Some-clause-apart
returns-in-Some-clause-apart c =
    let a = c.args in (key_message_told a.subscriber a.message _ (returns-in-Some-clause-value c)).1.0

pub returns-in-Some-clause-alone : goal.returns-in-Some-clause-alone
returns-in-Some-clause-alone c =
    let a = c.args in (key_message_told a.subscriber a.message _ (returns-in-Some-clause-value c)).1.1
