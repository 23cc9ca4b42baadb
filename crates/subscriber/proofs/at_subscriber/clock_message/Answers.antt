-- `clock_message` meets its contract: the unit's answer, where the groups are valid. Assumes nothing.
use mathlib.Core.Path.{sym, ◌∙◌}
use Rattle.octets.specs.Choice.{pick}
use Rattle.subscriber.specs.SubscriberCalls.{onu_acknowledged_in, subscriber_clock_message_of}
use Rattle.subscriber.proofs.SubscriberSteps.{clock_message_told}
use Rattle.subscriber.proofs.at_subscriber.clock_message.Goals as goal

pub returns-then-not-sound_memberships-clause-value : goal.returns-then-not-sound_memberships-clause-value
unfolding subscriber_clock_message_of onu_acknowledged_in pick
returns-then-not-sound_memberships-clause-value c =
    rw (sym c.sound_memberships.ensures ∙ c.if-not-sound_memberships.true, c.not_acknowledged.ensures)

pub returns-then-not-sound_memberships-clause-groups : goal.returns-then-not-sound_memberships-clause-groups
returns-then-not-sound_memberships-clause-groups c =
    let a = c.args in (clock_message_told a.subscriber a.message _ (returns-then-not-sound_memberships-clause-value c)).1.0

pub returns-then-not-sound_memberships-clause-alone : goal.returns-then-not-sound_memberships-clause-alone
returns-then-not-sound_memberships-clause-alone c =
    let a = c.args in (clock_message_told a.subscriber a.message _ (returns-then-not-sound_memberships-clause-value c)).1.1

pub returns-clause-value : goal.returns-clause-value
unfolding subscriber_clock_message_of onu_acknowledged_in pick
returns-clause-value c =
    rw (sym c.sound_memberships.ensures ∙ c.if-not-sound_memberships.false, c.acknowledged.ensures, c.clock_message-answered.ensures)

pub returns-clause-groups : goal.returns-clause-groups
returns-clause-groups c =
    let a = c.args in (clock_message_told a.subscriber a.message _ (returns-clause-value c)).1.0

pub returns-clause-alone : goal.returns-clause-alone
returns-clause-alone c =
    let a = c.args in (clock_message_told a.subscriber a.message _ (returns-clause-value c)).1.1
