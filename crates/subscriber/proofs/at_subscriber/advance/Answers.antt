-- `advance` meets its contract: the unit's answer, where the groups are valid. Assumes nothing.
use mathlib.Core.Path.{sym, ◌∙◌}
use Rattle.octets.specs.Choice.{pick}
use Rattle.group_protocol.specs.Subscriber.{with_onu}
use Rattle.subscriber.specs.SubscriberCalls.{onu_answered, own_answered, subscriber_advance_of}
use Rattle.subscriber.proofs.SubscriberSteps.{advance_told}
use Rattle.subscriber.proofs.at_subscriber.advance.Goals as goal

pub returns-then-not-sound_memberships-clause-value : goal.returns-then-not-sound_memberships-clause-value
unfolding subscriber_advance_of onu_answered pick
returns-then-not-sound_memberships-clause-value c =
    rw (sym c.sound_memberships.ensures ∙ c.if-not-sound_memberships.true, c.from.ensures)

pub returns-then-not-sound_memberships-clause-groups : goal.returns-then-not-sound_memberships-clause-groups
returns-then-not-sound_memberships-clause-groups c =
    let a = c.args in (advance_told a.subscriber a.n _ (returns-then-not-sound_memberships-clause-value c)).1.0

pub returns-then-not-sound_memberships-clause-alone : goal.returns-then-not-sound_memberships-clause-alone
returns-then-not-sound_memberships-clause-alone c =
    let a = c.args in (advance_told a.subscriber a.n _ (returns-then-not-sound_memberships-clause-value c)).1.1

pub returns-clause-value : goal.returns-clause-value
unfolding subscriber_advance_of onu_answered own_answered pick with_onu
returns-clause-value c =
    rw (sym c.sound_memberships.ensures ∙ c.if-not-sound_memberships.false, c.advance-answer.ensures)

pub returns-clause-groups : goal.returns-clause-groups
returns-clause-groups c =
    let a = c.args in (advance_told a.subscriber a.n _ (returns-clause-value c)).1.0

pub returns-clause-alone : goal.returns-clause-alone
returns-clause-alone c =
    let a = c.args in (advance_told a.subscriber a.n _ (returns-clause-value c)).1.1
