-- `new_time` meets its contract: the unit's answer, where the groups are valid. Assumes nothing.
use mathlib.Core.Path.{sym, ◌∙◌}
use Rattle.octets.specs.Choice.{pick}
use Rattle.group_protocol.specs.Subscriber.{with_onu}
use Rattle.subscriber.specs.SubscriberCalls.{onu_answered, own_answered, subscriber_new_time_of}
use Rattle.subscriber.proofs.SubscriberSteps.{new_time_told}
use Rattle.subscriber.proofs.at_subscriber.new_time.Goals as goal

pub returns-then-not-valid_memberships-clause-value : goal.returns-then-not-valid_memberships-clause-value
unfolding subscriber_new_time_of onu_answered pick
returns-then-not-valid_memberships-clause-value c =
    rw (sym c.valid_memberships.ensures ∙ c.if-not-valid_memberships.true, c.from.ensures)

pub returns-then-not-valid_memberships-clause-groups : goal.returns-then-not-valid_memberships-clause-groups
returns-then-not-valid_memberships-clause-groups c =
    let a = c.args in (new_time_told a.subscriber a.time _ (returns-then-not-valid_memberships-clause-value c)).1.0

pub returns-then-not-valid_memberships-clause-alone : goal.returns-then-not-valid_memberships-clause-alone
returns-then-not-valid_memberships-clause-alone c =
    let a = c.args in (new_time_told a.subscriber a.time _ (returns-then-not-valid_memberships-clause-value c)).1.1

pub returns-clause-value : goal.returns-clause-value
unfolding subscriber_new_time_of onu_answered own_answered pick with_onu
returns-clause-value c =
    rw (sym c.valid_memberships.ensures ∙ c.if-not-valid_memberships.false, c.new_time-answer.ensures)

pub returns-clause-groups : goal.returns-clause-groups
returns-clause-groups c =
    let a = c.args in (new_time_told a.subscriber a.time _ (returns-clause-value c)).1.0

pub returns-clause-alone : goal.returns-clause-alone
returns-clause-alone c =
    let a = c.args in (new_time_told a.subscriber a.time _ (returns-clause-value c)).1.1
