-- The calls of a subscriber but send and receive (02, C-14). Assumes nothing.
use Rattle.std.specs.Prelude.{ℕ, leb}
use Rattle.octets.specs.Choice.{either, pick}
use Rattle.refusal.specs.Number.{number_of, verdict_number}
use Rattle.refusal.specs.Order.{refuse_if}
use Rattle.refusal.specs.declared.Refusal.TheVariants.{OutOfRange, RepeatedLlid, TableFull}
use Rattle.clock.specs.declared.Stamps.{Stamps}
use Rattle.ends.specs.Identities.{has}
use Rattle.ends.specs.declared.Identity.{Identity}
use Rattle.ends.specs.declared.Onu.{Onu}
use Rattle.protocol.specs.Replies.{Reply, reply, on_valid, Silence, silent}
use Rattle.protocol.specs.OnuCalls.{fresh_onu_of, advance_onu_of, new_time_of, clock_message_at, key_message_at}
use Rattle.protocol.specs.declared.Acknowledgement.{Acknowledgement}
use Rattle.protocol.specs.declared.KeyMessage.{KeyMessage}
use Rattle.protocol.specs.declared.OnuAnswer.{OnuAnswer}
use Rattle.protocol.specs.declared.OnuAcknowledged.{OnuAcknowledged}
use Rattle.group_protocol.specs.Limits.{max_joined}
use Rattle.group_protocol.specs.Subscriber.{fresh_joined, has_joined, find_joined, joined_at, with_onu, with_joined, with_one_joined_more, alone, valid_memberships, valid_subscriber}
use Rattle.group_protocol.specs.JoinedCalls.{JoinedOutcome, message_joined, no_answer}
use Rattle.group_protocol.specs.declared.Joined.{Joined}
use Rattle.group_protocol.specs.declared.Subscriber.{Subscriber}
use Rattle.group_protocol.specs.declared.Answer.{Answer}
use Rattle.group_protocol.specs.Naming.{by_llid}
use Rattle.subscriber.specs.declared.SubscriberAnswer.{SubscriberAnswer}
use Rattle.subscriber.specs.declared.SubscriberMoved.{SubscriberMoved}
use Rattle.subscriber.specs.declared.SubscriberAcknowledged.{SubscriberAcknowledged}
use Rattle.refusal.specs.Verdict.{Verdict, no_refusal}

unfoldable pub subscriber_answer : Reply Subscriber Silence → SubscriberAnswer
subscriber_answer r = record { number = verdict_number r.verdict; subscriber = r.end }

unfoldable pub subscriber_acknowledged : Reply Subscriber Answer → SubscriberAcknowledged
subscriber_acknowledged r = record { number = verdict_number r.verdict; subscriber = r.end; answer = r.handed }

-- a unit's own acknowledgement names no unit
unfoldable pub own_answer : Acknowledgement → Answer
own_answer a = record { kind = a.kind; named = 0; unit = 0; number = a.number }

---- a call on a group

unfoldable pub put_joined : {H : Type 0} → Subscriber → H → ℕ → JoinedOutcome H → Reply Subscriber H
put_joined s nothing i c = reply (on_valid (valid_subscriber s) c.verdict) s nothing (with_joined s i c.joined) c.handed

-- from a call on one joined group to the same call on the subscriber: 1 for a lent end that is not valid, then what the group decides
unfoldable pub joined_lift : {H : Type 0} → Subscriber → H → (Onu → Joined → JoinedOutcome H) → ℕ → Reply Subscriber H
joined_lift s nothing call i = put_joined s nothing i (call s.onu (joined_at s i))

---- a call on the unit: what it answers stands in the subscriber; where the groups that it joined are not valid it is 1

unfoldable pub own_answered : Subscriber → OnuAnswer → SubscriberAnswer
own_answered s r = record { number = r.number; subscriber = with_onu s r.onu }

unfoldable pub onu_answered : Subscriber → OnuAnswer → SubscriberAnswer
onu_answered s r = pick (valid_memberships s) (own_answered s r) (record { number = number_of OutOfRange; subscriber = s })

unfoldable pub not_acknowledged : Subscriber → SubscriberAcknowledged
not_acknowledged s = record { number = number_of OutOfRange; subscriber = s; answer = no_answer }

unfoldable pub own_acknowledged : Subscriber → OnuAcknowledged → SubscriberAcknowledged
own_acknowledged s r = record { number = r.number; subscriber = with_onu s r.onu; answer = own_answer r.acknowledgement }

unfoldable pub onu_acknowledged_in : Subscriber → OnuAcknowledged → SubscriberAcknowledged
onu_acknowledged_in s r = pick (valid_memberships s) (own_acknowledged s r) (not_acknowledged s)

---- a fresh subscriber: as the unit, without groups

unfoldable pub fresh_subscriber_of : Identity → ℕ → ℕ → SubscriberAnswer
fresh_subscriber_of i oltmac time = record { number = (fresh_onu_of i oltmac time).number; subscriber = alone (fresh_onu_of i oltmac time).onu }

---- join: 3, 4

unfoldable pub join_verdict : Subscriber → ℕ → Verdict
join_verdict s llid =
    refuse_if (either (has s.onu.identity llid) (has_joined s llid)) RepeatedLlid
    (refuse_if (leb max_joined s.memberships.count) TableFull no_refusal)

unfoldable pub join_of : Subscriber → ℕ → SubscriberAnswer
join_of s llid =
    subscriber_answer
    (reply (on_valid (valid_subscriber s) (join_verdict s llid)) s silent (with_one_joined_more s (fresh_joined llid)) silent)

---- advance: 17; a new LocalTime: 1, 17 (02, C-16); clock message: 1

unfoldable pub subscriber_advance_of : Subscriber → ℕ → SubscriberAnswer
subscriber_advance_of s n = onu_answered s (advance_onu_of s.onu n)

-- the same, the end first
abbrev pub subscriber_moved_of : Subscriber → ℕ → SubscriberMoved
subscriber_moved_of s n = record { subscriber = (subscriber_advance_of s n).subscriber; number = (subscriber_advance_of s n).number }

unfoldable pub subscriber_new_time_of : Subscriber → ℕ → SubscriberAnswer
subscriber_new_time_of s time = onu_answered s (new_time_of s.onu time)

unfoldable pub subscriber_clock_message_of : Subscriber → Stamps → SubscriberAcknowledged
subscriber_clock_message_of s m = onu_acknowledged_in s (clock_message_at s.onu m)

---- key message: 2, 5, 8

unfoldable pub subscriber_key_message_of : Subscriber → KeyMessage → SubscriberAcknowledged
subscriber_key_message_of s m =
    by_llid (find_joined s m.llid) (onu_acknowledged_in s (key_message_at s.onu m))
    (λ i. subscriber_acknowledged (joined_lift s no_answer (message_joined m) i))
