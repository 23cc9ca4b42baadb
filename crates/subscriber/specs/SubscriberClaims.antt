-- What 02, C-14, promises of a subscriber's calls beside their answers. Assumes nothing.
use Rattle.std.specs.Prelude.{◌≡◌, List, ℕ, Option, Some, None}
use Rattle.octets.specs.Output.{WithOutput}
use Rattle.protocol.specs.declared.Header.{Header}
use Rattle.group_protocol.specs.declared.Subscriber.{Subscriber}
use Rattle.subscriber.specs.SubscriberTraffic.{unit_send_of, unit_receive_of}
use Rattle.subscriber.specs.declared.SubscriberSent.{SubscriberSent}
use Rattle.subscriber.specs.declared.SubscriberReceived.{SubscriberReceived}

-- found is the group that a call names by its LLID. A call on a group leaves the unit's own numbers, keys and clocks (group envelopes don't
-- count for the numbers of the unit's own); a call on the unit leaves the groups
pub record Apart (s next : Subscriber) (found : Option ℕ) : Type 0 where
  pub unit : (i : ℕ) → found ≡ Some i → next.onu ≡ s.onu
  pub groups : found ≡ None → next.memberships ≡ s.memberships

-- without groups the unit sends and receives as before
pub record SendsAlone (s : Subscriber) (llid channel : ℕ) (p out : List ℕ) (r : WithOutput SubscriberSent) : Type 0 where
  pub alone : s.memberships.count ≡ 0 → r ≡ unit_send_of s llid channel p out

pub record ReceivesAlone (s : Subscriber) (h : Header) (p out : List ℕ) (r : WithOutput SubscriberReceived) : Type 0 where
  pub alone : s.memberships.count ≡ 0 → r ≡ unit_receive_of s h p out
