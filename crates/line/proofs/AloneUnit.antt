-- A call of a unit makes of the units and their own lines what it makes of them without groups, where the groups that the unit joined are
-- valid and it has not joined the LLID. Assumes nothing.
use Rattle.std.specs.Prelude.{None}
use mathlib.Core.Path.{◌≡◌}
use mathlib.Core.Bool.{true}
use mathlib.Core.List.{List}
use Prim.Native.Nat.{ℕ}
use Rattle.octets.specs.Output.{with_output}
use Rattle.octets.proofs.Choice.{pick_true}
use Rattle.clock.specs.declared.Stamps.{Stamps}
use Rattle.protocol.specs.OnuCalls.{advance_onu_of, new_time_of, clock_message_at, key_message_at}
use Rattle.protocol.specs.declared.Header.{Header}
use Rattle.protocol.specs.declared.KeyMessage.{KeyMessage}
use Rattle.protocol.specs.declared.OnuAcknowledged.{OnuAcknowledged}
use Rattle.traffic.specs.Sends.{onu_send_of}
use Rattle.traffic.specs.Receipts.{onu_receive_of}
use Rattle.traffic.specs.declared.OnuSent.{OnuSent}
use Rattle.traffic.specs.declared.OnuReceived.{OnuReceived}
use Rattle.group_protocol.specs.Subscriber.{find_joined, valid_memberships, with_onu}
use Rattle.group_protocol.specs.declared.Subscriber.{Subscriber}
use Rattle.group_protocol.specs.Naming.{by_llid}
use Rattle.subscriber.specs.SubscriberCalls.{own_answer, own_answered, own_acknowledged, onu_answered, onu_acknowledged_in, subscriber_advance_of, subscriber_new_time_of, subscriber_clock_message_of, subscriber_key_message_of}
use Rattle.subscriber.specs.SubscriberTraffic.{own_sent, unit_send_of, own_send_of, own_received, unit_receive_of, own_receive_of, subscriber_send_of, subscriber_receive_of}
use Rattle.subscriber.specs.declared.SubscriberAcknowledged.{SubscriberAcknowledged}
use Rattle.subscriber.specs.declared.SubscriberSent.{SubscriberSent}
use Rattle.subscriber.specs.declared.SubscriberReceived.{SubscriberReceived}
use Rattle.unicast.specs.History.{Envelope, clock_message, key_message, envelope, Lane}
use Rattle.unicast.specs.Events as events
use Rattle.unicast.specs.Run as run
use Rattle.unicast.specs.Run.{at_onu}
use Rattle.line.specs.Events.{send_up}
use Rattle.line.specs.Run.{State, alone, subscriber_at, at_unit_alone, envelope_up, sending_up, answer_alone, message_arriving, receipt_down, in_flight_arriving, step}
use Rattle.line.proofs.Alone.{onu_alone, at_unit_alone-holds}

---- what the unit answers stands in the subscriber

module _ (x : Subscriber) (v : valid_memberships x ≡ true) where
  pub advance_onu : (n : ℕ) → subscriber_advance_of x n
      ≡ record { number = (advance_onu_of x.onu n).number; subscriber = with_onu x (advance_onu_of x.onu n).onu }
  unfolding subscriber_advance_of onu_answered own_answered
  advance_onu n = pick_true _ _ v

  pub new_time_onu : (time : ℕ) → subscriber_new_time_of x time
      ≡ record { number = (new_time_of x.onu time).number; subscriber = with_onu x (new_time_of x.onu time).onu }
  unfolding subscriber_new_time_of onu_answered own_answered
  new_time_onu time = pick_true _ _ v

  abbrev pub acknowledged_in : OnuAcknowledged → SubscriberAcknowledged
  acknowledged_in r = record { number = r.number; subscriber = with_onu x r.onu; answer = own_answer r.acknowledgement }

  acknowledged_onu : (r : OnuAcknowledged) → onu_acknowledged_in x r ≡ acknowledged_in r
  unfolding onu_acknowledged_in own_acknowledged
  acknowledged_onu r = pick_true _ _ v

  pub clock_message_onu : (m : Stamps) → subscriber_clock_message_of x m ≡ acknowledged_in (clock_message_at x.onu m)
  unfolding subscriber_clock_message_of
  clock_message_onu m = acknowledged_onu (clock_message_at x.onu m)

  pub key_message_onu : (m : KeyMessage) → find_joined x m.llid ≡ None → subscriber_key_message_of x m ≡ acknowledged_in (key_message_at x.onu m)
  unfolding subscriber_key_message_of by_llid
  key_message_onu m none = rw none (acknowledged_onu (key_message_at x.onu m))

  abbrev pub sent_in : OnuSent → SubscriberSent
  sent_in r = record { number = r.number; subscriber = with_onu x r.onu; header = r.header; count = r.count; runs = r.runs }

  pub send_onu : (llid channel : ℕ) (p out : List ℕ) → find_joined x llid ≡ None
      → subscriber_send_of x llid channel p out ≡ with_output (sent_in (onu_send_of x.onu llid channel p out).answer)
      (onu_send_of x.onu llid channel p out).output
  unfolding subscriber_send_of by_llid own_send_of unit_send_of own_sent
  send_onu llid channel p out none = rw none (pick_true _ _ v)

  abbrev pub received_in : OnuReceived → SubscriberReceived
  received_in r = record { number = r.number; subscriber = with_onu x r.onu; count = r.count; runs = r.runs }

  pub receive_onu : (h : Header) (p out : List ℕ) → find_joined x h.llid ≡ None
      → subscriber_receive_of x h p out ≡ with_output (received_in (onu_receive_of x.onu h p out).answer) (onu_receive_of x.onu h p out).output
  unfolding subscriber_receive_of by_llid own_receive_of unit_receive_of own_received
  receive_onu h p out none = rw none (pick_true _ _ v)

---- the calls

-- a call on a unit of which only its own line is told
pub own_alone : (s : State) (u : ℕ) (x : Subscriber) (f : Lane → Lane) → alone (at_unit_alone s u x f) ≡ at_onu (alone s) u x.onu f
unfolding at_unit_alone at_onu
own_alone s u x f = at_unit_alone-holds s u x _ _ _

module _ (s : State) (u : ℕ) (v : valid_memberships (subscriber_at s u) ≡ true) where
  pub send_up_alone : (llid channel : ℕ) (p out : List ℕ) → find_joined (subscriber_at s u) llid ≡ None
      → alone (step s (send_up u llid channel p out)) ≡ run.step (alone s) (events.send_up u llid channel p out)
  unfolding step run.step sending_up run.sending_up envelope_up run.envelope_up with_onu alone
  send_up_alone llid channel p out none =
      rw (own_alone s u _ _, send_onu (subscriber_at s u) v llid channel p out none, onu_alone s u)

  ---- what arrives

  -- the message of a unit's own
  message_alone : (k : ℕ) (r : SubscriberAcknowledged) (a : OnuAcknowledged) → r ≡ acknowledged_in (subscriber_at s u) v a
      → alone (message_arriving s u k r) ≡ run.message_arriving (alone s) u k a
  unfolding message_arriving run.message_arriving answer_alone own_answer with_onu alone
  message_alone k r a e = rw (own_alone s u _ _, e)

  pub clock_alone : (k : ℕ) (out : List ℕ) (m : Stamps) (c t : ℕ)
      → alone (in_flight_arriving s u k out (clock_message m c t)) ≡ run.in_flight_arriving (alone s) u k out (clock_message m c t)
  unfolding in_flight_arriving run.in_flight_arriving
  clock_alone k out m c t =
      rw (onu_alone s u)
      (message_alone k (subscriber_clock_message_of (subscriber_at s u) m) (clock_message_at (subscriber_at s u).onu m)
      (clock_message_onu (subscriber_at s u) v m))

  pub key_alone : (k : ℕ) (out : List ℕ) (m : KeyMessage) (t : ℕ) → find_joined (subscriber_at s u) m.llid ≡ None
      → alone (in_flight_arriving s u k out (key_message m t)) ≡ run.in_flight_arriving (alone s) u k out (key_message m t)
  unfolding in_flight_arriving run.in_flight_arriving
  key_alone k out m t none =
      rw (onu_alone s u)
      (message_alone k (subscriber_key_message_of (subscriber_at s u) m) (key_message_at (subscriber_at s u).onu m)
      (key_message_onu (subscriber_at s u) v m none))

  pub envelope_alone : (k : ℕ) (out : List ℕ) (e : Envelope) → find_joined (subscriber_at s u) e.header.llid ≡ None
      → alone (in_flight_arriving s u k out (envelope e)) ≡ run.in_flight_arriving (alone s) u k out (envelope e)
  unfolding in_flight_arriving run.in_flight_arriving run.envelope_arriving receipt_down run.receipt_down with_onu
  envelope_alone k out e none =
      rw (own_alone s u _ _, receive_onu (subscriber_at s u) v e.header e.octets out none, onu_alone s u)
