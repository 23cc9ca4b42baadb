-- Any other receipt of a unit is refused, and leaves it as it was. Assumes nothing.
use Rattle.std.specs.Prelude.{Option, Some, None}
use mathlib.Core.Path.{◌≡◌, refl, ◌∙◌, ap}
use mathlib.Core.Bool.{true}
use mathlib.Core.List.{List}
use Prim.Native.Nat.{ℕ}
use Rattle.octets.specs.Output.{WithOutput}
use Rattle.clock.specs.declared.Stamps.{Stamps}
use Rattle.protocol.specs.Headers.{no_passage}
use Rattle.protocol.specs.declared.Header.{Header}
use Rattle.protocol.specs.declared.KeyMessage.{KeyMessage}
use Rattle.protocol.proofs.OnuCalls.{clock_message_refused, key_message_refused}
use Rattle.traffic.specs.Passages.{misfit}
use Rattle.group_protocol.specs.JoinedCalls.{no_answer, message_joined, receive_joined}
use Rattle.group_protocol.specs.Subscriber.{find_joined, with_onu, valid_memberships}
use Rattle.group_protocol.specs.declared.Subscriber.{Subscriber}
use Rattle.group_protocol.specs.Naming.{by_llid}
use Rattle.subscriber.specs.SubscriberCalls.{subscriber_acknowledged, subscriber_clock_message_of, subscriber_key_message_of}
use Rattle.subscriber.specs.SubscriberTraffic.{subscriber_received, group_receive_of, subscriber_receive_of}
use Rattle.subscriber.specs.declared.SubscriberAcknowledged.{SubscriberAcknowledged}
use Rattle.subscriber.specs.declared.SubscriberReceived.{SubscriberReceived}
use Rattle.unicast.specs.Setting.{Setting}
use Rattle.unicast.proofs.OnuSteps.{receive_refused}
use Rattle.line.specs.Events.{stray_clock, stray_key, stray_down}
use Rattle.line.specs.Run.{State, subscriber_at, step}
use Rattle.line.specs.Premises.{Fits}
use Rattle.line.proofs.AloneUnit.{clock_message_onu, key_message_onu, receive_onu}
use Rattle.line.proofs.Invariant.{Invariant}
use Rattle.line.proofs.JoinedLift.{Ends, accepted, refused, lift_ends}
use Rattle.line.proofs.Lines.{memberships_right}
use Rattle.line.proofs.OverheardSteps.{subscriber_stays}

module _ (x : Subscriber) (v : valid_memberships x ≡ true) where
  pub clock_refused : (m : Stamps) → ((subscriber_clock_message_of x m).number ≡ 0 → ⊥) → (subscriber_clock_message_of x m).subscriber ≡ x
  unfolding with_onu
  clock_refused m n =
      let is = clock_message_onu x v m in
      ap (λ (r : SubscriberAcknowledged). r.subscriber) is
      ∙ ap (with_onu x) (clock_message_refused x.onu m (λ z. n (ap (λ (r : SubscriberAcknowledged). r.number) is ∙ z))).0

  own_key_refused : (m : KeyMessage) → find_joined x m.llid ≡ None → ((subscriber_key_message_of x m).number ≡ 0 → ⊥)
      → (subscriber_key_message_of x m).subscriber ≡ x
  unfolding with_onu
  own_key_refused m none n =
      let is = key_message_onu x v m none in
      ap (λ (r : SubscriberAcknowledged). r.subscriber) is
      ∙ ap (with_onu x) (key_message_refused x.onu m (λ z. n (ap (λ (r : SubscriberAcknowledged). r.number) is ∙ z))).0

  group_key_refused : (m : KeyMessage) (j : ℕ) → find_joined x m.llid ≡ Some j → ((subscriber_key_message_of x m).number ≡ 0 → ⊥)
      → (subscriber_key_message_of x m).subscriber ≡ x
  unfolding subscriber_key_message_of by_llid subscriber_acknowledged
  group_key_refused m j found n = by_end (lift_ends x no_answer (message_joined m) j) where
    by_end : Ends x no_answer (message_joined m) j → (subscriber_key_message_of x m).subscriber ≡ x
    by_end (refused r e) = rw (found, e)
    by_end (accepted l) = absurd (n (rw (found, l.is)))

  pub key_refused : (m : KeyMessage) → ((subscriber_key_message_of x m).number ≡ 0 → ⊥) → (subscriber_key_message_of x m).subscriber ≡ x
  key_refused m n = by_found (find_joined x m.llid) refl where
    by_found : (f : Option ℕ) → find_joined x m.llid ≡ f → (subscriber_key_message_of x m).subscriber ≡ x
    by_found None e = own_key_refused m e n
    by_found (Some j) e = group_key_refused m j e n

  own_receive_refused : (h : Header) (p out : List ℕ) → find_joined x h.llid ≡ None → ((subscriber_receive_of x h p out).answer.number ≡ 0 → ⊥)
      → (subscriber_receive_of x h p out).answer.subscriber ≡ x
  unfolding with_onu
  own_receive_refused h p out none n =
      let is = receive_onu x v h p out none in
      ap (λ (r : WithOutput SubscriberReceived). r.answer.subscriber) is
      ∙ ap (with_onu x) (receive_refused x.onu h p out (λ z. n (ap (λ (r : WithOutput SubscriberReceived). r.answer.number) is ∙ z)))

  group_receive_refused : (h : Header) (p out : List ℕ) (j : ℕ) → find_joined x h.llid ≡ Some j
      → ((subscriber_receive_of x h p out).answer.number ≡ 0 → ⊥)
      → (subscriber_receive_of x h p out).answer.subscriber ≡ x
  unfolding subscriber_receive_of by_llid group_receive_of subscriber_received
  group_receive_refused h p out j found n = by_end (lift_ends x no_passage (receive_joined (misfit p out) h) j) where
    by_end : Ends x no_passage (receive_joined (misfit p out) h) j → (subscriber_receive_of x h p out).answer.subscriber ≡ x
    by_end (refused r e) = rw (found, e)
    by_end (accepted l) = absurd (n (rw (found, l.is)))

  pub envelope_refused : (h : Header) (p out : List ℕ) → ((subscriber_receive_of x h p out).answer.number ≡ 0 → ⊥)
      → (subscriber_receive_of x h p out).answer.subscriber ≡ x
  envelope_refused h p out n = by_found (find_joined x h.llid) refl where
    by_found : (f : Option ℕ) → find_joined x h.llid ≡ f → (subscriber_receive_of x h p out).answer.subscriber ≡ x
    by_found None e = own_receive_refused h p out e n
    by_found (Some j) e = group_receive_refused h p out j e n

---- the events

pub stray_clock_right : (w : Setting) (s : State) (u : ℕ) (m : Stamps) → Invariant w s → Fits w s (stray_clock u m)
    → Invariant w (step s (stray_clock u m))
unfolding step
stray_clock_right w s u m i n = subscriber_stays w s u _ (clock_refused (subscriber_at s u) (memberships_right w s i u) m n) i

pub stray_key_right : (w : Setting) (s : State) (u : ℕ) (m : KeyMessage) → Invariant w s → Fits w s (stray_key u m)
    → Invariant w (step s (stray_key u m))
unfolding step
stray_key_right w s u m i n = subscriber_stays w s u _ (key_refused (subscriber_at s u) (memberships_right w s i u) m n) i

pub stray_down_right : (w : Setting) (s : State) (u : ℕ) (h : Header) (p out : List ℕ) → Invariant w s → Fits w s (stray_down u h p out)
    → Invariant w (step s (stray_down u h p out))
unfolding step
stray_down_right w s u h p out i n = subscriber_stays w s u _ (envelope_refused (subscriber_at s u) (memberships_right w s i u) h p out n) i
