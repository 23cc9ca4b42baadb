-- Laws of a subscriber's steps: a valid one stays valid, calls on groups and on the unit leave each other's part, and without groups the unit
-- answers as before. Assumes nothing.
use Rattle.std.specs.Prelude.{Option, Some, None}
use mathlib.Core.Path.{◌≡◌, refl, ◌∙◌}
use mathlib.Core.Bool.{true}
use mathlib.Core.List.{List}
use Prim.Native.Nat.{ℕ}
use native.Mathlib.Omega.{arith}
use lib.ListN.{length}
use borrow.Author.Tests.{le-leb}
use Rattle.octets.specs.Output.{WithOutput}
use Rattle.octets.proofs.Choice.{both_true, pick_true, pick_holds}
use Rattle.clock.specs.declared.Stamps.{Stamps}
use Rattle.ends.specs.Identities.{llids_of}
use Rattle.ends.specs.Records.{with_onu_clock, with_onu_keys, with_onu_first, with_onu_channels, with_travel}
use Rattle.ends.specs.Validity.{valid_onu}
use Rattle.ends.specs.declared.Identity.{Identity}
use Rattle.ends.specs.declared.Onu.{Onu}
use Rattle.protocol.specs.Headers.{no_passage}
use Rattle.protocol.specs.Replies.{silent}
use Rattle.protocol.specs.OnuCalls.{fresh_onu_of, onu_answer, onu_acknowledged, onu_advanced, advancing_onu, advance_onu_of, onu_retimed, new_time_of, onu_synced, clock_message_to, clock_message_at, key_message_to, key_message_at}
use Rattle.protocol.specs.OnuTraffic.{onu_send_choice, onu_noted, onu_after_send, sending_onu, onu_moved, onu_after_receipt, receiving_onu}
use Rattle.protocol.specs.declared.Header.{Header}
use Rattle.protocol.specs.declared.KeyChoice.{KeyChoice}
use Rattle.protocol.specs.declared.KeyChoice.TheVariants.{Clear, Current, Next, Barred}
use Rattle.protocol.specs.declared.KeyMessage.{KeyMessage}
use Rattle.protocol.specs.declared.OnuAnswer.{OnuAnswer}
use Rattle.protocol.specs.declared.OnuAcknowledged.{OnuAcknowledged}
use Rattle.protocol.proofs.Replies.{reply_keeps}
use Rattle.protocol.proofs.OnuCalls.{onu_keeps, fresh_onu_valid, clock_message_valid}
use Rattle.protocol.proofs.OnuAdvance.{advance_onu_valid}
use Rattle.protocol.proofs.NewTimes.{new_time_valid}
use Rattle.protocol.proofs.KeyMessages.{key_message_valid}
use Rattle.protocol.proofs.OnuTraffic.{sending_onu_valid, receiving_onu_valid}
use Rattle.envelope.specs.ControlMask.{eqs_of}
use Rattle.traffic.specs.Passages.{misfit}
use Rattle.traffic.specs.Sends.{onu_sent, onu_send_of}
use Rattle.traffic.specs.Receipts.{onu_received, onu_receive_of}
use Rattle.traffic.proofs.Passages.{few_eqs}
use Rattle.group_protocol.specs.Limits.{max_joined}
use Rattle.group_protocol.specs.Members.{place_from}
use Rattle.group_protocol.specs.Subscriber.{alone, fresh_joined, joined_llids, find_joined, joined_at, with_onu, with_joined, with_one_joined_more, valid_joined, valid_memberships, valid_subscriber}
use Rattle.group_protocol.specs.JoinedCalls.{JoinedOutcome, message_joined, receive_joined, no_answer, joined_choice}
use Rattle.group_protocol.specs.declared.Joined.{Joined}
use Rattle.group_protocol.specs.declared.Subscriber.{Subscriber}
use Rattle.group_protocol.proofs.JoinedCalls.{message_valid, message_llid, receipt_valid, receipt_llid}
use Rattle.group_protocol.proofs.Subscribers.{groups_none, found_place, found_valid, valid_unit-holds, valid_joins, valid_both, with_joined_unit, with_joined_valid, one_more_valid, fresh_joined_valid, alone_valid, with_onu_valid}
use Rattle.group_protocol.specs.Naming.{by_llid}
use Rattle.subscriber.specs.SubscriberCalls.{subscriber_answer, subscriber_acknowledged, onu_answered, own_answered, not_acknowledged, own_acknowledged, onu_acknowledged_in, put_joined, joined_lift, fresh_subscriber_of, join_of, subscriber_advance_of, subscriber_new_time_of, subscriber_clock_message_of, subscriber_key_message_of}
use Rattle.subscriber.specs.SubscriberTraffic.{own_sent, unit_send_of, own_send_of, subscriber_send_of, own_received, unit_receive_of, own_receive_of, subscriber_received, group_receive_of, subscriber_receive_of}
use Rattle.subscriber.specs.SubscriberClaims.{Apart, SendsAlone, ReceivesAlone}
use Rattle.subscriber.specs.declared.SubscriberAnswer.{SubscriberAnswer}
use Rattle.subscriber.specs.declared.SubscriberAcknowledged.{SubscriberAcknowledged}
use Rattle.subscriber.specs.declared.SubscriberSent.{SubscriberSent}
use Rattle.subscriber.specs.declared.SubscriberReceived.{SubscriberReceived}
use Rattle.subscriber.proofs.SubscriberLift.{join_room, join_new}

---- by the group that a call names

found_holds : {R : Type 0} (P : R → Type 0) (f : Option ℕ) (own : R) (group : ℕ → R) → (f ≡ None → P own)
    → ((i : ℕ) → f ≡ Some i → P (group i))
    → P (by_llid f own group)
unfolding by_llid
found_holds P None own group p q = p refl
found_holds P (Some i) own group p q = q i refl

module _ {H : Type 0} (s : Subscriber) (nothing : H) (call : Onu → Joined → JoinedOutcome H) (i : ℕ) where
  lift_keeps : (P : Subscriber → Type 0) → P s → P (with_joined s i (call s.onu (joined_at s i)).joined) → P (joined_lift s nothing call i).end
  unfolding joined_lift put_joined
  lift_keeps P p q = reply_keeps P _ s nothing _ _ p (λ _. q)

  -- a call on a group leaves the unit
  lift_unit : (joined_lift s nothing call i).end.onu ≡ s.onu
  lift_unit = lift_keeps (λ (x : Subscriber). x.onu ≡ s.onu) refl (with_joined_unit s i _)

  lift_valid : (llid : ℕ) → find_joined s llid ≡ Some i → valid_subscriber s ≡ true
      → (valid_joined (joined_at s i) ≡ true → valid_joined (call s.onu (joined_at s i)).joined ≡ true)
      → (call s.onu (joined_at s i)).joined.llid ≡ (joined_at s i).llid → valid_subscriber (joined_lift s nothing call i).end ≡ true
  unfolding with_joined
  lift_valid llid e v f l =
      let m = valid_joins s v in
      lift_keeps (λ (x : Subscriber). valid_subscriber x ≡ true) v
      (valid_both _ (valid_unit-holds s v) (with_joined_valid s i _ (found_place s llid i e).used l (f (found_valid s llid i m e)) m))

---- what the unit answers stands in the subscriber

module _ (s : Subscriber) where
  own_valid : (o : Onu) → valid_subscriber s ≡ true → valid_onu o ≡ true → o.identity ≡ s.onu.identity → valid_subscriber (with_onu s o) ≡ true
  unfolding with_onu
  own_valid o v u e = valid_both _ u (with_onu_valid s o e (valid_joins s v))

  -- without groups nothing of theirs is refused, and no call names one
  none_valid : s.memberships.count ≡ 0 → valid_memberships s ≡ true
  unfolding valid_memberships
  none_valid e = both_true (le-leb s.memberships.count max_joined (omega arith)) (groups_none (llids_of s.onu.identity) _ (rw e))

  none_found : (llid : ℕ) → s.memberships.count ≡ 0 → find_joined s llid ≡ None
  unfolding find_joined joined_llids place_from
  none_found llid e = rw e

  answered_valid : (r : OnuAnswer) → valid_subscriber s ≡ true → valid_onu r.onu ≡ true → r.onu.identity ≡ s.onu.identity
      → valid_subscriber (onu_answered s r).subscriber ≡ true
  unfolding onu_answered own_answered
  answered_valid r v u e =
      pick_holds (λ (x : SubscriberAnswer). valid_subscriber x.subscriber ≡ true) (valid_memberships s) _ _ (λ _. own_valid r.onu v u e) (λ _. v)

  answered_groups : (r : OnuAnswer) → (onu_answered s r).subscriber.memberships ≡ s.memberships
  unfolding onu_answered own_answered with_onu
  answered_groups r =
      pick_holds (λ (x : SubscriberAnswer). x.subscriber.memberships ≡ s.memberships) (valid_memberships s) _ _ (λ _. refl) (λ _. refl)

  acknowledged_valid : (r : OnuAcknowledged) → valid_subscriber s ≡ true → valid_onu r.onu ≡ true → r.onu.identity ≡ s.onu.identity
      → valid_subscriber (onu_acknowledged_in s r).subscriber ≡ true
  unfolding onu_acknowledged_in own_acknowledged not_acknowledged
  acknowledged_valid r v u e =
      pick_holds (λ (x : SubscriberAcknowledged). valid_subscriber x.subscriber ≡ true) (valid_memberships s) _ _
      (λ _. own_valid r.onu v u e) (λ _. v)

  acknowledged_groups : (r : OnuAcknowledged) → (onu_acknowledged_in s r).subscriber.memberships ≡ s.memberships
  unfolding onu_acknowledged_in own_acknowledged not_acknowledged with_onu
  acknowledged_groups r =
      pick_holds (λ (x : SubscriberAcknowledged). x.subscriber.memberships ≡ s.memberships) (valid_memberships s) _ _ (λ _. refl) (λ _. refl)

  acknowledged_alone : (r : OnuAcknowledged) → s.memberships.count ≡ 0 → onu_acknowledged_in s r ≡ own_acknowledged s r
  unfolding onu_acknowledged_in
  acknowledged_alone r e = pick_true _ _ (none_valid e)

---- fresh, join

pub valid_after_fresh : (i : Identity) (oltmac time : ℕ) → (fresh_subscriber_of i oltmac time).number ≡ 0
    → valid_subscriber (fresh_subscriber_of i oltmac time).subscriber ≡ true
unfolding fresh_subscriber_of alone
valid_after_fresh i oltmac time e = valid_both _ (fresh_onu_valid i oltmac time e) (alone_valid (fresh_onu_of i oltmac time).onu)

pub valid_after_join : (s : Subscriber) (llid : ℕ) → length s.memberships.table ≡ max_joined → valid_subscriber s ≡ true
    → valid_subscriber (join_of s llid).subscriber ≡ true
unfolding join_of subscriber_answer with_one_joined_more fresh_joined
valid_after_join s llid l v =
    reply_keeps (λ (x : Subscriber). valid_subscriber x ≡ true) _ s silent _ silent v
    (λ a.
    let held = join_new s llid a in
    let room = join_room s llid a in
    valid_both _ (valid_unit-holds s v)
    (one_more_valid s (fresh_joined llid) room (omega arith) held.1 held.0 (fresh_joined_valid llid) (valid_joins s v)))

---- advance, a new LocalTime, clock message

pub advance_identity : (o : Onu) (n : ℕ) → (advance_onu_of o n).onu.identity ≡ o.identity
unfolding advance_onu_of advancing_onu onu_answer onu_advanced
advance_identity o n = onu_keeps (λ (p : Onu). p.identity ≡ o.identity) o silent _ _ silent refl (λ _ _. refl)

pub valid_after_advance : (s : Subscriber) (n : ℕ) → valid_subscriber s ≡ true → valid_subscriber (subscriber_advance_of s n).subscriber ≡ true
unfolding subscriber_advance_of
valid_after_advance s n v = answered_valid s _ v (advance_onu_valid s.onu n (valid_unit-holds s v)) (advance_identity s.onu n)

pub advance_told : (s : Subscriber) (n : ℕ) (r : SubscriberAnswer) → r ≡ subscriber_advance_of s n
    → (r ≡ subscriber_advance_of s n)
    × ((r.subscriber.memberships ≡ s.memberships) × (s.memberships.count ≡ 0 → r ≡ own_answered s (advance_onu_of s.onu n)))
unfolding subscriber_advance_of onu_answered
advance_told s n r e = (e, (rw e (answered_groups s _), λ none. e ∙ pick_true _ _ (none_valid s none)))

pub new_time_identity : (o : Onu) (time : ℕ) → (new_time_of o time).onu.identity ≡ o.identity
unfolding new_time_of onu_answer onu_retimed with_onu_clock with_travel
new_time_identity o time = onu_keeps (λ (p : Onu). p.identity ≡ o.identity) o silent _ _ silent refl (λ _ _. refl)

pub valid_after_new_time : (s : Subscriber) (time : ℕ) → valid_subscriber s ≡ true
    → valid_subscriber (subscriber_new_time_of s time).subscriber ≡ true
unfolding subscriber_new_time_of
valid_after_new_time s time v = answered_valid s _ v (new_time_valid s.onu time (valid_unit-holds s v)) (new_time_identity s.onu time)

pub new_time_told : (s : Subscriber) (time : ℕ) (r : SubscriberAnswer) → r ≡ subscriber_new_time_of s time
    → (r ≡ subscriber_new_time_of s time)
    × ((r.subscriber.memberships ≡ s.memberships) × (s.memberships.count ≡ 0 → r ≡ own_answered s (new_time_of s.onu time)))
unfolding subscriber_new_time_of onu_answered
new_time_told s time r e = (e, (rw e (answered_groups s _), λ none. e ∙ pick_true _ _ (none_valid s none)))

pub clock_identity : (o : Onu) (m : Stamps) → (clock_message_at o m).onu.identity ≡ o.identity
unfolding clock_message_at clock_message_to onu_acknowledged onu_synced with_onu_clock
clock_identity o m = onu_keeps (λ (p : Onu). p.identity ≡ o.identity) o _ _ _ _ refl (λ _ _. refl)

pub valid_after_clock_message : (s : Subscriber) (m : Stamps) → valid_subscriber s ≡ true
    → valid_subscriber (subscriber_clock_message_of s m).subscriber ≡ true
unfolding subscriber_clock_message_of
valid_after_clock_message s m v = acknowledged_valid s _ v (clock_message_valid s.onu m (valid_unit-holds s v)) (clock_identity s.onu m)

pub clock_message_told : (s : Subscriber) (m : Stamps) (r : SubscriberAcknowledged) → r ≡ subscriber_clock_message_of s m
    → (r ≡ subscriber_clock_message_of s m)
    × ((r.subscriber.memberships ≡ s.memberships) × (s.memberships.count ≡ 0 → r ≡ own_acknowledged s (clock_message_at s.onu m)))
unfolding subscriber_clock_message_of
clock_message_told s m r e = (e, (rw e (acknowledged_groups s _), λ none. e ∙ acknowledged_alone s _ none))

---- key message

pub key_identity : (o : Onu) (m : KeyMessage) → (key_message_at o m).onu.identity ≡ o.identity
unfolding key_message_at key_message_to onu_acknowledged with_onu_keys
key_identity o m = onu_keeps (λ (p : Onu). p.identity ≡ o.identity) o _ _ _ _ refl (λ _ _. refl)

module _ (s : Subscriber) (m : KeyMessage) where
  pub valid_after_key_message : valid_subscriber s ≡ true → valid_subscriber (subscriber_key_message_of s m).subscriber ≡ true
  unfolding subscriber_key_message_of subscriber_acknowledged message_joined
  valid_after_key_message v =
      found_holds (λ (x : SubscriberAcknowledged). valid_subscriber x.subscriber ≡ true) (find_joined s m.llid) _ _
      (λ _. acknowledged_valid s _ v (key_message_valid s.onu m (valid_unit-holds s v)) (key_identity s.onu m))
      (λ i e. lift_valid s no_answer (message_joined m) i m.llid e v (λ w. message_valid (joined_at s i) w m) (message_llid (joined_at s i) m))

  key_message_apart : Apart s (subscriber_key_message_of s m).subscriber (find_joined s m.llid)
  unfolding subscriber_key_message_of subscriber_acknowledged by_llid
  key_message_apart =
      record {
        unit = λ i e. rw e (lift_unit s no_answer (message_joined m) i);
        groups = λ e. rw e (acknowledged_groups s _);
      }

  key_message_alone : s.memberships.count ≡ 0 → subscriber_key_message_of s m ≡ own_acknowledged s (key_message_at s.onu m)
  unfolding subscriber_key_message_of by_llid
  key_message_alone none = rw (none_found s m.llid none) (acknowledged_alone s _ none)

  pub key_message_told : (r : SubscriberAcknowledged) → r ≡ subscriber_key_message_of s m
      → (r ≡ subscriber_key_message_of s m)
      × (Apart s r.subscriber (find_joined s m.llid) × (s.memberships.count ≡ 0 → r ≡ own_acknowledged s (key_message_at s.onu m)))
  key_message_told r e = (e, (rw e key_message_apart, λ none. e ∙ key_message_alone none))

---- send

noted_identity : (k : KeyChoice) (eqs : ℕ) (o : Onu) → (onu_noted k eqs o).identity ≡ o.identity
unfolding onu_noted with_onu_first with_travel
noted_identity Clear eqs o = refl
noted_identity (Current n) eqs o = refl
noted_identity (Next n) eqs o = refl
noted_identity (Barred r) eqs o = refl

pub send_identity : (o : Onu) (llid channel : ℕ) (p out : List ℕ) → (onu_send_of o llid channel p out).answer.onu.identity ≡ o.identity
unfolding onu_send_of onu_sent sending_onu onu_after_send with_onu_channels
send_identity o llid channel p out =
    onu_keeps (λ (x : Onu). x.identity ≡ o.identity) o _ _ _ _ refl (λ _ _. noted_identity (onu_send_choice o.keys) (eqs_of p) o)

module _ (s : Subscriber) (llid channel : ℕ) (p out : List ℕ) where
  own_send_valid : valid_subscriber s ≡ true → valid_subscriber (own_send_of s llid channel p out).answer.subscriber ≡ true
  unfolding own_send_of unit_send_of own_sent onu_send_of onu_sent
  own_send_valid v =
      pick_holds (λ (x : WithOutput SubscriberSent). valid_subscriber x.answer.subscriber ≡ true) (valid_memberships s) _ _
      (λ _.
      own_valid s _ v (sending_onu_valid s.onu (misfit p out) llid channel (eqs_of p) (few_eqs p out) (valid_unit-holds s v))
      (send_identity s.onu llid channel p out))
      (λ _. v)

  pub valid_after_send : valid_subscriber s ≡ true → valid_subscriber (subscriber_send_of s llid channel p out).answer.subscriber ≡ true
  unfolding subscriber_send_of
  valid_after_send v =
      found_holds (λ (x : WithOutput SubscriberSent). valid_subscriber x.answer.subscriber ≡ true) (find_joined s llid) _ _
      (λ _. own_send_valid v) (λ i e. v)

  own_send_groups : (own_send_of s llid channel p out).answer.subscriber.memberships ≡ s.memberships
  unfolding own_send_of unit_send_of own_sent with_onu
  own_send_groups =
      pick_holds (λ (x : WithOutput SubscriberSent). x.answer.subscriber.memberships ≡ s.memberships) (valid_memberships s) _ _ (λ _. refl) (λ _. refl)

  send_apart : Apart s (subscriber_send_of s llid channel p out).answer.subscriber (find_joined s llid)
  unfolding subscriber_send_of by_llid
  send_apart = record { unit = λ i e. rw e refl; groups = λ e. rw e own_send_groups }

  pub send_told : (r : WithOutput SubscriberSent) → r ≡ subscriber_send_of s llid channel p out
      → (r ≡ subscriber_send_of s llid channel p out) × (Apart s r.answer.subscriber (find_joined s llid) × SendsAlone s llid channel p out r)
  unfolding subscriber_send_of own_send_of by_llid
  send_told r e =
      (e, (rw e send_apart, record { alone = λ none. e ∙ rw (none_found s llid none) (pick_true _ _ (none_valid s none)) }))

---- receive

moved_identity : (k : KeyChoice) (o : Onu) → (onu_after_receipt k o).identity ≡ o.identity
unfolding onu_after_receipt onu_moved with_onu_first with_onu_keys
moved_identity Clear o = refl
moved_identity (Current n) o = refl
moved_identity (Next n) o = refl
moved_identity (Barred r) o = refl

pub receive_identity : (o : Onu) (h : Header) (p out : List ℕ) → (onu_receive_of o h p out).answer.onu.identity ≡ o.identity
unfolding onu_receive_of onu_received receiving_onu
receive_identity o h p out = onu_keeps (λ (x : Onu). x.identity ≡ o.identity) o _ _ _ _ refl (λ _ _. moved_identity _ o)

module _ (s : Subscriber) (h : Header) (p out : List ℕ) where
  own_receive_valid : valid_subscriber s ≡ true → valid_subscriber (own_receive_of s h p out).answer.subscriber ≡ true
  unfolding own_receive_of unit_receive_of own_received onu_receive_of onu_received
  own_receive_valid v =
      pick_holds (λ (x : WithOutput SubscriberReceived). valid_subscriber x.answer.subscriber ≡ true) (valid_memberships s) _ _
      (λ _. own_valid s _ v (receiving_onu_valid s.onu (misfit p out) h (valid_unit-holds s v)) (receive_identity s.onu h p out)) (λ _. v)

  own_receive_groups : (own_receive_of s h p out).answer.subscriber.memberships ≡ s.memberships
  unfolding own_receive_of unit_receive_of own_received with_onu
  own_receive_groups =
      pick_holds (λ (x : WithOutput SubscriberReceived). x.answer.subscriber.memberships ≡ s.memberships) (valid_memberships s) _ _ (λ _. refl)
      (λ _. refl)

  pub valid_after_receive : valid_subscriber s ≡ true → valid_subscriber (subscriber_receive_of s h p out).answer.subscriber ≡ true
  unfolding subscriber_receive_of group_receive_of subscriber_received receive_joined
  valid_after_receive v =
      found_holds (λ (x : WithOutput SubscriberReceived). valid_subscriber x.answer.subscriber ≡ true) (find_joined s h.llid) _ _
      (λ _. own_receive_valid v)
      (λ i e.
      lift_valid s no_passage (receive_joined (misfit p out) h) i h.llid e v
      (λ w. receipt_valid (joined_at s i) w (joined_choice (joined_at s i) h)) (receipt_llid (joined_choice (joined_at s i) h) (joined_at s i)))

  receive_apart : Apart s (subscriber_receive_of s h p out).answer.subscriber (find_joined s h.llid)
  unfolding subscriber_receive_of group_receive_of subscriber_received by_llid
  receive_apart =
      record {
        unit = λ i e. rw e (lift_unit s no_passage (receive_joined (misfit p out) h) i);
        groups = λ e. rw e own_receive_groups;
      }

  receive_alone : s.memberships.count ≡ 0 → subscriber_receive_of s h p out ≡ unit_receive_of s h p out
  unfolding subscriber_receive_of own_receive_of by_llid
  receive_alone none = rw (none_found s h.llid none) (pick_true _ _ (none_valid s none))

  pub receive_told : (r : WithOutput SubscriberReceived) → r ≡ subscriber_receive_of s h p out
      → (r ≡ subscriber_receive_of s h p out)
      × (Apart s r.answer.subscriber (find_joined s h.llid) × ReceivesAlone s h p out r)
  receive_told r e = (e, (rw e receive_apart, record { alone = λ none. e ∙ receive_alone none }))
