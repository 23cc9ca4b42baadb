-- The calls of a unit on its own line keep the invariant. Assumes nothing.
use Rattle.std.specs.Prelude.{Option, Some, None}
use mathlib.Core.Path.{◌≡◌, refl, ◌∙◌, ap}
use mathlib.Core.Bool.{Bool, true}
use mathlib.Core.List.{List}
use Prim.Native.Nat.{ℕ}
use native.Mathlib.Omega.{arith}
use lib.ListN.{length-set}
use lib.Seq.{set-get_or}
use borrow.Author.Tests.{ne_eqb}
use Rattle.octets.specs.Output.{WithOutput}
use Rattle.octets.proofs.Choice.{pick_false}
use Rattle.refusal.specs.Number.{verdict_number}
use Rattle.refusal.proofs.Order.{refuse_accepted, refused_accepts}
use Rattle.refusal.proofs.Numbers.{number_accepted}
use Rattle.ends.specs.Identities.{has}
use Rattle.protocol.specs.Headers.{envelope_header}
use Rattle.protocol.specs.declared.Header.{Header}
use Rattle.traffic.specs.Passages.{misfit}
use Rattle.traffic.specs.Sends.{onu_send_of}
use Rattle.group_protocol.specs.Subscriber.{find_joined, with_onu}
use Rattle.group_protocol.specs.declared.Subscriber.{Subscriber}
use Rattle.group_protocol.specs.Naming.{by_llid}
use Rattle.subscriber.specs.SubscriberCalls.{subscriber_clock_message_of, subscriber_key_message_of}
use Rattle.subscriber.specs.SubscriberTraffic.{group_send_verdict, subscriber_send_of}
use Rattle.subscriber.specs.declared.SubscriberAcknowledged.{SubscriberAcknowledged}
use Rattle.subscriber.specs.declared.SubscriberSent.{SubscriberSent}
use Rattle.subscriber.proofs.SubscriberSteps.{send_identity, clock_identity, key_identity, receive_identity}
use Rattle.unicast.specs.Setting.{Setting}
use Rattle.unicast.specs.History.{InFlight, clock_message, key_message, envelope, Entry, Lane, lane_with, lane_sent_up, lane_taken, lane_answered, lane_arrived_down}
use Rattle.unicast.specs.Events as events
use Rattle.unicast.specs.Run as run
use Rattle.unicast.specs.Run.{lane_at, onu_at, at_onu, noted, fresh_lane, no_site, with_lanes, in_flight_at}
use Rattle.unicast.specs.Premises.{DueDown}
use Rattle.unicast.proofs.Invariant as units
use Rattle.unicast.proofs.Alive.{Alive, towards_alive}
use Rattle.unicast.proofs.Stays.{noted_keeps}
use Rattle.unicast.proofs.Queues.{towards_taken}
use Rattle.unicast.proofs.Theorem.{step_right}
use Rattle.line.specs.Events.{send_up, arrive_down}
use Rattle.line.specs.Run.{State, alone, subscriber_at, no_subscriber, at_unit, at_unit_alone, sending_up, message_arriving, receipt_down, in_flight_arriving, step}
use Rattle.line.specs.Premises.{Fits}
use Rattle.line.proofs.Invariant.{Invariant}
use Rattle.line.proofs.Alone.{onu_alone}
use Rattle.line.proofs.AloneUnit.{clock_message_onu, key_message_onu, send_onu, receive_onu, send_up_alone, clock_alone, key_alone, envelope_alone}
use Rattle.line.proofs.Beside.{Beside, UnitKept, with_onu_kept, unit_itself, beside_right}
use Rattle.line.proofs.Lines.{own_nowhere, memberships_right}
use Rattle.line.proofs.Places.{set_field, set_holds}

---- a unit and its own line replaced

own_beside : (w : Setting) (s : State) (u : ℕ) (x : Subscriber) (f : Lane → Lane) → Invariant w s → UnitKept (subscriber_at s u) x
    → (f (lane_at (alone s) u)).site ≡ (lane_at (alone s) u).site → (f (lane_at (alone s) u)).entry ≡ (lane_at (alone s) u).entry
    → Beside s (at_unit_alone s u x f)
unfolding at_unit_alone at_unit alone at_onu with_lanes
own_beside w s u x f i k site entry =
    let ls = s.history.units.lanes in
    let l = f (lane_at (alone s) u) in
    record {
      groups = refl;
      valid = i.valid;
      rises = λ c. omega arith;
      ticks = refl;
      paired = length-set ls u l;
      site = set_field (λ (y : Lane). y.site) ls u l (fresh_lane no_site) site;
      entry = λ v e. ap (λ (y : Entry). y.registered) (set_field (λ (y : Lane). y.entry) ls u l (fresh_lane no_site) entry v) ∙ e;
      unit = set_holds (λ (v : ℕ) (y : Subscriber). UnitKept (subscriber_at s v) y) s.subscribers u x no_subscriber (λ v. unit_itself (subscriber_at s v))
          k;
      joined = refl;
      lines = refl;
    }

offers_stay : (s : State) (u : ℕ) (x : Subscriber) (f : Lane → Lane) → (f (lane_at (alone s) u)).keys.offers ≡ (lane_at (alone s) u).keys.offers
    → (v : ℕ)
    → (lane_at (alone (at_unit_alone s u x f)) v).keys.offers ≡ (lane_at (alone s) v).keys.offers
unfolding at_unit_alone at_unit alone at_onu with_lanes
offers_stay s u x f e = set_field (λ (y : Lane). y.keys.offers) s.history.units.lanes u (f (lane_at (alone s) u)) (fresh_lane no_site) e

pub own_right : (w : Setting) (s : State) (u : ℕ) (x : Subscriber) (f : Lane → Lane) → Invariant w s → UnitKept (subscriber_at s u) x
    → (f (lane_at (alone s) u)).site ≡ (lane_at (alone s) u).site → (f (lane_at (alone s) u)).entry ≡ (lane_at (alone s) u).entry
    → (f (lane_at (alone s) u)).keys.offers ≡ (lane_at (alone s) u).keys.offers → units.Invariant w (alone (at_unit_alone s u x f))
    → Invariant w (at_unit_alone s u x f)
own_right w s u x f i k site entry offers v =
    beside_right w s (at_unit_alone s u x f) i (own_beside w s u x f i k site entry) v
    (λ y g m n p q e. let stay = offers_stay s u x f offers y in i.mixed y g m n (rw stay at p) q (rw stay at e))

-- nothing of either changes
pub own_unchanged : (s : State) (u : ℕ) (x : Subscriber) (f : Lane → Lane) → x ≡ subscriber_at s u → f (lane_at (alone s) u) ≡ lane_at (alone s) u
    → at_unit_alone s u x f ≡ s
unfolding at_unit_alone at_unit alone at_onu with_lanes
own_unchanged s u x f e g =
    rw (e, g, set-get_or s.subscribers u no_subscriber, set-get_or s.history.units.lanes u (fresh_lane no_site))

---- a send: on the LLID of a group that the unit joined it is refused

group_send_refused : {P : Type 0} (x : Subscriber) (channel : ℕ) (m : Bool) → verdict_number (group_send_verdict x channel m) ≡ 0 → P
unfolding group_send_verdict
group_send_refused x channel m e =
    let a = refuse_accepted _ _ _ (number_accepted _ e) in
    let b = refuse_accepted _ _ _ a.1 in
    refused_accepts _ (refuse_accepted _ _ _ b.1).1

joined_send_up : (s : State) (u llid channel : ℕ) (p out : List ℕ) (k : ℕ) → find_joined (subscriber_at s u) llid ≡ Some k
    → step s (send_up u llid channel p out) ≡ s
unfolding step sending_up subscriber_send_of by_llid noted
joined_send_up s u llid channel p out k found =
    rw found
    (own_unchanged s u (subscriber_at s u) _ refl
    (pick_false _ _ (ne_eqb _ 0 (λ e. group_send_refused (subscriber_at s u) channel (misfit p out) e))))

unit_send_up_right : (w : Setting) (s : State) (u llid channel : ℕ) (p out : List ℕ) → Invariant w s
    → Fits w s (send_up u llid channel p out) → find_joined (subscriber_at s u) llid ≡ None → Invariant w (step s (send_up u llid channel p out))
unfolding step sending_up with_onu lane_sent_up lane_with
unit_send_up_right w s u llid channel p out i fits none =
    let x = subscriber_at s u in
    let v = memberships_right w s i u in
    let is = send_onu x v llid channel p out none in
    let fit : (onu_send_of (onu_at (alone s) u) llid channel p out).answer.number ≡ 0 → (lane_at (alone s) u).entry.registered ≡ true =
    λ z. fits (ap (λ (r : WithOutput SubscriberSent). r.answer.number) is ∙ rw (onu_alone s u) at z) in
    own_right w s u _ _ i (rw is (with_onu_kept x _ (send_identity x.onu llid channel p out)))
    (noted_keeps (λ (l : Lane). l.site) _ _ (lane_at (alone s) u) refl) (noted_keeps (λ (l : Lane). l.entry) _ _ (lane_at (alone s) u) refl)
    (noted_keeps (λ (l : Lane). l.keys.offers) _ _ (lane_at (alone s) u) refl)
    (rw (send_up_alone s u v llid channel p out none) (step_right w (alone s) (events.send_up u llid channel p out) i.units fit))

pub send_up_right : (w : Setting) (s : State) (u llid channel : ℕ) (p out : List ℕ) → Invariant w s
    → Fits w s (send_up u llid channel p out) → Invariant w (step s (send_up u llid channel p out))
send_up_right w s u llid channel p out i fits = by_found (find_joined (subscriber_at s u) llid) refl where
  x : Subscriber
  x = subscriber_at s u

  by_found : (f : Option ℕ) → find_joined x llid ≡ f → Invariant w (step s (send_up u llid channel p out))
  by_found None none = unit_send_up_right w s u llid channel p out i fits none
  by_found (Some k) found = rw (joined_send_up s u llid channel p out k found) i

---- what arrives of its own

-- a message, taken or refused
message_right : (w : Setting) (s : State) (u k : ℕ) (r : SubscriberAcknowledged) → Invariant w s → UnitKept (subscriber_at s u) r.subscriber
    → units.Invariant w (alone (message_arriving s u k r)) → Invariant w (message_arriving s u k r)
unfolding message_arriving lane_answered lane_taken lane_with
message_right w s u k r i kept v =
    let l = lane_taken k (lane_at (alone s) u) in
    own_right w s u r.subscriber _ i kept (noted_keeps (λ (y : Lane). y.site) _ _ l refl) (noted_keeps (λ (y : Lane). y.entry) _ _ l refl)
    (noted_keeps (λ (y : Lane). y.keys.offers) _ _ l refl) v

module _ (w : Setting) (s : State) (u k : ℕ) (out : List ℕ) (i : Invariant w s) (d : DueDown (alone s) u k out) where
  own_alive : Alive w (alone s) u
  own_alive = towards_alive w (alone s) u i.units k d.some

  in_flight_right : (x : InFlight) → in_flight_at (alone s) u k ≡ x → units.Invariant w (run.in_flight_arriving (alone s) u k out x)
      → Invariant w (in_flight_arriving s u k out x)
  unfolding in_flight_arriving with_onu lane_arrived_down lane_taken lane_with envelope_header
  in_flight_right (clock_message m c t) e right =
      let x = subscriber_at s u in
      let v = memberships_right w s i u in
      message_right w s u k (subscriber_clock_message_of x m) i
      (rw (clock_message_onu x v m) (with_onu_kept x _ (clock_identity x.onu m)))
      (rw (clock_alone s u v k out m c t) right)
  in_flight_right (key_message m t) e right =
      let x = subscriber_at s u in
      let v = memberships_right w s i u in
      let j = own_alive.joined in
      let r = (towards_taken w.first (lane_at (alone s) u).path (lane_at (alone s) u) _ _ _ (lane_at (alone s) u).transit.towards k _ (key_message m t)
      d.some e j.towards).0 in
      let none = own_nowhere w s i u m.llid own_alive r.named in
      message_right w s u k (subscriber_key_message_of x m) i
      (rw (key_message_onu x v m none) (with_onu_kept x _ (key_identity x.onu m)))
      (rw (key_alone s u v k out m t none) right)
  in_flight_right (envelope y) e right =
      let x = subscriber_at s u in
      let v = memberships_right w s i u in
      let j = own_alive.joined in
      let r = (towards_taken w.first (lane_at (alone s) u).path (lane_at (alone s) u) _ _ _ (lane_at (alone s) u).transit.towards k _ (envelope y)
      d.some e j.towards).0 in
      let none = own_nowhere w s i u y.header.llid own_alive
      (ap (λ (h : Header). has (lane_at (alone s) u).site.identity h.llid) (j.passing.sent y r.sent).header ∙ r.named) in
      own_right w s u _ (λ l. lane_arrived_down (receipt_down s u y out) (lane_taken k l)) i
      (rw (receive_onu x v y.header y.octets out none) (with_onu_kept x _ (receive_identity x.onu y.header y.octets out)))
      refl refl refl
      (rw (envelope_alone s u v k out y none) right)

pub arrive_down_right : (w : Setting) (s : State) (u k : ℕ) (out : List ℕ) → Invariant w s → Fits w s (arrive_down u k out)
    → Invariant w (step s (arrive_down u k out))
unfolding step run.step
arrive_down_right w s u k out i d =
    in_flight_right w s u k out i d (in_flight_at (alone s) u k) refl (step_right w (alone s) (events.arrive_down u k out) i.units d)
