-- What stays of a group's line and of its members while what was sent to it arrives. Assumes nothing.
use mathlib.Core.Path.{◌≡◌, refl, ◌∙◌, ap}
use mathlib.Core.Bool.{Bool, true, false}
use mathlib.Core.List.Memᴰ
use mathlib.Core.List.{List, [], ◌∷◌, Memᴰ}
use Prim.Native.Nat.{ℕ, ◌+◌, ◌<◌, ◌≤◌}
use native.Mathlib.Omega.{arith}
use lib.ListN.{length, get_or, set, length-set}
use lib.Seq.{get_or-set_same}
use Rattle.octets.specs.Choice.{pick}
use Rattle.clock.specs.Ticks.{max_tick}
use Rattle.ends.specs.Identities.{among}
use Rattle.protocol.specs.OltCalls.{olt_advanced, shared_advanced}
use Rattle.protocol.specs.declared.KeyMessage.{KeyMessage}
use Rattle.protocol.proofs.Replies.{advance_accepts}
use Rattle.group_protocol.specs.declared.Subscriber.{Subscriber}
use Rattle.group_protocol.proofs.HeadValidity.{head_valid}
use Rattle.headend.specs.HeadCalls.{head_advanced}
use Rattle.subscriber.specs.declared.SubscriberAcknowledged.{SubscriberAcknowledged}
use Rattle.headend.proofs.HeadGrowth.{advance_moves}
use Rattle.unicast.specs.Setting.{Setting}
use Rattle.unicast.specs.History.{Envelope, InFlight, envelope, Lane}
use Rattle.unicast.specs.Run.{accepted, lane_at, fresh_lane, no_site}
use Rattle.line.specs.History.{GroupArrival, GroupLane, Membership, is_joined, has_taken, taking, group_with, group_taken, group_answered, group_arrived}
use Rattle.line.specs.Events.{advance, arrive_group}
use Rattle.line.specs.Run.{State, alone, joined_by, group_lane_at, no_group_lane, group_in_flight_at, now, lanes, at_unit, advancing, group_message_arriving, group_receipt, group_in_flight_arriving, step}
use Rattle.line.proofs.Arriving.{taken_others}
use Rattle.line.proofs.Invariant.{Invariant}
use Rattle.line.proofs.Places.{set_field, set_holds}
use Rattle.line.proofs.Taken.{taking_llids, taking_stays, taking_new}

-- the units' own lines, and what the OLT did; what arrived and what was taken only grows
pub record Stays (g : ℕ) (s t : State) : Type 0 where
  pub units : lanes t ≡ lanes s
  pub count : length t.history.groups ≡ length s.history.groups
  pub llid : (group_lane_at t g).llid ≡ (group_lane_at s g).llid
  pub entry : (group_lane_at t g).entry ≡ (group_lane_at s g).entry
  pub roster : (group_lane_at t g).roster ≡ (group_lane_at s g).roster
  pub keys : (group_lane_at t g).keys ≡ (group_lane_at s g).keys
  pub sent : (group_lane_at t g).sent ≡ (group_lane_at s g).sent
  pub arrived : (r : GroupArrival) → Memᴰ r (group_lane_at s g).arrived → Memᴰ r (group_lane_at t g).arrived
  pub joined : (u llid : ℕ) → is_joined (joined_by t u) llid ≡ is_joined (joined_by s u) llid
  pub took : (u llid n : ℕ) → has_taken (joined_by s u) llid n ≡ true → has_taken (joined_by t u) llid n ≡ true

pub stays_itself : (g : ℕ) (s : State) → Stays g s s
stays_itself g s =
    record {
      units = refl;
      count = refl;
      llid = refl;
      entry = refl;
      roster = refl;
      keys = refl;
      sent = refl;
      arrived = λ r m. m;
      joined = λ u llid. refl;
      took = λ u llid n e. e;
    }

pub stays_then : (g : ℕ) (r s t : State) → Stays g r s → Stays g s t → Stays g r t
stays_then g r s t a b =
    record {
      units = b.units ∙ a.units;
      count = b.count ∙ a.count;
      llid = b.llid ∙ a.llid;
      entry = b.entry ∙ a.entry;
      roster = b.roster ∙ a.roster;
      keys = b.keys ∙ a.keys;
      sent = b.sent ∙ a.sent;
      arrived = λ x m. b.arrived x (a.arrived x m);
      joined = λ u llid. b.joined u llid ∙ a.joined u llid;
      took = λ u llid n e. b.took u llid n (a.took u llid n e);
    }

pub same_lane : (s t : State) → lanes t ≡ lanes s → (u : ℕ) → lane_at (alone t) u ≡ lane_at (alone s) u
unfolding alone
same_lane s t e u = ap (λ (ls : List Lane). get_or ls u (fresh_lane no_site)) e

---- an advance

pub advance_stays : (g : ℕ) (s : State) (n : ℕ) → Stays g s (step s (advance n))
unfolding step advancing
advance_stays g s n =
    record {
      units = refl;
      count = refl;
      llid = refl;
      entry = refl;
      roster = refl;
      keys = refl;
      sent = refl;
      arrived = λ r m. m;
      joined = λ u llid. refl;
      took = λ u llid n e. e;
    }

pub advance_groups : (s : State) (n : ℕ) → (step s (advance n)).history.groups ≡ s.history.groups
unfolding step advancing
advance_groups s n = refl

module _ (w : Setting) (s : State) (n : ℕ) (i : Invariant w s) (most : now s + n ≤ max_tick) where
  pub advance_tick : now (step s (advance n)) ≡ now s + n
  unfolding step advancing pick alone
  advance_tick =
      rw (advance_moves s.head n (head_valid s.head (record { olt = i.units.valid; groups = i.valid }))
      (advance_accepts s.head.olt.shared.tick n (omega (arith, most, i.units.shared.tick))))

  pub advance_channels : (step s (advance n)).head.olt.shared.channels ≡ s.head.olt.shared.channels
  unfolding step advancing alone head_advanced olt_advanced shared_advanced
  advance_channels =
      rw (advance_moves s.head n (head_valid s.head (record { olt = i.units.valid; groups = i.valid }))
      (advance_accepts s.head.olt.shared.tick n (omega (arith, most, i.units.shared.tick))))

---- something of the group arrives at unit u

pub record Comes (g u : ℕ) (s t : State) : Type 0 where
  pub stays : Stays g s t
  pub tick : now t ≡ now s
  pub others : (v : ℕ) → (v ≡ u → ⊥) → get_or (group_lane_at t g).towards v [] ≡ get_or (group_lane_at s g).towards v []

pub arrives_as : (s : State) (u g k : ℕ) (out : List ℕ) (x : InFlight) → group_in_flight_at s u g k ≡ x
    → step s (arrive_group u g k out) ≡ group_in_flight_arriving s u g k out x
unfolding step
arrives_as s u g k out x e = ap (group_in_flight_arriving s u g k out) e

module _ (s : State) (u g : ℕ) (known : g < length s.history.groups) where
  abbrev lane : GroupLane
  lane = group_lane_at s g

  comes : (x : Subscriber) (js : List (List Membership)) (l : GroupLane) → l.llid ≡ lane.llid → l.entry ≡ lane.entry
      → l.roster ≡ lane.roster → l.keys ≡ lane.keys → l.sent ≡ lane.sent
      → ((r : GroupArrival) → Memᴰ r lane.arrived → Memᴰ r l.arrived)
      → ((v : ℕ) → (v ≡ u → ⊥) → get_or l.towards v [] ≡ get_or lane.towards v [])
      → ((v llid : ℕ) → is_joined (get_or js v []) llid ≡ is_joined (joined_by s v) llid)
      → ((v llid n : ℕ) → has_taken (joined_by s v) llid n ≡ true → has_taken (get_or js v []) llid n ≡ true)
      → Comes g u s (at_unit s u x s.history.units js (set s.history.groups g l))
  unfolding at_unit
  comes x js l llid entry roster keys sent arrived others joined took =
      let line = get_or-set_same s.history.groups g l no_group_lane known in
      record {
        stays =
            record {
              units = refl;
              count = length-set s.history.groups g l;
              llid = ap (λ (y : GroupLane). y.llid) line ∙ llid;
              entry = ap (λ (y : GroupLane). y.entry) line ∙ entry;
              roster = ap (λ (y : GroupLane). y.roster) line ∙ roster;
              keys = ap (λ (y : GroupLane). y.keys) line ∙ keys;
              sent = ap (λ (y : GroupLane). y.sent) line ∙ sent;
              arrived = λ r m. rw line (arrived r m);
              joined = joined;
              took = took;
            };
        tick = refl;
        others = λ v n. ap (λ (y : GroupLane). get_or y.towards v []) line ∙ others v n;
      }

  ---- a key message

  taking_joined : (llid n v x : ℕ) → is_joined (get_or (set s.history.joined u (taking llid n (joined_by s u))) v []) x ≡ is_joined (joined_by s v) x
  unfolding is_joined
  taking_joined llid n v x =
      set_field (λ (ms : List Membership). is_joined ms x) s.history.joined u (taking llid n (joined_by s u)) []
      (ap (among x) (taking_llids llid n (joined_by s u))) v

  taking_took : (llid n v x k : ℕ) → has_taken (joined_by s v) x k ≡ true
      → has_taken (get_or (set s.history.joined u (taking llid n (joined_by s u))) v []) x k ≡ true
  taking_took llid n v x k =
      set_holds (λ (y : ℕ) (ms : List Membership). has_taken (joined_by s y) x k ≡ true → has_taken ms x k ≡ true) s.history.joined u
      (taking llid n (joined_by s u)) [] (λ y e. e) (taking_stays llid n x k (joined_by s u)) v

  pub message_comes : (k : ℕ) (m : KeyMessage) (r : SubscriberAcknowledged) → Comes g u s (group_message_arriving s u g k m r)
  unfolding group_message_arriving pick group_answered group_taken group_with
  message_comes k m r = by_test (accepted r.number) where
    by_test : (t : Bool) → Comes g u s (at_unit s u r.subscriber s.history.units
        (pick t (set s.history.joined u (taking m.llid m.number (joined_by s u))) s.history.joined)
        (set s.history.groups g
        (pick t (group_answered (record { unit = u; answer = r.answer; tick = now s }) (group_taken u k lane)) (group_taken u k lane))))
    by_test true =
        comes _ _ _ refl refl refl refl refl (λ a p. p) (taken_others s u g k) (taking_joined m.llid m.number) (taking_took m.llid m.number)
    by_test false = comes _ _ _ refl refl refl refl refl (λ a p. p) (taken_others s u g k) (λ v llid. refl) (λ v llid n e. e)

  pub message_took : (k : ℕ) (m : KeyMessage) (r : SubscriberAcknowledged) → r.number ≡ 0 → u < length s.history.joined
      → is_joined (joined_by s u) m.llid ≡ true → has_taken (joined_by (group_message_arriving s u g k m r) u) m.llid m.number ≡ true
  unfolding group_message_arriving at_unit pick
  message_took k m r z h j =
      rw (z, get_or-set_same s.history.joined u (taking m.llid m.number (joined_by s u)) [] h) (taking_new m.llid m.number (joined_by s u) j)

  ---- an envelope

  pub envelope_comes : (k : ℕ) (out : List ℕ) (e : Envelope) → Comes g u s (group_in_flight_arriving s u g k out (envelope e))
  unfolding group_in_flight_arriving group_arrived group_taken group_with
  envelope_comes k out e =
      comes _ _ _ refl refl refl refl refl (λ a p. Memᴰ.append_left (group_receipt s u e out ∷ []) p) (taken_others s u g k) (λ v llid. refl)
      (λ v llid n h. h)

  pub envelope_noted : (k : ℕ) (out : List ℕ) (e : Envelope)
      → Memᴰ (group_receipt s u e out) (group_lane_at (group_in_flight_arriving s u g k out (envelope e)) g).arrived
  unfolding group_in_flight_arriving group_arrived group_taken group_with at_unit
  envelope_noted k out e =
      rw (get_or-set_same s.history.groups g (group_arrived (group_receipt s u e out) (group_taken u k (group_lane_at s g))) no_group_lane known)
      (Memᴰ.append_right lane.arrived (Memᴰ.head refl))
