-- The calls on a unit keep the invariant: they touch that unit and its lane alone, and one that is refused leaves both. Assumes nothing.
use mathlib.Core.Path.{◌≡◌, refl, sym, ◌∙◌, ap, subst}
use mathlib.Core.Bool.{true}
use mathlib.Core.List.{List}
use Prim.Native.Nat.{ℕ, ◌+◌, ◌<◌}
use native.Mathlib.Omega.{arith}
use lib.ListN.{length, set, length-set}
use lib.Seq.{get_or-set_same, get_or-set_other, set-get_or}
use borrow.Author.Tests.{eqb-true, eqb-false}
use Rattle.octets.proofs.Choice.{pick_holds}
use Rattle.octets.specs.Output.{WithOutput}
use Rattle.clock.specs.declared.Stamps.{Stamps}
use Rattle.protocol.specs.Headers.{no_passage, no_sending}
use Rattle.ends.specs.Identities.{no_identity}
use Rattle.protocol.specs.Messages.{no_acknowledgement, of_key}
use Rattle.protocol.specs.OnuCalls.{onu_acknowledged, clock_message_at, key_message_verdict, keys_taken, key_message_to, key_message_at}
use Rattle.ends.specs.Records.{new_onu, with_onu_keys}
use Rattle.ends.specs.Table.{unit_at}
use Rattle.ends.specs.Travels.{travel_of}
use Rattle.ends.specs.Validity.{valid_olt}
use Rattle.protocol.specs.declared.Header.{Header}
use Rattle.protocol.specs.declared.KeyMessage.{KeyMessage}
use Rattle.ends.specs.declared.Olt.{Olt}
use Rattle.ends.specs.declared.Onu.{Onu}
use Rattle.protocol.specs.declared.OnuAcknowledged.{OnuAcknowledged}
use Rattle.protocol.proofs.OnuCalls.{onu_keeps, clock_message_refused, key_message_refused}
use Rattle.protocol.proofs.OnuTraffic.{sending_onu_untouched, receiving_onu_untouched}
use Rattle.protocol.proofs.Replies.{number_refused}
use Rattle.ends.proofs.Validity.{onu_in_range}
use Rattle.protocol.proofs.KeyMessages.{keys_taken_valid, keys_replaced_valid}
use Rattle.traffic.specs.Receipts.{onu_received, onu_not_received, onu_receive_of}
use Rattle.traffic.specs.Sends.{onu_sent, onu_send_of}
use Rattle.traffic.specs.declared.OnuReceived.{OnuReceived}
use Rattle.unicast.specs.Setting.{Setting}
use Rattle.unicast.specs.History.{InFlight, clock_message, key_message, envelope, Entry, Lane, left_at, lane_with, lane_sent_up, lane_taken, lane_answered, lane_arrived_down}
use Rattle.unicast.specs.Events.{send_up, arrive_down, overhear, stray_clock, stray_key, stray_down}
use Rattle.unicast.specs.Run.{State, no_site, fresh_lane, lane_at, onu_at, accepted, noted, with_lanes, at_onu, sending_up, message_arriving, receipt_down, envelope_arriving, in_flight_arriving, no_envelope, in_flight_at, unit_after, step}
use Rattle.unicast.specs.Premises.{FittingBuffer, DueDown, Fits}
use Rattle.unicast.proofs.Cases.{same_or_not}
use Rattle.unicast.proofs.Invariant.{Joined, Common, LaneRight, AtTick, Invariant}
use Rattle.unicast.proofs.Places.{keys_stay, set_keeps}
use Rattle.unicast.proofs.Alive.{Alive, registered_alive, towards_alive}
use Rattle.unicast.proofs.ClockSteps.{clock_arrives, common_clock_keeps}
use Rattle.unicast.proofs.KeySteps.{key_arrives}
use Rattle.unicast.proofs.Frames.{common_moved, lane_joined}
use Rattle.unicast.proofs.SendUpSteps.{send_up_keeps, send_common}
use Rattle.unicast.proofs.ReceiptDownSteps.{arrive_down-holds, receive_common}
use Rattle.unicast.proofs.OverheardSteps.{overheard_refused}

---- one unit replaced

-- an OLT that is right, and of which the lanes of other units are
pub record OltRight (w : Setting) (s : State) (u : ℕ) (t : Olt) : Type 0 where
  pub valid : valid_olt t ≡ true
  pub places : length t.units ≡ 16
  pub count : t.count ≡ s.history.registrations
  pub shared : AtTick w s.history.now t.shared
  pub others : (x : ℕ) → x < length s.history.lanes → (x ≡ u → ⊥) → LaneRight w t s.history.now (lane_at s x) (onu_at s x)

-- a unit and its lane are replaced, past the end nothing, and the OLT; registration and offers stay
module _ (w : Setting) (s : State) (u : ℕ) (t : Olt) (o : Onu) (m : Lane) (v : Invariant w s) (r : OltRight w s u t)
    (right : u < length s.history.lanes → LaneRight w t s.history.now m o) (entry : m.entry ≡ (lane_at s u).entry)
    (offers : m.keys.offers ≡ (lane_at s u).keys.offers) where
  abbrev after : State
  after =
      record {
        olt = t;
        onus = set s.onus u o;
        history = record { now = s.history.now; registrations = s.history.registrations; lanes = set s.history.lanes u m };
      }

  lane_right : (x : ℕ) → x < length s.history.lanes → LaneRight w t s.history.now (lane_at after x) (onu_at after x)
  lane_right x h =
      same_or_not x u
      (λ z.
      let known : u < length s.history.lanes = rw z at h in
      rw (
        z,
        get_or-set_same s.history.lanes u m (fresh_lane no_site) known,
        get_or-set_same s.onus u o (new_onu no_identity 0 0) (omega (arith, known, v.paired)),
      ) (right known))
      (λ n.
      rw (get_or-set_other s.history.lanes u x m (fresh_lane no_site) n, get_or-set_other s.onus u x o (new_onu no_identity 0 0) n) (r.others x h n))

  pub replaced_right : Invariant w after
  replaced_right =
      let places = length-set s.history.lanes u m in
      let entries = set_keeps (λ (l : Lane). l.entry) s.history.lanes u m entry in
      record {
        valid = r.valid;
        places = r.places;
        count = r.count;
        shared = r.shared;
        paired = length-set s.onus u o ∙ v.paired ∙ sym places;
        lane = λ x h. lane_right x (rw places at h);
        apart = λ x y h k b c e.
            v.apart x y (rw places at h) (rw places at k) (rw (entries x) at b) (rw (entries y) at c) (rw (entries x, entries y) at e);
        keys = keys_stay s.history.lanes (set s.history.lanes u m) (set_keeps (λ (l : Lane). l.keys.offers) s.history.lanes u m offers) v.keys;
      }

pub at_onu_right : (w : Setting) (s : State) (u : ℕ) (o : Onu) (f : Lane → Lane) → Invariant w s
    → (u < length s.history.lanes → LaneRight w s.olt s.history.now (f (lane_at s u)) o)
    → (f (lane_at s u)).entry ≡ (lane_at s u).entry → (f (lane_at s u)).keys.offers ≡ (lane_at s u).keys.offers → Invariant w (at_onu s u o f)
unfolding at_onu with_lanes
at_onu_right w s u o f v right entry offers = replaced_right w s u s.olt o (f (lane_at s u)) v (search v.lane) right entry offers

-- what the lane is told by an accepted call
noted_right : (w : Setting) (s : State) (u : ℕ) (o : Onu) (number : ℕ) (f g : Lane → Lane)
    → (number ≡ 0 → Invariant w (at_onu s u o (λ l. f (g l))))
    → ((number ≡ 0 → ⊥) → Invariant w (at_onu s u o g)) → Invariant w (at_onu s u o (λ l. noted number f (g l)))
unfolding at_onu noted
noted_right w s u o number f g taken refused =
    pick_holds (λ (m : Lane). Invariant w (at_onu s u o (λ l. m))) (accepted number) (f (g (lane_at s u))) (g (lane_at s u))
    (λ e. taken (eqb-true number 0 e)) (λ e. refused (eqb-false number 0 e))

-- a unit that is left as it was
pub unit_after_right : (w : Setting) (s : State) (u : ℕ) (o : Onu) → o ≡ onu_at s u → Invariant w s → Invariant w (unit_after s u o)
unfolding unit_after
unit_after_right w s u o e v = rw (e, set-get_or s.onus u (new_onu no_identity 0 0)) v

---- a registered unit

module _ (w : Setting) (s : State) (u : ℕ) (v : Invariant w s) where
  -- a registered unit and its lane are replaced
  pub alive_right : (o : Onu) (f : Lane → Lane) → Alive w s u → (f (lane_at s u)).entry ≡ (lane_at s u).entry
      → (f (lane_at s u)).keys.offers ≡ (lane_at s u).keys.offers → Common w s.history.now (f (lane_at s u)) o
      → Joined w s.olt.shared s.history.now (f (lane_at s u)) (unit_at s.olt (lane_at s u).entry.place) o → Invariant w (at_onu s u o f)
  alive_right o f r entry offers c j =
      let m = f (lane_at s u) in
      let place : (lane_at s u).entry.place ≡ m.entry.place = ap (λ (t : Entry). t.place) (sym entry) in
      at_onu_right w s u o f v
      (λ known.
      lane_joined w s.olt s.history.now m o (ap (λ (t : Entry). t.registered) entry ∙ r.registered) c
      (omega (arith, r.used, place), subst (λ (i : ℕ). Joined w s.olt.shared s.history.now m (unit_at s.olt i) o) place j)) entry offers

---- a send

pub send_up_refused : (o : Onu) (llid channel : ℕ) (p out : List ℕ) → ((onu_send_of o llid channel p out).answer.number ≡ 0 → ⊥)
    → (onu_send_of o llid channel p out).answer.onu ≡ o
unfolding onu_send_of onu_sent
send_up_refused o llid channel p out n = (number_refused o no_sending _ (sending_onu_untouched o _ llid channel _) n).end

pub send_up_right : (w : Setting) (s : State) (u llid channel : ℕ) (p out : List ℕ) → Invariant w s → Fits w s (send_up u llid channel p out)
    → Invariant w (step s (send_up u llid channel p out))
unfolding step sending_up lane_sent_up lane_with
send_up_right w s u llid channel p out v f =
    let x = onu_send_of (onu_at s u) llid channel p out in
    noted_right w s u x.answer.onu x.answer.number _ (λ l. l)
    (λ z.
    let r = registered_alive w s u v (f z) in
    alive_right w s u v x.answer.onu _ r refl refl
    (send_common w s.history.now (lane_at s u) _ (onu_at s u) llid channel p out refl refl r.common)
    (send_up_keeps w s.olt.shared s.history.now (lane_at s u) (unit_at s.olt (lane_at s u).entry.place) (onu_at s u) llid channel p out r.common
    r.joined z))
    (λ n.
    rw (send_up_refused (onu_at s u) llid channel p out n) (at_onu_right w s u (onu_at s u) (λ l. l) v (λ known. v.lane u known) refl refl))

---- what arrives

key_common : (w : Setting) (now : ℕ) (l : Lane) (o : Onu) (m : KeyMessage) → Common w now l o → Common w now l (key_message_at o m).onu
unfolding key_message_at key_message_to onu_acknowledged with_onu_keys travel_of
key_common w now l o m c =
    onu_keeps (λ (p : Onu). Common w now l p) o no_acknowledgement (key_message_verdict o m) (with_onu_keys o (keys_taken o.keys m)) (of_key m.number) c
    (λ v a. search (keys_replaced_valid o (keys_taken o.keys m) (keys_taken_valid o.keys m (onu_in_range o v).keys) v))

module _ (w : Setting) (s : State) (u k : ℕ) (out : List ℕ) (v : Invariant w s) (d : DueDown s u k out) where
  abbrev place : Alive w s u
  place = towards_alive w s u v k d.some

  -- a message, taken or refused
  message_right : (r : OnuAcknowledged) → Common w s.history.now (lane_at s u) r.onu
      → (r.number ≡ 0
      → Joined w s.olt.shared s.history.now (lane_answered r.acknowledgement s.history.now (lane_taken k (lane_at s u)))
      (unit_at s.olt (lane_at s u).entry.place) r.onu)
      → ((r.number ≡ 0 → ⊥)
      → (r.onu ≡ onu_at s u)
      × Joined w s.olt.shared s.history.now (lane_taken k (lane_at s u)) (unit_at s.olt (lane_at s u).entry.place) (onu_at s u))
      → Invariant w (message_arriving s u k r)
  unfolding message_arriving lane_answered lane_taken lane_with
  message_right r c taken refused =
      noted_right w s u r.onu r.number (lane_answered r.acknowledgement s.history.now) (lane_taken k)
      (λ z.
      alive_right w s u v r.onu (λ l. lane_answered r.acknowledgement s.history.now (lane_taken k l)) place refl refl
      (common_moved w s.history.now (lane_at s u) _ r.onu refl refl c) (taken z))
      (λ n.
      let same = refused n in
      alive_right w s u v r.onu (lane_taken k) place refl refl (common_moved w s.history.now (lane_at s u) _ r.onu refl refl c)
      (rw same.0 same.1))

  in_flight_right : (x : InFlight) → in_flight_at s u k ≡ x → left_at x + (lane_at s u).path.down ≡ s.history.now → FittingBuffer x out
      → Invariant w (in_flight_arriving s u k out x)
  unfolding in_flight_arriving envelope_arriving receipt_down lane_arrived_down lane_taken lane_with
  in_flight_right (clock_message m c t) e due b =
      let r = place in
      let arrives =
      clock_arrives w s.olt.shared s.history.now (lane_at s u) (unit_at s.olt (lane_at s u).entry.place) (onu_at s u) r.joined k
      (envelope no_envelope) m c t d.some e due r.common in
      message_right (clock_message_at (onu_at s u) m) (common_clock_keeps w s.history.now (lane_at s u) (onu_at s u) m r.common) arrives.0 arrives.1
  in_flight_right (key_message m t) e due b =
      let r = place in
      let arrives =
      key_arrives w s.olt.shared s.history.now (lane_at s u) (unit_at s.olt (lane_at s u).entry.place) (onu_at s u) k (envelope no_envelope)
      m t r.common r.joined d.some e in
      message_right (key_message_at (onu_at s u) m) (key_common w s.history.now (lane_at s u) (onu_at s u) m r.common) arrives.0 arrives.1
  in_flight_right (envelope x) e due b =
      let r = place in
      alive_right w s u v _ (λ l. lane_arrived_down (receipt_down s u x out) (lane_taken k l)) r refl refl
      (receive_common w s.history.now (lane_at s u) _ (onu_at s u) x.header x.octets out refl refl r.common)
      (arrive_down-holds w s.olt.shared s.history.now (lane_at s u) (unit_at s.olt (lane_at s u).entry.place) (onu_at s u) r.common r.joined
      k (envelope no_envelope) x out d.some e due b)

pub arrive_down_right : (w : Setting) (s : State) (u k : ℕ) (out : List ℕ) → Invariant w s → Fits w s (arrive_down u k out)
    → Invariant w (step s (arrive_down u k out))
unfolding step
arrive_down_right w s u k out v d = in_flight_right w s u k out v d (in_flight_at s u k) refl d.now d.buffer

---- what is overheard

-- another unit's envelope, sent to it or by it
pub overhear_right : (w : Setting) (s : State) (u other k : ℕ) (out : List ℕ) → Invariant w s → Fits w s (overhear u other k out)
    → Invariant w (step s (overhear u other k out))
unfolding step onu_not_received
overhear_right w s u other k out v h =
    unit_after_right w s u _ (ap (λ (x : WithOutput OnuReceived). x.answer.onu) (overheard_refused w s v u other k out h)) v

---- any other receipt, which is refused

pub stray_clock_right : (w : Setting) (s : State) (u : ℕ) (m : Stamps) → Invariant w s → Fits w s (stray_clock u m)
    → Invariant w (step s (stray_clock u m))
unfolding step
stray_clock_right w s u m v n = unit_after_right w s u _ (clock_message_refused (onu_at s u) m n).0 v

pub stray_key_right : (w : Setting) (s : State) (u : ℕ) (m : KeyMessage) → Invariant w s → Fits w s (stray_key u m)
    → Invariant w (step s (stray_key u m))
unfolding step
stray_key_right w s u m v n = unit_after_right w s u _ (key_message_refused (onu_at s u) m n).0 v

pub receive_refused : (o : Onu) (h : Header) (p out : List ℕ) → ((onu_receive_of o h p out).answer.number ≡ 0 → ⊥)
    → (onu_receive_of o h p out).answer.onu ≡ o
unfolding onu_receive_of onu_received
receive_refused o h p out n = (number_refused o no_passage _ (receiving_onu_untouched o _ h) n).end

pub stray_down_right : (w : Setting) (s : State) (u : ℕ) (h : Header) (p out : List ℕ) → Invariant w s → Fits w s (stray_down u h p out)
    → Invariant w (step s (stray_down u h p out))
unfolding step
stray_down_right w s u h p out v n = unit_after_right w s u _ (receive_refused (onu_at s u) h p out n) v
