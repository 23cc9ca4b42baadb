-- Events that leave the OLT's channels, and a clock acknowledgement that it has. Assumes nothing.
use Rattle.std.specs.Prelude.{Err}
use mathlib.Core.Path.{◌≡◌, refl, ◌∙◌}
use mathlib.Core.Bool.{Bool, true, false}
use mathlib.Core.List.{List, [], ◌∷◌}
use Prim.Native.Nat.{ℕ, ◌+◌, ◌<◌}
use native.Mathlib.Omega.{arith}
use lib.Dec.{eqb, leb}
use lib.ListN.{length}
use borrow.Author.Tests.{leb-true, leb-false, eqb-true, eqb-false}
use Rattle.octets.specs.Choice.{pick}
use Rattle.refusal.specs.declared.Refusal.TheVariants.{NothingOutstanding}
use Rattle.refusal.proofs.Numbers.{number_accepted}
use Rattle.clock.specs.Ticks.{max_tick}
use Rattle.ends.specs.Records.{with_keys, with_confirmation, with_clock}
use Rattle.ends.specs.Table.{unit_at}
use Rattle.ends.specs.declared.Olt.{Olt}
use Rattle.ends.specs.declared.Shared.{Shared}
use Rattle.ends.specs.declared.UnitRecord.{UnitRecord}
use Rattle.ends.proofs.Table.{find_at, with_unit-holds, with_other, with_channels-holds}
use Rattle.ends.proofs.Validity.{olt_in_range}
use Rattle.protocol.specs.Lift.{Outcome, outcome, lift}
use Rattle.protocol.specs.Messages.{clock_kind, key_kind, no_stamps, no_key_message}
use Rattle.protocol.specs.Headers.{no_passage}
use Rattle.protocol.specs.Replies.{silent}
use Rattle.protocol.specs.OltCalls.{olt_answer, clock_sent, key_sent, capture_of, clock_send_of, offer_of, retry_of, acknowledge_of, shared_advanced, olt_advanced, advance_olt_of}
use Rattle.protocol.specs.OltTraffic.{receiving_olt}
use Rattle.protocol.specs.UnitCalls.{unit_advanced, capture_unit, clock_captured, clock_send_unit, clock_after_send, offer_unit, unit_offered, retry_unit, clock_acknowledged_unit, key_acknowledged_unit, acknowledge_unit}
use Rattle.protocol.specs.UnitTraffic.{unit_receive_choice, unit_confirmed, unit_after_receipt, receive_unit}
use Rattle.protocol.specs.declared.Acknowledgement.{Acknowledgement}
use Rattle.protocol.specs.declared.KeyChoice.{KeyChoice}
use Rattle.protocol.specs.declared.KeyChoice.TheVariants.{Clear, Current, Next, Barred}
use Rattle.protocol.proofs.Lift.{Lifted, Ends, accepted, refused, lift_ends}
use Rattle.protocol.proofs.OltAdvance.{advancing_accepted, advancing_accepts}
use Rattle.protocol.proofs.OltCalls.{advance_olt_refused}
use Rattle.protocol.proofs.OltTraffic.{receive_ahead}
use Rattle.protocol.proofs.UnitCalls.{acknowledged_channels}
use Rattle.traffic.specs.Passages.{misfit}
use Rattle.traffic.specs.Receipts.{olt_received, olt_receive_of}
use Rattle.unicast.specs.Setting.{Setting}
use Rattle.unicast.specs.History.{InFlight, clock_message, key_message, envelope}
use Rattle.unicast.specs.Events.{Event, advance, register, capture, clock_send, offer, retry, send_down, send_up, arrive_down, arrive_up, arrive_answer, overhear, change_path, measure, new_time, stray_clock, stray_key, stray_answer, stray_down, stray_up}
use Rattle.unicast.specs.Run.{State, step, run, with_lanes, at_olt, at_olt_for, at_onu, advancing, clock_sending, offering, retrying, answering, message_arriving, envelope_arriving, in_flight_arriving, in_flight_at, envelope_at, answer_at, arriving_up}
use Rattle.unicast.specs.Premises.{Meets}
use Rattle.unicast.proofs.Invariant.{Invariant}
use Rattle.unicast.proofs.AdvanceSteps.{advanced_unit}
use Rattle.unicast.proofs.Theorem.{step_right}
use Rattle.refusal.specs.Verdict.{Verdict, no_refusal}

-- from one OLT to the next
pub record Steady (o p : Olt) (i : ℕ) : Type 0 where
  pub channels : p.shared.channels ≡ o.shared.channels
  pub acknowledged : (unit_at o i).clock.acknowledged ≡ 1 → (unit_at p i).clock.acknowledged ≡ 1

pub steady_same : (o p : Olt) (i : ℕ) → p ≡ o → Steady o p i
steady_same o p i e = rw e (record { channels = refl; acknowledged = λ a. a })

pub steady_then : (o p q : Olt) (i : ℕ) → Steady o p i → Steady p q i → Steady o q i
steady_then o p q i a b = record { channels = b.channels ∙ a.channels; acknowledged = λ x. b.acknowledged (a.acknowledged x) }

---- a call lifted from a unit

lift_steady : {H : Type 0} (o : Olt) (nothing : H) (ahead : Verdict) (llid : ℕ) (call : Shared → UnitRecord → Outcome H) (i : ℕ)
    → ((u : UnitRecord) → (call o.shared u).channels ≡ o.shared.channels)
    → ((u : UnitRecord) → u.clock.acknowledged ≡ 1 → (call o.shared u).unit.clock.acknowledged ≡ 1)
    → Steady o (lift o nothing ahead llid call).end i
lift_steady {H} o nothing ahead llid call i stay keeps = by_end (lift_ends o nothing ahead llid call) where
  by_place : (l : Lifted o nothing ahead llid call) (t : Bool) → eqb i l.at ≡ t → Steady o (lift o nothing ahead llid call).end i
  by_place l true e =
      let same : i ≡ l.at = eqb-true i l.at e in
      rw (l.end, same)
      (record {
        channels = with_channels-holds o l.at _ _ ∙ stay (unit_at o l.at);
        acknowledged = λ a. rw (with_unit-holds o l.at (call o.shared (unit_at o l.at)).channels (call o.shared (unit_at o l.at)).unit
            (find_at o llid l.at l.found).place) (keeps (unit_at o l.at) a);
      })
  by_place l false e =
      rw l.end
      (record {
        channels = with_channels-holds o l.at _ _ ∙ stay (unit_at o l.at);
        acknowledged = λ a. rw (with_other o l.at i (call o.shared (unit_at o l.at)).channels (call o.shared (unit_at o l.at)).unit
            (eqb-false i l.at e)) a;
      })

  by_end : Ends o nothing ahead llid call → Steady o (lift o nothing ahead llid call).end i
  by_end (accepted l) = by_place l (eqb i l.at) refl
  by_end (refused r e) = rw e (record { channels = refl; acknowledged = λ a. a })

acknowledge_keeps : (a : Acknowledgement) (sh : Shared) (u : UnitRecord) → u.clock.acknowledged ≡ 1
    → (acknowledge_unit a sh u).unit.clock.acknowledged ≡ 1
unfolding acknowledge_unit clock_acknowledged_unit key_acknowledged_unit outcome with_clock with_confirmation pick
acknowledge_keeps a sh u h = by_kind (eqb a.kind clock_kind) (eqb a.kind key_kind) where
  by_kind : (t k : Bool)
      → (pick t (clock_acknowledged_unit sh u)
      (pick k (key_acknowledged_unit a.number sh u) (outcome sh (Err NothingOutstanding) u silent))).unit.clock.acknowledged
      ≡ 1
  by_kind true k = refl
  by_kind false true = h
  by_kind false false = h

receipt_keeps : (choice : KeyChoice) (u : UnitRecord) → u.clock.acknowledged ≡ 1 → (unit_after_receipt choice u).clock.acknowledged ≡ 1
unfolding unit_after_receipt unit_confirmed with_confirmation with_keys
receipt_keeps Clear u h = h
receipt_keeps (Current n) u h = h
receipt_keeps (Next n) u h = h
receipt_keeps (Barred r) u h = h

---- an advance

advance_steady : (o : Olt) (n i : ℕ) → i < o.count → i < length o.units → Steady o (olt_advanced o n) i
unfolding olt_advanced shared_advanced unit_advanced with_keys
advance_steady o n i h k = record { channels = refl; acknowledged = λ a. rw (advanced_unit o n i h k) a }

---- every event of this kind

abbrev pub Calm : Event → Type 0
Calm (advance n) = Unit {0}
Calm (register u i trip interval) = ⊥
Calm (capture llid) = Unit {0}
Calm (clock_send llid) = Unit {0}
Calm (offer llid key) = Unit {0}
Calm (retry llid) = Unit {0}
Calm (send_down llid channel p out) = ⊥
Calm (send_up u llid channel p out) = ⊥
Calm (arrive_down u k out) = Unit {0}
Calm (arrive_up u k out) = Unit {0}
Calm (arrive_answer u k llid) = Unit {0}
Calm (overhear u other k out) = ⊥
Calm (change_path u llid time p) = ⊥
Calm (measure llid trip) = ⊥
Calm (new_time u time) = ⊥
Calm (stray_clock u m) = ⊥
Calm (stray_key u m) = ⊥
Calm (stray_answer llid a) = ⊥
Calm (stray_down u h p out) = ⊥
Calm (stray_up h p out) = ⊥

abbrev pub Calms : List Event → Type 0
Calms [] = Unit {0}
Calms (e ∷ es) = Calm e × Calms es

-- nobody is registered
pub record Stays (s t : State) (i : ℕ) : Type 0 where
  pub steady : Steady s.olt t.olt i
  pub registrations : t.history.registrations ≡ s.history.registrations

in_flight_stays : (s : State) (u k : ℕ) (out : List ℕ) (x : InFlight) (i : ℕ) → Stays s (in_flight_arriving s u k out x) i
unfolding in_flight_arriving message_arriving envelope_arriving at_onu with_lanes
in_flight_stays s u k out (clock_message m c t) i = record { steady = record { channels = refl; acknowledged = λ a. a }; registrations = refl }
in_flight_stays s u k out (key_message m t) i = record { steady = record { channels = refl; acknowledged = λ a. a }; registrations = refl }
in_flight_stays s u k out (envelope e) i = record { steady = record { channels = refl; acknowledged = λ a. a }; registrations = refl }

advance_stays : (w : Setting) (s : State) (n i : ℕ) → Invariant w s → i < s.olt.count → Stays s (step s (advance n)) i
unfolding step advancing advance_olt_of olt_answer
advance_stays w s n i v h = by_range (leb (s.olt.shared.tick + n) max_tick) refl where
  by_range : (t : Bool) → leb (s.olt.shared.tick + n) max_tick ≡ t → Stays s (advancing s n) i
  by_range true e =
      let room = (olt_in_range s.olt v.valid).count in
      record {
        steady =
            rw (advancing_accepts s.olt n v.valid (leb-true _ _ e))
            (advance_steady s.olt n i h (omega (arith, h, room, v.places)));
        registrations = refl;
      }
  by_range false e =
      let none : (advance_olt_of s.olt n).number ≡ 0 → ⊥ =
      λ z. omega (arith, (advancing_accepted s.olt n (number_accepted _ z)).1, leb-false (s.olt.shared.tick + n) max_tick e) in
      record { steady = steady_same s.olt _ i (advance_olt_refused s.olt n none); registrations = refl }

-- the calls of the OLT, and those on one unit
unfoldable calls : Unit {0}
unfolding step capture_of clock_sending clock_send_of clock_sent offering offer_of key_sent retrying retry_of answering acknowledge_of
    olt_answer arriving_up receiving_olt
calls = tt

unfoldable units : Unit {0}
unfolding olt_receive_of olt_received at_olt at_olt_for with_lanes capture_unit clock_send_unit offer_unit unit_offered retry_unit
    receive_unit outcome with_clock with_keys
units = tt

unfoldable records : Unit {0}
unfolding with_confirmation clock_captured clock_after_send
records = tt

pub calm_stays : (w : Setting) (s : State) (e : Event) (i : ℕ) → Invariant w s → i < s.olt.count → Calm e → Stays s (step s e) i
unfolding calls units records
calm_stays w s (advance n) i v h c = advance_stays w s n i v h
calm_stays w s (capture llid) i v h c =
    record { steady = lift_steady s.olt silent no_refusal llid capture_unit i (λ u. refl) (λ u a. a); registrations = refl }
calm_stays w s (clock_send llid) i v h c =
    record { steady = lift_steady s.olt no_stamps no_refusal llid clock_send_unit i (λ u. refl) (λ u a. a); registrations = refl }
calm_stays w s (offer llid key) i v h c =
    record { steady = lift_steady s.olt no_key_message no_refusal llid (offer_unit llid key) i (λ u. refl) (λ u a. a); registrations = refl }
calm_stays w s (retry llid) i v h c =
    record { steady = lift_steady s.olt no_key_message no_refusal llid (retry_unit llid) i (λ u. refl) (λ u a. a); registrations = refl }
calm_stays w s (arrive_down u k out) i v h c = in_flight_stays s u k out (in_flight_at s u k) i
calm_stays w s (arrive_up u k out) i v h c =
    let e = envelope_at s u k in
    record {
      steady =
          lift_steady s.olt no_passage (receive_ahead (misfit e.octets out) e.header) e.header.llid (receive_unit e.header) i (λ x. refl)
          (λ x a. receipt_keeps (unit_receive_choice x e.header) x a);
      registrations = refl;
    }
calm_stays w s (arrive_answer u k llid) i v h c =
    let a = (answer_at s u k).acknowledgement in
    record {
      steady =
          lift_steady s.olt silent no_refusal llid (acknowledge_unit a) i (acknowledged_channels a s.olt.shared)
          (acknowledge_keeps a s.olt.shared);
      registrations = refl;
    }
calm_stays w s (register u x trip interval) i v h c = absurd c
calm_stays w s (send_down llid channel p out) i v h c = absurd c
calm_stays w s (send_up u llid channel p out) i v h c = absurd c
calm_stays w s (overhear u other k out) i v h c = absurd c
calm_stays w s (change_path u llid time p) i v h c = absurd c
calm_stays w s (measure llid trip) i v h c = absurd c
calm_stays w s (new_time u time) i v h c = absurd c
calm_stays w s (stray_clock u m) i v h c = absurd c
calm_stays w s (stray_key u m) i v h c = absurd c
calm_stays w s (stray_answer llid a) i v h c = absurd c
calm_stays w s (stray_down u x p out) i v h c = absurd c
calm_stays w s (stray_up x p out) i v h c = absurd c

pub calm_run : (w : Setting) (s : State) (es : List Event) (i : ℕ) → Invariant w s → Meets w s es → i < s.olt.count → Calms es
    → Steady s.olt (run s es).olt i
unfolding run
calm_run w s [] i v m h c = record { channels = refl; acknowledged = λ a. a }
calm_run w s (e ∷ es) i v m h c =
    let next = step_right w s e v m.0 in
    let one = calm_stays w s e i v h c.0 in
    steady_then s.olt (step s e).olt _ i one.steady
    (calm_run w (step s e) es i next m.1 (omega (arith, h, v.count, next.count, one.registrations)) c.1)
