-- What arrives for a registered unit, and what it sends, make of its lane. Assumes nothing.
use mathlib.Core.Path.{◌≡◌, refl, ◌∙◌, ap}
use mathlib.Core.Bool.{Bool, true, false}
use mathlib.Core.List.{List, []}
use Prim.Native.Nat.{ℕ, ◌+◌, ◌<◌, ◌≤◌}
use native.Mathlib.Omega.{arith}
use lib.Dec.{eqb}
use lib.ListN.{length}
use lib.Seq.{get_or-set_same}
use borrow.Author.Tests.{eqb-false, eq-eqb, le-ltb, lt-ltb}
use Rattle.octets.specs.Choice.{both, either, pick}
use Rattle.octets.proofs.Choice.{both_true, both_false_left, both_false_right, either_none, either_left, either_right, not_of_true}
use Rattle.octets.proofs.Lists.{same_refl}
use Rattle.refusal.specs.declared.Refusal.TheVariants.{UnknownLlid, ClockNotSet, ChannelTaken, KeyTooOld}
use Rattle.refusal.specs.Number.{verdict_number}
use Rattle.refusal.specs.Order.{refuse_if}
use Rattle.refusal.proofs.Order.{refuse_passed}
use Rattle.clock.specs.declared.Stamps.{Stamps}
use Rattle.envelope.specs.Acceptance.{lengths_fit}
use Rattle.envelope.specs.Channels.{downstream, upstream}
use Rattle.envelope.specs.ControlMask.{eqs_of}
use Rattle.ends.specs.Flags.{is_up}
use Rattle.ends.specs.Limits.{max_key_number}
use Rattle.ends.specs.Occupancy.{free_from, taken}
use Rattle.ends.specs.Travels.{travel_of, waits}
use Rattle.ends.specs.declared.FirstSend.{FirstSend}
use Rattle.ends.specs.declared.Onu.{Onu}
use Rattle.protocol.specs.Headers.{choice_enciphered, choice_aged, clock_channel_key, no_sending}
use Rattle.protocol.specs.Messages.{of_clock, of_key}
use Rattle.protocol.specs.OnuCalls.{onu_acknowledged, new_key, held_key, active_key, clock_message_at, key_message_at}
use Rattle.protocol.specs.OnuTraffic.{onu_send_choice, busy_up, onu_send_verdict, onu_after_send, sending_onu}
use Rattle.protocol.specs.UnitTraffic.{unit_send_choice, unit_send_verdict, send_unit}
use Rattle.protocol.specs.OltTraffic.{sending_olt}
use Rattle.protocol.specs.declared.KeyChoice.{KeyChoice}
use Rattle.protocol.specs.declared.KeyMessage.{KeyMessage}
use Rattle.protocol.specs.declared.OnuAcknowledged.{OnuAcknowledged}
use Rattle.protocol.proofs.KeyMessages.{TakesKey, key_message_taken}
use Rattle.protocol.proofs.OnuCalls.{onu_accepts}
use Rattle.protocol.proofs.OltTraffic.{send_ahead}
use Rattle.protocol.specs.Replies.{Reply}
use Rattle.protocol.specs.declared.Sending.{Sending}
use Rattle.traffic.specs.Passages.{misfit}
use Rattle.traffic.specs.Receipts.{onu_receive_of}
use Rattle.protocol.specs.Lift.{lift}
use Rattle.traffic.specs.Sends.{olt_sent, olt_send_of, onu_sent, onu_send_of}
use Rattle.unicast.specs.Setting.{Setting}
use Rattle.unicast.specs.History.{Envelope, InFlight, clock_message, key_message, envelope, left_at, Lane, key_of, number_down, lane_taken, lane_answered, lane_arrived_down, lane_arrived_up, lane_sent_down, lane_sent_up}
use Rattle.unicast.specs.Events.{arrive_down, arrive_up, send_down, send_up}
use Rattle.unicast.specs.Run.{State, lane_at, onu_at, fresh_lane, no_site, noted, with_lanes, at_olt, at_onu, at_olt_for, envelope_down, sending_down, envelope_up, sending_up, message_arriving, receipt_down, envelope_arriving, in_flight_arriving, no_envelope, in_flight_at, envelope_at, receipt_up, arriving_up, step}
use Rattle.unicast.specs.Premises.{FittingBuffer, DueDown}
use Rattle.unicast.proofs.Invariant.{ClockRight, Joined, Common}
use Rattle.unicast.proofs.Queues.{towards_taken}
use Rattle.unicast.proofs.ClockSteps.{clock_message_taken}
use Rattle.unicast.proofs.KeySteps.{next_key-holds}
use Rattle.progress.proofs.Going.{Here, Step, alive, unit, lifted_number, told}
use Rattle.refusal.specs.Verdict.{no_refusal}

-- a send under the key of its choice, whose end has its clock set, its channel free and the key not too old
goes_out : (set busy : Bool) (choice : KeyChoice) (first : FirstSend) (now : ℕ) → set ≡ true → busy ≡ false → choice_aged choice first now ≡ false
    → clock_channel_key set busy choice first now ≡ no_refusal
goes_out set busy choice first now is free young =
    refuse_passed _ ClockNotSet _ (both_false_left (choice_enciphered choice) (not_of_true is))
    ∙ refuse_passed busy ChannelTaken _ free
    ∙ refuse_passed _ KeyTooOld _ young

module _ (w : Setting) (u llid : ℕ) (s : State) (h : Here w u llid s) where
  abbrev lane : Lane
  lane = lane_at s u

  abbrev now : ℕ
  now = s.history.now

  abbrev joined : Joined w s.olt.shared now lane (unit w u llid s h) (onu_at s u)
  joined = (alive w u llid s h).joined

  abbrev common : Common w now lane (onu_at s u)
  common = (alive w u llid s h).common

  ---- a unit and its lane are replaced

  at_onu-holds : (o : Onu) (f : Lane → Lane) → lane_at (at_onu s u o f) u ≡ f lane
  unfolding at_onu with_lanes
  at_onu-holds o f = get_or-set_same s.history.lanes u (f lane) (fresh_lane no_site) (alive w u llid s h).known

  sent_lane : (o : Onu) (number : ℕ) (f : Lane → Lane) → number ≡ 0 → lane_at (at_onu s u o (noted number f)) u ≡ f lane
  unfolding noted pick
  sent_lane o number f e = at_onu-holds o (noted number f) ∙ rw e

  message_lane : (k : ℕ) (r : OnuAcknowledged) → r.number ≡ 0 → lane_at (message_arriving s u k r) u ≡ lane_answered r.acknowledgement now
      (lane_taken k lane)
  unfolding message_arriving noted pick
  message_lane k r e = at_onu-holds r.onu _ ∙ rw e

  due_down-holds : (k : ℕ) (x : InFlight) (out : List ℕ) → k < length lane.transit.towards → in_flight_at s u k ≡ x
      → left_at x + lane.path.down ≡ now
      → FittingBuffer x out → DueDown s u k out
  due_down-holds k x out some is due fits = record { some = some; now = rw is due; buffer = rw is fits }

  ---- whatever arrives, taken or refused

  -- what is left of the lane
  unfoldable pub in_flight_lane : ℕ → List ℕ → InFlight → Lane
  in_flight_lane k out (clock_message m c t) =
      noted (clock_message_at (onu_at s u) m).number (lane_answered (clock_message_at (onu_at s u) m).acknowledgement now) (lane_taken k lane)
  in_flight_lane k out (key_message m t) =
      noted (key_message_at (onu_at s u) m).number (lane_answered (key_message_at (onu_at s u) m).acknowledgement now) (lane_taken k lane)
  in_flight_lane k out (envelope e) = lane_arrived_down (receipt_down s u e out) (lane_taken k lane)

  in_flight_lane-holds : (k : ℕ) (out : List ℕ) (x : InFlight) → lane_at (in_flight_arriving s u k out x) u ≡ in_flight_lane k out x
  unfolding in_flight_arriving message_arriving envelope_arriving in_flight_lane
  in_flight_lane-holds k out (clock_message m c t) =
      let r = clock_message_at (onu_at s u) m in
      at_onu-holds r.onu (λ l. noted r.number (lane_answered r.acknowledgement now) (lane_taken k l))
  in_flight_lane-holds k out (key_message m t) =
      let r = key_message_at (onu_at s u) m in
      at_onu-holds r.onu (λ l. noted r.number (lane_answered r.acknowledgement now) (lane_taken k l))
  in_flight_lane-holds k out (envelope e) =
      at_onu-holds (onu_receive_of (onu_at s u) e.header e.octets out).answer.onu (λ l. lane_arrived_down (receipt_down s u e out) (lane_taken k l))

  in_flight_tick : (k : ℕ) (out : List ℕ) (x : InFlight) → (in_flight_arriving s u k out x).history.now ≡ now
  unfolding in_flight_arriving message_arriving envelope_arriving at_onu with_lanes
  in_flight_tick k out (clock_message m c t) = refl
  in_flight_tick k out (key_message m t) = refl
  in_flight_tick k out (envelope e) = refl

  pub in_flight_goes : (k : ℕ) (out : List ℕ) → DueDown s u k out → Step w u s (arrive_down u k out) (in_flight_lane k out (in_flight_at s u k)) now
  unfolding step
  in_flight_goes k out due = record { fits = due; lane = in_flight_lane-holds k out (in_flight_at s u k); tick = in_flight_tick k out (in_flight_at s u k) }

  ---- a clock message arrives

  pub clock_arrival_goes : (k : ℕ) (m : Stamps) (c t : ℕ) → k < length lane.transit.towards → in_flight_at s u k ≡ clock_message m c t
      → t + lane.path.down ≡ now → Step w u s (arrive_down u k []) (lane_answered of_clock now (lane_taken k lane)) now
  unfolding step in_flight_arriving message_arriving at_onu with_lanes
  clock_arrival_goes k m c t some is due =
      let o = onu_at s u in
      let x = unit w u llid s h in
      let right : ClockRight w.first lane.path m c t =
      (towards_taken w.first lane.path lane o.keys.active x.keys.active x.keys.offered lane.transit.towards k (envelope no_envelope)
      (clock_message m c t) some is joined.towards).0 in
      let taken = clock_message_taken w.first lane.path o m c t common.valid right in
      record {
        fits = due_down-holds k (clock_message m c t) [] some is due tt;
        lane =
            ap (λ (y : InFlight). lane_at (in_flight_arriving s u k [] y) u) is
            ∙ message_lane k (clock_message_at o m) (ap (λ (r : OnuAcknowledged). r.number) taken)
            ∙ ap (λ (r : OnuAcknowledged). lane_answered r.acknowledgement now (lane_taken k lane)) taken;
        tick = ap (λ (y : InFlight). (in_flight_arriving s u k [] y).history.now) is;
      }

  ---- a key message arrives

  takes_key : (k : ℕ) (m : KeyMessage) (t : ℕ) → k < length lane.transit.towards → in_flight_at s u k ≡ key_message m t
      → (onu_at s u).clock.synced ≡ 1
      → (onu_at s u).keys.active < max_key_number → TakesKey (onu_at s u) m
  unfolding new_key held_key
  takes_key k m t some is synced below =
      let o = onu_at s u in
      let j = joined in
      let next = next_key-holds w s.olt.shared now lane (unit w u llid s h) o k (envelope no_envelope) m t j some is in
      let number = eq-eqb m.number (o.keys.active + 1) next.number in
      record {
        has = common.llids m.llid ∙ next.named;
        synced = synced;
        fits = by_held (eqb o.keys.held 0) refl number next.key next.number;
      } where
        by_held : (z : Bool) → eqb (onu_at s u).keys.held 0 ≡ z → eqb m.number ((onu_at s u).keys.active + 1) ≡ true
            → m.key ≡ key_of lane.keys m.number
            → m.number ≡ (onu_at s u).keys.active + 1
            → either (new_key (onu_at s u).keys m) (either (held_key (onu_at s u).keys m) (active_key (onu_at s u).keys m)) ≡ true
        by_held true e number key is = either_left _ (both_true e (both_true (lt-ltb _ _ below) number))
        by_held false e number key is =
            let n = joined.numbers in
            let one : (onu_at s u).keys.held ≡ 1 = omega (arith, eqb-false (onu_at s u).keys.held 0 e, n.flag) in
            let stored = joined.stored.onu ((onu_at s u).keys.active + 1) (omega arith) (omega arith) (omega (arith, one)) in
            either_right _ (either_left _ (both_true (eq-eqb _ _ one) (both_true number (rw (stored, key, is) (same_refl _)))))

  pub key_arrival_goes : (k : ℕ) (m : KeyMessage) (t : ℕ) → k < length lane.transit.towards → in_flight_at s u k ≡ key_message m t
      → t + lane.path.down ≡ now → (onu_at s u).clock.synced ≡ 1 → (onu_at s u).keys.active < max_key_number
      → Step w u s (arrive_down u k []) (lane_answered (of_key m.number) now (lane_taken k lane)) now
  unfolding step in_flight_arriving message_arriving at_onu with_lanes key_message_at onu_acknowledged
  key_arrival_goes k m t some is due synced below =
      let o = onu_at s u in
      let taken = ap onu_acknowledged (key_message_taken o m common.valid (takes_key k m t some is synced below)) in
      record {
        fits = due_down-holds k (key_message m t) [] some is due tt;
        lane =
            ap (λ (y : InFlight). lane_at (in_flight_arriving s u k [] y) u) is
            ∙ message_lane k (key_message_at o m) (ap (λ (r : OnuAcknowledged). r.number) taken)
            ∙ ap (λ (r : OnuAcknowledged). lane_answered r.acknowledgement now (lane_taken k lane)) taken;
        tick = ap (λ (y : InFlight). (in_flight_arriving s u k [] y).history.now) is;
      }

  ---- an envelope arrives

  pub envelope_arrival_goes : (k : ℕ) (e : Envelope) (out : List ℕ) → k < length lane.transit.towards → in_flight_at s u k ≡ envelope e
      → e.left + lane.path.down ≡ now → length out ≡ length e.octets
      → Step w u s (arrive_down u k out) (lane_arrived_down (receipt_down s u e out) (lane_taken k lane)) now
  unfolding step in_flight_arriving envelope_arriving at_onu with_lanes
  envelope_arrival_goes k e out some is due fits =
      record {
        fits = due_down-holds k (envelope e) out some is due fits;
        lane = ap (λ (y : InFlight). lane_at (in_flight_arriving s u k out y) u) is ∙
            at_onu-holds (onu_receive_of (onu_at s u) e.header e.octets out).answer.onu (λ l. lane_arrived_down (receipt_down s u e out) (lane_taken k l));
        tick = ap (λ (y : InFlight). (in_flight_arriving s u k out y).history.now) is;
      }

  pub up_arrival_goes : (k : ℕ) (e : Envelope) (out : List ℕ) → k < length lane.transit.from → envelope_at s u k ≡ e
      → e.left + lane.path.up ≡ now → length out ≡ length e.octets
      → Step w u s (arrive_up u k out) (lane_arrived_up k (receipt_up s e out) lane) now
  unfolding step arriving_up at_olt_for with_lanes
  up_arrival_goes k e out some is due fits =
      record {
        fits = record { some = some; now = rw is due; buffer = rw is fits };
        lane =
            get_or-set_same s.history.lanes u _ (fresh_lane no_site) (alive w u llid s h).known
            ∙ ap (λ (y : Envelope). lane_arrived_up k (receipt_up s y out) lane) is;
        tick = refl;
      }

  ---- an empty envelope leaves, on channel 0

  send_ahead-holds : send_ahead (misfit [] []) 0x00 ≡ no_refusal
  unfolding misfit lengths_fit downstream refuse_if both
  send_ahead-holds = refl

  pub send_down_goes : (unit w u llid s h).clock.acknowledged ≡ 1 → free_from s.olt.shared.channels 0x00 ≤ now
      → choice_aged (unit_send_choice (unit w u llid s h)) (unit w u llid s h).keys.first s.olt.shared.tick ≡ false
      → Step w u s (send_down llid 0x00 [] []) (lane_sent_down now (envelope_down now lane.path s.olt llid 0x00 [] [] (number_down lane now)) lane) now
  unfolding step sending_down olt_send_of olt_sent sending_olt at_olt with_lanes send_unit unit_send_verdict taken
  send_down_goes set free young =
      let x = unit w u llid s h in
      let tick = h.invariant.shared.tick in
      let accepts = goes_out _ (taken s.olt.shared.channels 0x00 s.olt.shared.tick) (unit_send_choice x) x.keys.first s.olt.shared.tick
      (eq-eqb x.clock.acknowledged 1 set)
      (le-ltb s.olt.shared.tick (free_from s.olt.shared.channels 0x00) (omega (arith, free, tick))) young in
      record {
        fits = tt;
        lane =
            told w u llid s h (lift s.olt no_sending (send_ahead (misfit [] []) 0x00) llid (send_unit llid 0x00 (eqs_of []))).end _ _
            (lifted_number w u llid s h no_sending (send_ahead (misfit [] []) 0x00) (send_unit llid 0x00 (eqs_of [])) send_ahead-holds accepts);
        tick = refl;
      }

  send_up_accepts : (onu_at s u).clock.synced ≡ 1 → free_from (onu_at s u).channels 0x80 ≤ now → (onu_at s u).travel.bar ≤ travel_of (onu_at s u)
      → choice_aged (onu_send_choice (onu_at s u).keys) (onu_at s u).first (travel_of (onu_at s u)) ≡ false
      → onu_send_verdict (onu_at s u) (misfit [] []) llid 0x80 ≡ no_refusal
  unfolding onu_send_verdict misfit lengths_fit upstream busy_up waits taken both refuse_if
  send_up_accepts synced free passed young =
      let o = onu_at s u in
      let c = common in
      refuse_passed _ UnknownLlid _ (not_of_true (c.llids llid ∙ h.named))
      ∙ goes_out (is_up o.clock.synced) (busy_up o 0x80) (onu_send_choice o.keys) o.first (travel_of o) (eq-eqb o.clock.synced 1 synced)
      (either_none (le-ltb o.tick (free_from o.channels 0x80) (omega (arith, free, c.tick)))
      (both_false_right (choice_enciphered (onu_send_choice o.keys)) (le-ltb _ _ passed))) young

  pub send_up_goes : (onu_at s u).clock.synced ≡ 1 → free_from (onu_at s u).channels 0x80 ≤ now → (onu_at s u).travel.bar ≤ travel_of (onu_at s u)
      → choice_aged (onu_send_choice (onu_at s u).keys) (onu_at s u).first (travel_of (onu_at s u)) ≡ false
      → Step w u s (send_up u llid 0x80 [] []) (lane_sent_up (envelope_up now lane.path (onu_at s u) llid 0x80 [] [] lane.keys.number) lane) now
  unfolding step sending_up onu_send_of onu_sent sending_onu noted pick at_onu with_lanes
  send_up_goes synced free passed young =
      let o = onu_at s u in
      let made : (sending_onu o (misfit [] []) llid 0x80 (eqs_of [])).verdict ≡ no_refusal =
      ap (λ (r : Reply Onu Sending). r.verdict)
      (onu_accepts o no_sending (onu_send_verdict o (misfit [] []) llid 0x80) (onu_after_send o 0x80 (eqs_of [])) _ common.valid
      (send_up_accepts synced free passed young)) in
      record {
        fits = λ a. h.registered;
        lane =
            sent_lane (sending_onu o (misfit [] []) llid 0x80 (eqs_of [])).end (verdict_number (sending_onu o (misfit [] []) llid 0x80 (eqs_of [])).verdict)
            (λ l. lane_sent_up (envelope_up now l.path o llid 0x80 [] [] l.keys.number) l) (ap verdict_number made);
        tick = refl;
      }
