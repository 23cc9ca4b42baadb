-- A frozen line stays frozen, whatever follows. Assumes nothing.
use mathlib.Core.Path.{◌≡◌, refl, sym, ◌∙◌, ap, subst}
use mathlib.Core.Bool.{Bool, true, false}
use mathlib.Core.List.{List, [], ◌∷◌, Memᴰ}
use Prim.Native.Nat.{ℕ, suc, ◌+◌, ◌<◌, ◌≤◌}
use native.Mathlib.Omega.{arith}
use lib.Dec.{eqb}
use lib.ListN.{length, get_or, set}
use lib.Seq.{get_or-set_same, get_or-set_other, set-get_or}
use borrow.Author.Tests.{eqb-true, eqb-false}
use Rattle.octets.specs.Output.{WithOutput}
use Rattle.octets.proofs.Choice.{true_false, pick_holds}
use Rattle.octets.proofs.Members.{mem_at, each_more}
use Rattle.clock.specs.declared.Stamps.{Stamps}
use Rattle.ends.specs.Identities.{no_identity}
use Rattle.ends.specs.Records.{new_onu, with_onu_clock, with_onu_keys, with_onu_first, with_travel}
use Rattle.ends.specs.Table.{unit_at}
use Rattle.ends.specs.declared.FirstSend.{FirstSend}
use Rattle.ends.specs.declared.Identity.{Identity}
use Rattle.ends.specs.declared.Olt.{Olt}
use Rattle.ends.specs.declared.Onu.{Onu}
use Rattle.protocol.specs.Headers.{no_passage}
use Rattle.protocol.specs.Messages.{no_acknowledgement, of_clock, of_key}
use Rattle.protocol.specs.OltCalls.{register_of}
use Rattle.protocol.specs.OltTraffic.{receiving_olt}
use Rattle.protocol.specs.OnuCalls.{onu_answer, onu_acknowledged, new_time_verdict, onu_retimed, new_time_of, clock_message_verdict, onu_synced, clock_message_to, clock_message_at, key_message_verdict, keys_taken, key_message_to, key_message_at}
use Rattle.protocol.specs.OnuTraffic.{onu_receive_choice, onu_receive_verdict, onu_moved, onu_after_receipt, receiving_onu}
use Rattle.protocol.specs.Replies.{silent}
use Rattle.protocol.specs.declared.Acknowledgement.{Acknowledgement}
use Rattle.protocol.specs.declared.Header.{Header}
use Rattle.protocol.specs.declared.KeyChoice.{KeyChoice}
use Rattle.protocol.specs.declared.KeyChoice.TheVariants.{Clear, Current, Next, Barred}
use Rattle.protocol.specs.declared.KeyMessage.{KeyMessage}
use Rattle.protocol.specs.declared.OnuAcknowledged.{OnuAcknowledged}
use Rattle.protocol.proofs.NewTimes.{new_time_refused}
use Rattle.protocol.proofs.OltCalls.{measure_refused, acknowledge_refused}
use Rattle.protocol.proofs.OltTraffic.{receiving_untouched}
use Rattle.protocol.proofs.OnuCalls.{onu_keeps, clock_message_refused, key_message_refused}
use Rattle.protocol.proofs.Replies.{number_refused}
use Rattle.traffic.specs.Passages.{misfit}
use Rattle.traffic.specs.Receipts.{olt_received, olt_receive_of, onu_received, onu_receive_of, onu_not_received}
use Rattle.traffic.specs.Sends.{onu_send_of}
use Rattle.traffic.specs.declared.OnuReceived.{OnuReceived}
use Rattle.unicast.specs.Setting.{Delays, Setting}
use Rattle.unicast.specs.History.{upward, Envelope, InFlight, clock_message, key_message, envelope, left_at, Entry, Lane, lane_with, sending, lane_sent_up, lane_taken, lane_answered, arriving, lane_arrived_down, lane_arrived_up, lane_moved}
use Rattle.unicast.specs.Events.{Event, advance, register, capture, clock_send, offer, retry, send_down, send_up, arrive_down, arrive_up, arrive_answer, overhear, change_path, measure, new_time, stray_clock, stray_key, stray_answer, stray_down, stray_up}
use Rattle.unicast.specs.Run.{State, no_site, fresh_lane, start, lane_at, onu_at, accepted, noted, with_lanes, at_onu, at_olt_for, entering, envelope_up, sending_up, message_arriving, receipt_down, envelope_arriving, in_flight_arriving, no_envelope, in_flight_at, envelope_at, receipt_up, arriving_up, changing, unit_after, olt_after, step, run}
use Rattle.unicast.specs.Premises.{DueUp, Fits, Meets}
use Rattle.unicast.specs.Bounds.{goes}
use Rattle.unicast.proofs.Invariant.{Invariant}
use Rattle.unicast.proofs.Pace.{highest_other, highest_own}
use Rattle.unicast.proofs.Queues.{dropped_among, towards_taken, from_taken}
use Rattle.unicast.proofs.Alive.{Alive, registered_alive}
use Rattle.unicast.proofs.RegisterSteps.{register_made, unregistered}
use Rattle.unicast.proofs.OnuSteps.{send_up_refused, receive_refused}
use Rattle.unicast.proofs.OverheardSteps.{overheard_refused}
use Rattle.unicast.proofs.StartSteps.{start_right}
use Rattle.unicast.proofs.Theorem.{step_right, run_right}
use Rattle.progress.specs.Progress.{confirmed_by}
use Rattle.progress.specs.Frozen.{Stopped, FrozenLine, record_at, Frozen, ForGood}
use Rattle.progress.proofs.Frozen.{Kept, kept_rest, by_answer, still_untold, still_silent, frozen_kept, frozen_at, refuses, not_answered}
use Rattle.progress.proofs.FrozenCalls.{taken_kept, refused_noted, receiving_first, measured_first, registering_first, capture_frozen, clock_send_frozen, offer_frozen, retry_frozen, answer_frozen, send_down_frozen, advance_frozen}

---- calls on a unit

clock_first : (o : Onu) (m : Stamps) → (clock_message_at o m).onu.first ≡ o.first
unfolding clock_message_at clock_message_to onu_acknowledged onu_synced with_onu_clock
clock_first o m =
    onu_keeps (λ (p : Onu). p.first ≡ o.first) o no_acknowledgement (clock_message_verdict m) (onu_synced o m) of_clock refl (λ v a. refl)

key_first : (o : Onu) (m : KeyMessage) → (key_message_at o m).onu.first ≡ o.first
unfolding key_message_at key_message_to onu_acknowledged with_onu_keys
key_first o m =
    onu_keeps (λ (p : Onu). p.first ≡ o.first) o no_acknowledgement (key_message_verdict o m) (with_onu_keys o (keys_taken o.keys m)) (of_key m.number) refl
    (λ v a. refl)

time_first : (o : Onu) (time : ℕ) → (new_time_of o time).onu.first ≡ o.first
unfolding new_time_of onu_answer onu_retimed with_onu_clock with_travel
time_first o time =
    onu_keeps (λ (p : Onu). p.first ≡ o.first) o silent (new_time_verdict o time) (onu_retimed o time) silent refl (λ v a. refl)

-- a receipt that leaves the unit's number leaves its first send
after_receipt_first : (choice : KeyChoice) (o : Onu) → (onu_after_receipt choice o).keys.active ≡ o.keys.active
    → (onu_after_receipt choice o).first ≡ o.first
unfolding onu_after_receipt onu_moved with_onu_first with_onu_keys
after_receipt_first Clear o e = refl
after_receipt_first (Current n) o e = refl
after_receipt_first (Next n) o e = absurd (omega (arith, e))
after_receipt_first (Barred r) o e = refl

received_first : (o : Onu) (h : Header) (p out : List ℕ) → (onu_receive_of o h p out).answer.onu.keys.active ≡ o.keys.active
    → (onu_receive_of o h p out).answer.onu.first ≡ o.first
unfolding onu_receive_of onu_received receiving_onu
received_first o h p out =
    onu_keeps (λ (q : Onu). q.keys.active ≡ o.keys.active → q.first ≡ o.first) o no_passage (onu_receive_verdict o (misfit p out) h)
    (onu_after_receipt (onu_receive_choice o.keys h) o) _ (λ e. refl) (λ v a. after_receipt_first (onu_receive_choice o.keys h) o)

answered_kept : (number : ℕ) (a : Acknowledgement) (now k : ℕ) (l : Lane) → Kept l (noted number (lane_answered a now) (lane_taken k l))
unfolding noted lane_answered lane_with lane_taken
answered_kept number a now k l =
    let t = taken_kept k l in
    pick_holds (λ (m : Lane). Kept l m) (accepted number) (lane_answered a now (lane_taken k l)) (lane_taken k l)
    (λ e. kept_rest l (lane_answered a now (lane_taken k l)) refl refl refl refl refl refl t.towards t.from) (λ e. t)

below : (a b : ℕ) → a ≤ b → (a ≡ b → ⊥) → a < b
below a b h n = by_test (eqb a b) refl where
  by_test : (t : Bool) → eqb a b ≡ t → a < b
  by_test true e = absurd (n (eqb-true a b e))
  by_test false e = omega (arith, h, eqb-false a b e)

-- the unit itself, or another
by_unit : (P : ℕ → Type 0) (u v : ℕ) → P u → ((u ≡ v → ⊥) → P v) → P v
by_unit P u v own other = by_test (eqb u v) refl where
  by_test : (t : Bool) → eqb u v ≡ t → P v
  by_test true e = subst P (eqb-true u v e) own
  by_test false e = other (eqb-false u v e)

module _ (b : Bool) (w : Setting) (s : State) (u mine : ℕ) (v : Invariant w s) (z : Frozen b s u mine) where
  abbrev now : ℕ
  now = s.history.now

  abbrev l : Lane
  l = lane_at s u

  here : Alive w s u
  here = registered_alive w s u v z.registered

  other_unit : (other : ℕ) (o : Onu) (f : Lane → Lane) → (u ≡ other → ⊥) → Frozen b (at_onu s other o f) u mine
  unfolding at_onu with_lanes
  other_unit other o f n =
      frozen_at b (at_onu s other o f) u mine now l (record_at s u).keys.first (onu_at s u).first refl
      (get_or-set_other s.history.lanes other u (f (lane_at s other)) (fresh_lane no_site) n) refl
      (ap (λ (x : Onu). x.first) (get_or-set_other s.onus other u o (new_onu no_identity 0 0) n)) z

  own_unit : (o : Onu) (f : Lane → Lane) → FrozenLine b mine now (f l) (unit_at s.olt (f l).entry.place).keys.first o.first
      → Frozen b (at_onu s u o f) u mine
  unfolding at_onu with_lanes
  own_unit o f y =
      frozen_at b (at_onu s u o f) u mine now (f l) (unit_at s.olt (f l).entry.place).keys.first o.first refl
      (get_or-set_same s.history.lanes u (f l) (fresh_lane no_site) here.known) refl
      (ap (λ (x : Onu). x.first) (get_or-set_same s.onus u o (new_onu no_identity 0 0) (omega (arith, here.known, v.paired)))) y

  -- where the lane keeps what it is told by, and the unit its first send
  kept_unit : (o : Onu) (f : Lane → Lane) → Kept l (f l) → o.first ≡ (onu_at s u).first → Frozen b (at_onu s u o f) u mine
  kept_unit o f k same =
      own_unit o f
      (subst (λ (i : ℕ). FrozenLine b mine now (f l) (unit_at s.olt i).keys.first o.first) (sym (ap (λ (e : Entry). e.place) k.entry))
      (subst (λ (x : FirstSend). FrozenLine b mine now (f l) (record_at s u).keys.first x) (sym same)
      (frozen_kept b mine now now l (f l) _ _ (omega arith) k z)))

  -- a unit that is left as it was
  left_unit : (other : ℕ) (o : Onu) → o ≡ onu_at s other → Frozen b (unit_after s other o) u mine
  unfolding unit_after
  left_unit other o e =
      frozen_at b (unit_after s other o) u mine now l (record_at s u).keys.first (onu_at s u).first refl refl refl
      (ap (λ (xs : List Onu). (get_or xs u (new_onu no_identity 0 0)).first) (ap (set s.onus other) e ∙ set-get_or s.onus other (new_onu no_identity 0 0))) z

  ---- a send of a unit

  own_send : (llid channel : ℕ) (p out : List ℕ) → Frozen b (step s (send_up u llid channel p out)) u mine
  unfolding step sending_up noted lane_sent_up lane_with sending envelope_up
  own_send llid channel p out =
      let o = (onu_send_of (onu_at s u) llid channel p out).answer.onu in
      let number = (onu_send_of (onu_at s u) llid channel p out).answer.number in
      let f : Lane → Lane = λ m. lane_sent_up (envelope_up now m.path (onu_at s u) llid channel p out m.keys.number) m in
      own_unit o (noted number f)
      (pick_holds (λ (m : Lane). FrozenLine b mine now m (unit_at s.olt m.entry.place).keys.first o.first) (accepted number) (f l) l
      (λ e.
      by_answer b now l (onu_at s u).first z.unit (FrozenLine b mine now (f l) (record_at s u).keys.first o.first)
      (λ q y.
      record {
        registered = z.registered;
        named = z.named;
        unconfirmed = z.unconfirmed;
        begun = z.begun;
        old = z.old;
        lost =
            each_more (λ (x : Envelope). x.number ≡ l.keys.switches → x.left + l.path.up < now) l.transit.from _ z.lost
            (λ same. absurd (omega (arith, same, y.behind)));
        unit = still_untold b now (f l) o.first q (record { behind = y.behind; lost = y.lost });
      })
      (λ q y. absurd (not_answered b w s u mine v z y llid channel p out (eqb-true number 0 e))))
      (λ e.
      subst (λ (x : Onu). FrozenLine b mine now l (record_at s u).keys.first x.first)
      (sym (send_up_refused (onu_at s u) llid channel p out (eqb-false number 0 e))) z))

  ---- what arrives for a unit

  message_own : (k : ℕ) (r : OnuAcknowledged) → r.onu.first ≡ (onu_at s u).first → Frozen b (message_arriving s u k r) u mine
  unfolding message_arriving
  message_own k r same =
      kept_unit r.onu (λ m. noted r.number (lane_answered r.acknowledgement now) (lane_taken k m))
      (answered_kept r.number r.acknowledgement now k l) same

  -- the unit's number is that of the last envelope, after it too
  last_is : (o : Onu) (f : Lane → Lane) → (f l).entry ≡ l.entry → Invariant w (at_onu s u o f) → o.keys.active ≡ (f l).keys.number
  unfolding at_onu with_lanes
  last_is o f entry i =
      let lane : lane_at (at_onu s u o f) u ≡ f l = get_or-set_same s.history.lanes u (f l) (fresh_lane no_site) here.known in
      let unit : onu_at (at_onu s u o f) u ≡ o = get_or-set_same s.onus u o (new_onu no_identity 0 0) (omega (arith, here.known, v.paired)) in
      let registered = ap (λ (m : Lane). m.entry.registered) lane ∙ ap (λ (e : Entry). e.registered) entry ∙ z.registered in
      sym (ap (λ (x : Onu). x.keys.active) unit)
      ∙ (registered_alive w (at_onu s u o f) u i registered).joined.numbers.last
      ∙ ap (λ (m : Lane). m.keys.number) lane

  envelope_own : (k : ℕ) (e : Envelope) (out : List ℕ) → k < length l.transit.towards → in_flight_at s u k ≡ envelope e
      → e.left + l.path.down ≡ now → Invariant w (envelope_arriving s u k e out) → Frozen b (envelope_arriving s u k e out) u mine
  unfolding envelope_arriving receipt_down lane_arrived_down lane_taken lane_with arriving
  envelope_own k e out some is due i =
      let j = here.joined in
      let n = j.numbers in
      let o = (onu_receive_of (onu_at s u) e.header e.octets out).answer.onu in
      let r = receipt_down s u e out in
      let f : Lane → Lane = λ m. lane_arrived_down r (lane_taken k m) in
      let m = f l in
      let under = (towards_taken w.first l.path l (onu_at s u).keys.active (record_at s u).keys.active (record_at s u).keys.offered
      l.transit.towards k (envelope no_envelope) (envelope e) some is j.towards).0 in
      let arrived : confirmed_by m ≡ confirmed_by l = highest_other upward l.past.arrived r (ap (goes upward) under.that_way) in
      let among : Memᴰ (envelope e) l.transit.towards =
      subst (λ (y : InFlight). Memᴰ y l.transit.towards) is (mem_at l.transit.towards k (envelope no_envelope) some) in
      own_unit o f
      (record {
        registered = z.registered;
        named = z.named;
        unconfirmed = z.unconfirmed ∙ sym (ap (λ (c : ℕ). c + 1) arrived);
        begun = z.begun;
        old = z.old;
        lost = z.lost;
        unit =
            by_answer b now l (onu_at s u).first z.unit (Stopped b now m o.first)
            (λ q y.
            still_untold b now m o.first q
            (record {
              behind = below e.number l.keys.switches (omega (arith, under.most, n.counted))
                  (λ same. let late = y.lost e among same in omega (arith, late, due));
              lost = λ x i. y.lost x (dropped_among (envelope x) l.transit.towards (suc k) i);
            }))
            (λ q y.
            let told : e.number ≡ l.keys.switches = omega (arith, under.above, under.most, n.counted, n.last, y.told) in
            let active : o.keys.active ≡ e.number = last_is o f refl i in
            let same = received_first (onu_at s u) e.header e.octets out (omega (arith, active, told, y.told, n.last)) in
            still_silent b now m o.first q
            (record {
              told = told;
              begun = ap (λ (x : FirstSend). x.noted) same ∙ y.begun;
              old = omega (arith, y.old, ap (λ (x : FirstSend). x.at) same);
            }));
      })

  in_flight_own : (k : ℕ) (out : List ℕ) (x : InFlight) → k < length l.transit.towards → in_flight_at s u k ≡ x
      → left_at x + l.path.down ≡ now → Invariant w (in_flight_arriving s u k out x) → Frozen b (in_flight_arriving s u k out x) u mine
  unfolding in_flight_arriving
  in_flight_own k out (clock_message m c t) some is due i = message_own k (clock_message_at (onu_at s u) m) (clock_first (onu_at s u) m)
  in_flight_own k out (key_message m t) some is due i = message_own k (key_message_at (onu_at s u) m) (key_first (onu_at s u) m)
  in_flight_own k out (envelope e) some is due i = envelope_own k e out some is due i

  in_flight_other : (other k : ℕ) (out : List ℕ) (x : InFlight) → (u ≡ other → ⊥) → Frozen b (in_flight_arriving s other k out x) u mine
  unfolding in_flight_arriving message_arriving envelope_arriving
  in_flight_other other k out (clock_message m c t) n = other_unit other _ _ n
  in_flight_other other k out (key_message m t) n = other_unit other _ _ n
  in_flight_other other k out (envelope e) n = other_unit other _ _ n

  ---- what arrives from a unit

  up_other : (other k : ℕ) (e : Envelope) (out : List ℕ) → (u ≡ other → ⊥) → Frozen b (arriving_up s other k e out) u mine
  unfolding arriving_up at_olt_for with_lanes
  up_other other k e out n =
      frozen_at b (arriving_up s other k e out) u mine now l (record_at s u).keys.first (onu_at s u).first refl
      (get_or-set_other s.history.lanes other u _ (fresh_lane no_site) n) (receiving_first s.olt e.header e.octets out l.entry.place) refl z

  up_own : (k : ℕ) (out : List ℕ) → DueUp s u k out → Frozen b (arriving_up s u k (envelope_at s u k) out) u mine
  unfolding arriving_up at_olt_for with_lanes lane_arrived_up lane_with arriving receipt_up
  up_own k out d =
      let j = here.joined in
      let n = j.numbers in
      let e = envelope_at s u k in
      let r = receipt_up s e out in
      let m = lane_arrived_up k r l in
      let under = (from_taken l (record_at s u).confirmation.confirmed (onu_at s u).keys.active l.transit.from k no_envelope e d.some refl
      j.from).0 in
      let lower : e.number < l.keys.switches =
      below e.number l.keys.switches (omega (arith, under.most, n.mid, n.counted))
      (λ same. let late = z.lost e (mem_at l.transit.from k no_envelope d.some) same in omega (arith, late, d.now)) in
      let arrived : confirmed_by m ≡ e.number =
      highest_own upward l.past.arrived r (ap (goes upward) under.that_way) (omega (arith, under.above, j.heard)) in
      frozen_at b (arriving_up s u k e out) u mine now m (record_at s u).keys.first (onu_at s u).first refl
      (get_or-set_same s.history.lanes u m (fresh_lane no_site) here.known)
      (receiving_first s.olt e.header e.octets out l.entry.place) refl
      (record {
        registered = z.registered;
        named = z.named;
        unconfirmed = omega (arith, arrived, lower, under.above, j.heard, z.unconfirmed);
        begun = z.begun;
        old = z.old;
        lost = λ x q. z.lost x (dropped_among x l.transit.from (suc k) q);
        unit =
            by_answer b now l (onu_at s u).first z.unit (Stopped b now m (onu_at s u).first)
            (λ q y. still_untold b now m (onu_at s u).first q (record { behind = y.behind; lost = y.lost }))
            (λ q y. still_silent b now m (onu_at s u).first q (record { told = y.told; begun = y.begun; old = y.old }));
      })

  ---- a change of a path: what is under way is lost, and travel is no less than at the shortest delay up

  change_other : (other llid time : ℕ) (p : Delays) → (u ≡ other → ⊥) → Frozen b (changing s other llid time p) u mine
  unfolding changing with_lanes
  change_other other llid time p n =
      frozen_at b (changing s other llid time p) u mine now l (record_at s u).keys.first (onu_at s u).first refl
      (get_or-set_other s.history.lanes other u _ (fresh_lane no_site) n) (measured_first s.olt llid (p.up + p.down) l.entry.place)
      (ap (λ (x : Onu). x.first) (get_or-set_other s.onus other u _ (new_onu no_identity 0 0) n)) z

  change_own : (llid time : ℕ) (p : Delays) → Frozen b (changing s u llid time p) u mine
  unfolding changing with_lanes lane_moved
  change_own llid time p =
      let o = (new_time_of (onu_at s u) time).onu in
      let m = lane_moved p now l in
      frozen_at b (changing s u llid time p) u mine now m (record_at s u).keys.first (onu_at s u).first refl
      (get_or-set_same s.history.lanes u m (fresh_lane no_site) here.known)
      (measured_first s.olt llid (p.up + p.down) l.entry.place)
      (ap (λ (x : Onu). x.first) (get_or-set_same s.onus u o (new_onu no_identity 0 0) (omega (arith, here.known, v.paired)))
      ∙ time_first (onu_at s u) time)
      (record {
        registered = z.registered;
        named = z.named;
        unconfirmed = z.unconfirmed;
        begun = z.begun;
        old = z.old;
        lost = λ e i. absurd (mathlib.Core.List.Memᴰ.not-nil i);
        unit =
            by_answer b now l (onu_at s u).first z.unit (Stopped b now m (onu_at s u).first)
            (λ q y. still_untold b now m (onu_at s u).first q (record { behind = y.behind; lost = λ e i. absurd (mathlib.Core.List.Memᴰ.not-nil i) }))
            (λ q y. still_silent b now m (onu_at s u).first q (record { told = y.told; begun = y.begun; old = omega (arith, y.old) }));
      })

  ---- a registration: the unit has had its own

  register_at : (other : ℕ) (i : Identity) (trip interval : ℕ) → lane_at (step s (register other i trip interval)) u ≡ l
      → Frozen b (step s (register other i trip interval)) u mine
  unfolding step entering
  register_at other i trip interval lane =
      frozen_at b (step s (register other i trip interval)) u mine now l (record_at s u).keys.first (onu_at s u).first refl lane
      (registering_first s.olt i trip interval l.entry.place here.used) refl z

  register_own : (i : Identity) (trip interval : ℕ) → Fits w s (register u i trip interval) → Frozen b (step s (register u i trip interval)) u mine
  unfolding step entering
  register_own i trip interval f = by_number (eqb number 0) refl where
    number : ℕ
    number = (register_of s.olt i trip interval).number

    by_number : (t : Bool) → eqb number 0 ≡ t → Frozen b (step s (register u i trip interval)) u mine
    by_number true e =
        let zero = eqb-true number 0 e in
        true_false (sym z.registered ∙ unregistered w s u i trip interval v (f zero) (register_made s.olt i trip interval zero).1)
    by_number false e =
        register_at u i trip interval
        (get_or-set_same s.history.lanes u _ (fresh_lane no_site) here.known ∙ refused_noted number _ l (eqb-false number 0 e))

  register_other : (other : ℕ) (i : Identity) (trip interval : ℕ) → (u ≡ other → ⊥) → Frozen b (step s (register other i trip interval)) u mine
  unfolding step entering
  register_other other i trip interval n =
      register_at other i trip interval (get_or-set_other s.history.lanes other u _ (fresh_lane no_site) n)

  -- an OLT that is left as it was
  left_olt : (o : Olt) → o ≡ s.olt → Frozen b (olt_after s o) u mine
  unfolding olt_after
  left_olt o e =
      frozen_at b (olt_after s o) u mine now l (record_at s u).keys.first (onu_at s u).first refl refl
      (ap (λ (x : Olt). (unit_at x l.entry.place).keys.first) e) refl z

---- every event

step_frozen : (b : Bool) (w : Setting) (s : State) (u mine : ℕ) (e : Event) → Invariant w s → Frozen b s u mine → Fits w s e
    → Frozen b (step s e) u mine
unfolding step sending_up onu_not_received olt_receive_of olt_received
step_frozen b w s u mine (advance n) v z f = advance_frozen b w s u mine n v z
step_frozen b w s u mine (register x i trip interval) v z f =
    by_unit (λ (y : ℕ). Fits w s (register y i trip interval) → Frozen b (step s (register y i trip interval)) u mine) u x
    (register_own b w s u mine v z i trip interval) (λ n g. register_other b w s u mine v z x i trip interval n) f
step_frozen b w s u mine (capture llid) v z f = capture_frozen b s u mine llid z
step_frozen b w s u mine (clock_send llid) v z f = clock_send_frozen b s u mine llid z
step_frozen b w s u mine (offer llid key) v z f = offer_frozen b s u mine llid key z
step_frozen b w s u mine (retry llid) v z f = retry_frozen b s u mine llid z
step_frozen b w s u mine (send_down llid channel p out) v z f = send_down_frozen b w s u mine llid channel p out v z
step_frozen b w s u mine (send_up x llid channel p out) v z f =
    by_unit (λ (y : ℕ). Frozen b (step s (send_up y llid channel p out)) u mine) u x (own_send b w s u mine v z llid channel p out)
    (λ n. other_unit b w s u mine v z x _ _ n)
step_frozen b w s u mine (arrive_down x k out) v z f =
    by_unit (λ (y : ℕ). Fits w s (arrive_down y k out) → Frozen b (step s (arrive_down y k out)) u mine) u x
    (λ d. in_flight_own b w s u mine v z k out (in_flight_at s u k) d.some refl d.now (step_right w s (arrive_down u k out) v d))
    (λ n d. in_flight_other b w s u mine v z x k out (in_flight_at s x k) n) f
step_frozen b w s u mine (arrive_up x k out) v z f =
    by_unit (λ (y : ℕ). Fits w s (arrive_up y k out) → Frozen b (step s (arrive_up y k out)) u mine) u x (up_own b w s u mine v z k out)
    (λ n d. up_other b w s u mine v z x k (envelope_at s x k) out n) f
step_frozen b w s u mine (arrive_answer x k llid) v z f = answer_frozen b s u mine x k llid z
step_frozen b w s u mine (overhear x other k out) v z f =
    left_unit b w s u mine v z x _ (ap (λ (y : WithOutput OnuReceived). y.answer.onu) (overheard_refused w s v x other k out f))
step_frozen b w s u mine (change_path x llid time p) v z f =
    by_unit (λ (y : ℕ). Frozen b (step s (change_path y llid time p)) u mine) u x (change_own b w s u mine v z llid time p)
    (change_other b w s u mine v z x llid time p)
step_frozen b w s u mine (measure llid trip) v z f = left_olt b w s u mine v z _ (measure_refused s.olt llid trip f)
step_frozen b w s u mine (new_time x time) v z f = left_unit b w s u mine v z x _ (new_time_refused (onu_at s x) time f)
step_frozen b w s u mine (stray_clock x m) v z f = left_unit b w s u mine v z x _ (clock_message_refused (onu_at s x) m f).0
step_frozen b w s u mine (stray_key x m) v z f = left_unit b w s u mine v z x _ (key_message_refused (onu_at s x) m f).0
step_frozen b w s u mine (stray_answer llid a) v z f = left_olt b w s u mine v z _ (acknowledge_refused s.olt llid a f)
step_frozen b w s u mine (stray_down x h p out) v z f = left_unit b w s u mine v z x _ (receive_refused (onu_at s x) h p out f)
step_frozen b w s u mine (stray_up h p out) v z f =
    left_olt b w s u mine v z _
    (number_refused s.olt no_passage (receiving_olt s.olt (misfit p out) h) (receiving_untouched s.olt (misfit p out) h) f).end

run_frozen : (b : Bool) (w : Setting) (s : State) (u mine : ℕ) (es : List Event) → Invariant w s → Frozen b s u mine → Meets w s es
    → Frozen b (run s es) u mine
unfolding run
run_frozen b w s u mine [] v z m = z
run_frozen b w s u mine (e ∷ es) v z m =
    run_frozen b w (step s e) u mine es (step_right w s e v m.0) (step_frozen b w s u mine e v z m.0) m.1

pub for_good-holds : ForGood
for_good-holds b w es later u llid fresh meets z m =
    let s = run (start w) es in
    let v = run_right w (start w) es (start_right w fresh) meets in
    let y = run_frozen b w s u llid later v z m in
    (y, refuses b w (run s later) u llid (run_right w s later v m) y)
