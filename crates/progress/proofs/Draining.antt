-- What is under way arrives when it is due: each arrival fits, and leaves the unit where it can go on. Assumes nothing.
use mathlib.Core.Path.{◌≡◌, refl, sym, ◌∙◌, ap, subst}
use mathlib.Core.Bool.{Bool, true, false}
use mathlib.Core.List.{List, [], ◌∷◌, ◌++◌, Memᴰ}
use Prim.Native.Nat.{ℕ, zero, suc, ◌+◌, ◌-◌, ◌<◌, ◌≤◌, max}
use native.Mathlib.Nat.{le-max_left, le-max_right, max-le}
use native.Mathlib.Omega.{arith}
use lib.Dec.{leb, ltb}
use lib.ListN.{length, get_or, drop, length-map, get_or-map}
use borrow.Author.Tests.{leb-true, leb-false, ltb-false}
use Rattle.octets.specs.Choice.{pick}
use Rattle.octets.proofs.Choice.{pick_holds}
use Rattle.octets.proofs.Members.{mem_at}
use Rattle.clock.specs.Ticks.{max_tick}
use Rattle.protocol.specs.OnuCalls.{clock_message_at, key_message_at}
use Rattle.protocol.specs.declared.OnuAcknowledged.{OnuAcknowledged}
use Rattle.unicast.specs.Setting.{Delays, Setting}
use Rattle.unicast.specs.History.{Direction, upward, Envelope, InFlight, clock_message, key_message, envelope, left_at, Arrival, Lane, lane_with, arriving, lane_taken, lane_answered, lane_arrived_down, lane_arrived_up, is_synced}
use Rattle.unicast.specs.Events.{Event, advance, arrive_down, arrive_up}
use Rattle.unicast.specs.Run.{State, lane_at, onu_at, noted, accepted, receipt_down, receipt_up, no_envelope, in_flight_at, envelope_at, step, run}
use Rattle.unicast.specs.Premises.{FittingBuffer, DueDown, Meets}
use Rattle.unicast.specs.Bounds.{goes, highest}
use Rattle.unicast.proofs.Queues.{dropped_among}
use Rattle.unicast.proofs.Frames.{clock_more}
use Rattle.unicast.proofs.Run.{run_append, meets_append}
use Rattle.progress.specs.Progress.{confirmed_by, trip_of, awaited_count, LosesNothing, due_down, due_up, overdue, awaited, buffer_for, next_down, next_up, next_by, next, drained}
use Rattle.progress.proofs.Going.{Here, here_after, alive, advance_goes}
use Rattle.progress.proofs.Whole.{late_same, same_keeps, down_fewer, up_fewer, whole_append}
use Rattle.progress.proofs.Arriving.{in_flight_lane, in_flight_goes, up_arrival_goes}
use Rattle.progress.proofs.Calm.{Calms}
use Rattle.progress.proofs.Journey.{calms_append}
use Rattle.progress.proofs.Offers.{Unofferings}

---- what arrivals leave of a lane

pub record Drained (l m : Lane) : Type 0 where
  pub site : m.site ≡ l.site
  pub path : m.path ≡ l.path
  pub entry : m.entry ≡ l.entry
  pub switches : m.keys.switches ≡ l.keys.switches
  pub switched : m.keys.switched ≡ l.keys.switched
  pub sent : m.past.sent ≡ l.past.sent
  pub grows : confirmed_by l ≤ confirmed_by m
  pub synced : is_synced l ≡ true → is_synced m ≡ true
  pub towards : (x : InFlight) → Memᴰ x m.transit.towards → Memᴰ x l.transit.towards
  pub from : (e : Envelope) → Memᴰ e m.transit.from → Memᴰ e l.transit.from

pub drained_same : (l m : Lane) → m ≡ l → Drained l m
drained_same l m e =
    rw e
    (record {
      site = refl;
      path = refl;
      entry = refl;
      switches = refl;
      switched = refl;
      sent = refl;
      grows = omega arith;
      synced = λ y. y;
      towards = λ x i. i;
      from = λ x i. i;
    })

pub drained_then : (l m k : Lane) → Drained l m → Drained m k → Drained l k
drained_then l m k a b =
    record {
      site = b.site ∙ a.site;
      path = b.path ∙ a.path;
      entry = b.entry ∙ a.entry;
      switches = b.switches ∙ a.switches;
      switched = b.switched ∙ a.switched;
      sent = b.sent ∙ a.sent;
      grows = omega (arith, a.grows, b.grows);
      synced = λ y. b.synced (a.synced y);
      towards = λ x i. a.towards x (b.towards x i);
      from = λ x i. a.from x (b.from x i);
    }

picked : (t : Bool) (n a b : ℕ) → a ≤ b → pick t (max n a) a ≤ pick t (max n b) b
unfolding pick
picked true n a b h = max-le (le-max_left n b) (omega (arith, h, le-max_right n b))
picked false n a b h = h

highest_grows : (direction : Direction) (rs : List Arrival) (r : Arrival) → highest direction rs ≤ highest direction (rs ++ (r ∷ []))
unfolding highest
highest_grows direction [] r = omega arith
highest_grows direction (y ∷ ys) r = by_direction (goes direction y.envelope.direction) (highest_grows direction ys r) where
  by_direction : (t : Bool) → highest direction ys ≤ highest direction (ys ++ (r ∷ []))
      → pick t (max y.envelope.number (highest direction ys)) (highest direction ys)
      ≤ pick t (max y.envelope.number (highest direction (ys ++ (r ∷ [])))) (highest direction (ys ++ (r ∷ [])))
  by_direction t h = picked t y.envelope.number (highest direction ys) (highest direction (ys ++ (r ∷ []))) h

taken_drained : (k : ℕ) (l : Lane) → Drained l (lane_taken k l)
unfolding lane_taken lane_with
taken_drained k l =
    record {
      site = refl;
      path = refl;
      entry = refl;
      switches = refl;
      switched = refl;
      sent = refl;
      grows = omega arith;
      synced = λ y. y;
      towards = λ x i. dropped_among x l.transit.towards (suc k) i;
      from = λ x i. i;
    }

answered_drained : (number : ℕ) (r : OnuAcknowledged) (now k : ℕ) (l : Lane)
    → Drained l (noted number (lane_answered r.acknowledgement now) (lane_taken k l))
unfolding noted lane_answered lane_taken lane_with
answered_drained number r now k l =
    drained_then l (lane_taken k l) _ (taken_drained k l)
    (pick_holds (λ (m : Lane). Drained (lane_taken k l) m) (accepted number) (lane_answered r.acknowledgement now (lane_taken k l)) (lane_taken k l)
    (λ e.
    record {
      site = refl;
      path = refl;
      entry = refl;
      switches = refl;
      switched = refl;
      sent = refl;
      grows = omega arith;
      synced = λ y. clock_more l.transit.answered _ y;
      towards = λ x i. i;
      from = λ x i. i;
    })
    (λ e. drained_same (lane_taken k l) (lane_taken k l) refl))

arrived_drained : (k : ℕ) (r : Arrival) (l : Lane) → Drained l (lane_arrived_down r (lane_taken k l))
unfolding lane_arrived_down arriving lane_taken lane_with
arrived_drained k r l =
    record {
      site = refl;
      path = refl;
      entry = refl;
      switches = refl;
      switched = refl;
      sent = refl;
      grows = highest_grows upward l.past.arrived r;
      synced = λ y. y;
      towards = λ x i. dropped_among x l.transit.towards (suc k) i;
      from = λ x i. i;
    }

up_drained : (k : ℕ) (r : Arrival) (l : Lane) → Drained l (lane_arrived_up k r l)
unfolding lane_arrived_up arriving lane_with
up_drained k r l =
    record {
      site = refl;
      path = refl;
      entry = refl;
      switches = refl;
      switched = refl;
      sent = refl;
      grows = highest_grows upward l.past.arrived r;
      synced = λ y. y;
      towards = λ x i. i;
      from = λ x i. dropped_among x l.transit.from (suc k) i;
    }

in_flight_drained : (w : Setting) (u llid : ℕ) (s : State) (h : Here w u llid s) (k : ℕ) (out : List ℕ) (x : InFlight)
    → Drained (lane_at s u) (in_flight_lane w u llid s h k out x)
unfolding in_flight_lane
in_flight_drained w u llid s h k out (clock_message m c t) = answered_drained _ (clock_message_at (onu_at s u) m) s.history.now k (lane_at s u)
in_flight_drained w u llid s h k out (key_message m t) = answered_drained _ (key_message_at (onu_at s u) m) s.history.now k (lane_at s u)
in_flight_drained w u llid s h k out (envelope e) = arrived_drained k (receipt_down s u e out) (lane_at s u)

-- what it leaves under way
record Takes (k : ℕ) (l m : Lane) : Type 0 where
  towards : m.transit.towards ≡ drop (suc k) l.transit.towards
  from : m.transit.from ≡ l.transit.from

noted_takes : (number : ℕ) (r : OnuAcknowledged) (now k : ℕ) (l : Lane) → Takes k l (noted number (lane_answered r.acknowledgement now) (lane_taken k l))
unfolding noted lane_answered lane_taken lane_with
noted_takes number r now k l =
    pick_holds (λ (m : Lane). Takes k l m) (accepted number) (lane_answered r.acknowledgement now (lane_taken k l)) (lane_taken k l)
    (λ e. record { towards = refl; from = refl }) (λ e. record { towards = refl; from = refl })

in_flight_takes : (w : Setting) (u llid : ℕ) (s : State) (h : Here w u llid s) (k : ℕ) (out : List ℕ) (x : InFlight)
    → Takes k (lane_at s u) (in_flight_lane w u llid s h k out x)
unfolding in_flight_lane lane_arrived_down lane_taken lane_with
in_flight_takes w u llid s h k out (clock_message m c t) = noted_takes _ (clock_message_at (onu_at s u) m) s.history.now k (lane_at s u)
in_flight_takes w u llid s h k out (key_message m t) = noted_takes _ (key_message_at (onu_at s u) m) s.history.now k (lane_at s u)
in_flight_takes w u llid s h k out (envelope e) = record { towards = refl; from = refl }

up_towards : (k : ℕ) (r : Arrival) (l : Lane) → ((lane_arrived_up k r l).transit.from ≡ drop (suc k) l.transit.from)
    × ((lane_arrived_up k r l).transit.towards ≡ l.transit.towards)
unfolding lane_arrived_up lane_with
up_towards k r l = (refl, refl)

---- which is due first

-- the first that is not overdue, at place k
pub record First (now : ℕ) (ts : List ℕ) (k t : ℕ) : Type 0 where
  pub some : k < length ts
  pub is : (d : ℕ) → get_or ts k d ≡ t
  pub early : now ≤ t

cons_first : (x y : ℕ) (xs ys : List ℕ) → ◌≡◌ {A = List ℕ} (x ∷ xs) (y ∷ ys) → x ≡ y
cons_first x y xs ys e = ap (λ (l : List ℕ). get_or l 0 0) e

no_cons : {P : Type 0} (y : ℕ) (ys : List ℕ) → ◌≡◌ {A = List ℕ} [] (y ∷ ys) → P
no_cons y ys e = absurd (omega (arith, ap length e))

pub first_awaited : (now : ℕ) (ts : List ℕ) (t : ℕ) (rest : List ℕ) → awaited now ts ≡ t ∷ rest → First now ts (overdue now ts) t
unfolding overdue pick
first_awaited now [] t rest e = no_cons t rest e
first_awaited now (x ∷ xs) t rest e = by_late (ltb x now) refl e (first_awaited now xs t rest) where
  by_late : (b : Bool) → ltb x now ≡ b → drop (pick b (suc (overdue now xs)) 0) (x ∷ xs) ≡ t ∷ rest
      → (awaited now xs ≡ t ∷ rest → First now xs (overdue now xs) t) → First now (x ∷ xs) (pick b (suc (overdue now xs)) 0) t
  by_late true f e more = let r = more e in record { some = omega (arith, r.some); is = r.is; early = r.early }
  by_late false f e more =
      let same = cons_first x t xs rest e in
      record { some = omega arith; is = λ d. same; early = omega (arith, same, ltb-false x now f) }

fits_buffer : (x : InFlight) → FittingBuffer x (buffer_for x)
fits_buffer (clock_message m c t) = tt
fits_buffer (key_message m t) = tt
fits_buffer (envelope e) = refl

one_less : (a b c : ℕ) → a ≡ b → b + 1 ≡ c → a ≤ c - 1
one_less a b c e f = omega (arith, e, f)

---- one of them arrives

-- what is under way left by then
pub record LeftBy (l : Lane) (tick : ℕ) : Type 0 where
  pub towards : (x : InFlight) → Memᴰ x l.transit.towards → left_at x ≤ tick
  pub from : (e : Envelope) → Memᴰ e l.transit.from → e.left ≤ tick

left_kept : (l m : Lane) (tick : ℕ) → Drained l m → LeftBy l tick → LeftBy m tick
left_kept l m tick d b = record { towards = λ x i. b.towards x (d.towards x i); from = λ e i. b.from e (d.from e i) }

-- a list of arrivals
pub record Drains (w : Setting) (u llid : ℕ) (s : State) (es : List Event) (most : ℕ) : Type 0 where
  pub meets : Meets w s es
  pub here : Here w u llid (run s es)
  pub drained : Drained (lane_at s u) (lane_at (run s es) u)
  pub soon : (run s es).history.now ≤ most
  pub calm : Calms es
  pub quiet : Unofferings es
  pub whole : LosesNothing s u es

drains_nil : (w : Setting) (u llid : ℕ) (s : State) (most : ℕ) → Here w u llid s → s.history.now ≤ most → Drains w u llid s [] most
unfolding run
drains_nil w u llid s most h soon =
    record { meets = tt; here = h; drained = drained_same (lane_at s u) (lane_at s u) refl; soon = soon; calm = tt; quiet = tt; whole = tt }

quiet_append : (es fs : List Event) → Unofferings es → Unofferings fs → Unofferings (es ++ fs)
quiet_append [] fs a b = b
quiet_append (e ∷ es) fs a b = (a.0, quiet_append es fs a.1 b)

drains_append : (w : Setting) (u llid : ℕ) (s : State) (es fs : List Event) (most : ℕ) → Drains w u llid s es most → Drains w u llid (run s es) fs most
    → Drains w u llid s (es ++ fs) most
drains_append w u llid s es fs most a b =
    let same = run_append s es fs in
    record {
      meets = meets_append w s es fs a.meets b.meets;
      here = rw same b.here;
      drained = rw same (drained_then (lane_at s u) (lane_at (run s es) u) (lane_at (run (run s es) fs) u) a.drained b.drained);
      soon = rw same b.soon;
      calm = calms_append es fs a.calm b.calm;
      quiet = quiet_append es fs a.quiet b.quiet;
      whole = whole_append u s es fs a.whole b.whole;
    }

module _ (w : Setting) (u llid : ℕ) (s : State) (h : Here w u llid s) (tick : ℕ) (left : LeftBy (lane_at s u) tick)
    (bound : tick + trip_of (lane_at s u) ≤ max_tick) where
  abbrev l : Lane
  l = lane_at s u

  -- the arrivals, and that one less is awaited after them, if there was one
  record Fewer (from : State) (es : List Event) : Type 0 where
    drains : Drains w u llid from es (tick + trip_of l)
    fewer : awaited_count (lane_at (run from es) u) (run from es).history.now ≤ awaited_count (lane_at from u) from.history.now - 1

  down_drains : (t k : ℕ) (ts : List ℕ) → First s.history.now (due_down l) k t → overdue s.history.now (due_down l) ≡ k
      → awaited s.history.now (due_down l) ≡ t ∷ ts → ((v : ℕ) (vs : List ℕ) → awaited s.history.now (due_up l) ≡ v ∷ vs → t ≤ v)
      → Fewer s (advance (t - s.history.now) ∷ arrive_down u k (buffer_for (in_flight_at s u k)) ∷ [])
  unfolding run
  down_drains t k ts f late first others =
      let some : k < length l.transit.towards = omega (arith, f.some, length-map l.transit.towards (λ (x : InFlight). left_at x + l.path.down)) in
      let x = in_flight_at s u k in
      let is : left_at x + l.path.down ≡ t =
      sym (get_or-map (λ (y : InFlight). left_at y + l.path.down) l.transit.towards k (envelope no_envelope)) ∙ f.is _ in
      let early = left.towards x (mem_at l.transit.towards k (envelope no_envelope) some) in
      let n = t - s.history.now in
      let t1 = advance_goes w u llid s h n (omega (arith, f.early, is, early, bound)) in
      let s1 = step s (advance n) in
      let h1 = here_after w u llid s (advance n) l (s.history.now + n) h t1 refl refl in
      let due : DueDown s1 u k (buffer_for x) =
      record {
        some = rw t1.lane some;
        now = rw t1.lane (omega (arith, is, t1.tick, f.early));
        buffer = rw t1.lane (fits_buffer x);
      } in
      let t2 = in_flight_goes w u llid s1 h1 k (buffer_for x) due in
      let d1 = in_flight_drained w u llid s1 h1 k (buffer_for x) (in_flight_at s1 u k) in
      let d : Drained l (in_flight_lane w u llid s1 h1 k (buffer_for x) (in_flight_at s1 u k)) =
      subst (λ (y : Lane). Drained y (in_flight_lane w u llid s1 h1 k (buffer_for x) (in_flight_at s1 u k))) t1.lane d1 in
      let h2 = here_after w u llid s1 (arrive_down u k (buffer_for x)) _ s1.history.now h1 t2 d1.site d1.entry in
      let there = s.history.now + n in
      let at : there ≡ t = omega (arith, f.early) in
      let down1 : overdue there (due_down l) ≡ overdue s.history.now (due_down l) =
      late_same s.history.now there (due_down l) (omega arith) (λ v vs e. omega (arith, at, cons_first t v ts vs (sym first ∙ e))) in
      let up1 : overdue there (due_up l) ≡ overdue s.history.now (due_up l) =
      late_same s.history.now there (due_up l) (omega arith) (λ v vs e. omega (arith, at, others v vs e)) in
      let keep2 : k ≡ overdue s1.history.now (due_down (lane_at s1 u)) = rw (t1.lane, t1.tick) (sym (down1 ∙ late)) in
      let takes : Takes k l (in_flight_lane w u llid s1 h1 k (buffer_for x) (in_flight_at s1 u k)) =
      subst (λ (y : Lane). Takes k y (in_flight_lane w u llid s1 h1 k (buffer_for x) (in_flight_at s1 u k))) t1.lane
      (in_flight_takes w u llid s1 h1 k (buffer_for x) (in_flight_at s1 u k)) in
      let fewer : awaited_count (in_flight_lane w u llid s1 h1 k (buffer_for x) (in_flight_at s1 u k)) there + 1 ≡ awaited_count l s.history.now =
      down_fewer l (in_flight_lane w u llid s1 h1 k (buffer_for x) (in_flight_at s1 u k)) s.history.now there k s.history.now (envelope no_envelope)
      d.path takes.towards takes.from
      (alive w u llid s h).joined.order.towards some late up1 (omega (arith, at, is)) in
      let s2 = step s1 (arrive_down u k (buffer_for x)) in
      let m = in_flight_lane w u llid s1 h1 k (buffer_for x) (in_flight_at s1 u k) in
      let after : awaited_count (lane_at s2 u) s2.history.now ≡ awaited_count m there =
      ap (λ (y : Lane). awaited_count y s2.history.now) t2.lane ∙ ap (λ (y : ℕ). awaited_count m y) (t2.tick ∙ t1.tick) in
      record {
        drains =
            record {
              meets = (t1.fits, (t2.fits, tt));
              here = h2;
              drained = rw t2.lane d;
              soon = omega (arith, t2.tick, t1.tick, f.early, is, early);
              calm = (tt, (tt, tt));
              quiet = (tt, (tt, tt));
              whole = (same_keeps l s.history.now there down1 up1, (λ e. keep2, tt));
            };
        fewer = one_less _ _ _ after fewer;
      }

  up_drains : (t k : ℕ) (ts : List ℕ) → First s.history.now (due_up l) k t → overdue s.history.now (due_up l) ≡ k
      → awaited s.history.now (due_up l) ≡ t ∷ ts → ((v : ℕ) (vs : List ℕ) → awaited s.history.now (due_down l) ≡ v ∷ vs → t ≤ v)
      → Fewer s (advance (t - s.history.now) ∷ arrive_up u k (envelope_at s u k).octets ∷ [])
  unfolding run
  up_drains t k ts f late first others =
      let some : k < length l.transit.from = omega (arith, f.some, length-map l.transit.from (λ (x : Envelope). x.left + l.path.up)) in
      let x = envelope_at s u k in
      let is : x.left + l.path.up ≡ t =
      sym (get_or-map (λ (y : Envelope). y.left + l.path.up) l.transit.from k no_envelope) ∙ f.is _ in
      let early = left.from x (mem_at l.transit.from k no_envelope some) in
      let n = t - s.history.now in
      let t1 = advance_goes w u llid s h n (omega (arith, f.early, is, early, bound)) in
      let s1 = step s (advance n) in
      let h1 = here_after w u llid s (advance n) l (s.history.now + n) h t1 refl refl in
      let same : envelope_at s1 u k ≡ x = ap (λ (y : Lane). get_or y.transit.from k no_envelope) t1.lane in
      let t2 = up_arrival_goes w u llid s1 h1 k x x.octets (rw t1.lane some) same (rw t1.lane (omega (arith, is, t1.tick, f.early))) refl in
      let d1 = up_drained k (receipt_up s1 x x.octets) (lane_at s1 u) in
      let d : Drained l (lane_arrived_up k (receipt_up s1 x x.octets) (lane_at s1 u)) =
      subst (λ (y : Lane). Drained y (lane_arrived_up k (receipt_up s1 x x.octets) (lane_at s1 u))) t1.lane d1 in
      let h2 = here_after w u llid s1 (arrive_up u k x.octets) _ s1.history.now h1 t2 d1.site d1.entry in
      let there = s.history.now + n in
      let at : there ≡ t = omega (arith, f.early) in
      let up1 : overdue there (due_up l) ≡ overdue s.history.now (due_up l) =
      late_same s.history.now there (due_up l) (omega arith) (λ v vs e. omega (arith, at, cons_first t v ts vs (sym first ∙ e))) in
      let down1 : overdue there (due_down l) ≡ overdue s.history.now (due_down l) =
      late_same s.history.now there (due_down l) (omega arith) (λ v vs e. omega (arith, at, others v vs e)) in
      let keep2 : k ≡ overdue s1.history.now (due_up (lane_at s1 u)) = rw (t1.lane, t1.tick) (sym (up1 ∙ late)) in
      let m = lane_arrived_up k (receipt_up s1 x x.octets) (lane_at s1 u) in
      let kept = up_towards k (receipt_up s1 x x.octets) (lane_at s1 u) in
      let from : m.transit.from ≡ drop (suc k) l.transit.from = kept.0 ∙ ap (λ (y : Lane). drop (suc k) y.transit.from) t1.lane in
      let towards : m.transit.towards ≡ l.transit.towards = kept.1 ∙ ap (λ (y : Lane). y.transit.towards) t1.lane in
      let fewer : awaited_count m there + 1 ≡ awaited_count l s.history.now =
      up_fewer l m s.history.now there k s.history.now no_envelope d.path from towards (alive w u llid s h).joined.order.from some late down1
      (omega (arith, at, is)) in
      let s2 = step s1 (arrive_up u k x.octets) in
      let after : awaited_count (lane_at s2 u) s2.history.now ≡ awaited_count m there =
      ap (λ (y : Lane). awaited_count y s2.history.now) t2.lane ∙ ap (λ (y : ℕ). awaited_count m y) (t2.tick ∙ t1.tick) in
      record {
        drains =
            record {
              meets = (t1.fits, (t2.fits, tt));
              here = h2;
              drained = rw t2.lane d;
              soon = omega (arith, t2.tick, t1.tick, f.early, is, early);
              calm = (tt, (tt, tt));
              quiet = (tt, (tt, tt));
              whole = (same_keeps l s.history.now there down1 up1, (λ e. keep2, tt));
            };
        fewer = one_less _ _ _ after fewer;
      }

  -- none is awaited, that way or the other
  none_flies : awaited s.history.now (due_down l) ≡ [] → awaited s.history.now (due_up l) ≡ [] → awaited_count l s.history.now ≡ 0
  none_flies e f = omega (arith, ap length e, ap length f)

  next_drains : s.history.now ≤ tick + trip_of l → Fewer s (next s u)
  unfolding next next_by next_down next_up run
  next_drains soon = by_queues (awaited s.history.now (due_down l)) (awaited s.history.now (due_up l)) refl refl where
    by_queues : (ds us : List ℕ) → awaited s.history.now (due_down l) ≡ ds → awaited s.history.now (due_up l) ≡ us
        → Fewer s (next_by s u ds us)
    by_queues [] [] e f =
        record { drains = drains_nil w u llid s (tick + trip_of l) h soon; fewer = omega (arith, none_flies e f) }
    by_queues (t ∷ ts) [] e f =
        down_drains t _ ts (first_awaited s.history.now (due_down l) t ts e) refl e (λ v vs g. no_cons v vs (sym f ∙ g))
    by_queues [] (v ∷ vs) e f =
        up_drains v _ vs (first_awaited s.history.now (due_up l) v vs f) refl f (λ t ts g. no_cons t ts (sym e ∙ g))
    by_queues (t ∷ ts) (v ∷ vs) e f =
        pick_holds (λ (es : List Event). Fewer s es) (leb t v) (next_down s u t) (next_up s u v)
        (λ b.
        down_drains t _ ts (first_awaited s.history.now (due_down l) t ts e) refl e
        (λ y ys g. omega (arith, leb-true t v b, cons_first v y vs ys (sym f ∙ g))))
        (λ b.
        up_drains v _ vs (first_awaited s.history.now (due_up l) v vs f) refl f
        (λ y ys g. omega (arith, leb-false t v b, cons_first t y ts ys (sym e ∙ g))))

pub record Drainage (w : Setting) (u llid n : ℕ) (s : State) (es : List Event) (most : ℕ) : Type 0 where
  pub drains : Drains w u llid s es most
  pub fewer : awaited_count (lane_at (run s es) u) (run s es).history.now ≤ awaited_count (lane_at s u) s.history.now - n

pub drained_drains : (w : Setting) (u llid : ℕ) (n : ℕ) (s : State) → Here w u llid s → (tick : ℕ) → LeftBy (lane_at s u) tick
    → tick + trip_of (lane_at s u) ≤ max_tick → s.history.now ≤ tick + trip_of (lane_at s u)
    → Drainage w u llid n s (drained n s u) (tick + trip_of (lane_at s u))
unfolding drained run
drained_drains w u llid zero s h tick left bound soon = record { drains = drains_nil w u llid s _ h soon; fewer = omega arith }
drained_drains w u llid (suc n) s h tick left bound soon =
    let next_one = next_drains w u llid s h tick left bound soon in
    let d = next_one.drains in
    let t = run s (next s u) in
    let trip : trip_of (lane_at t u) ≡ trip_of (lane_at s u) = ap (λ (p : Delays). p.up + p.down) d.drained.path in
    let rest : Drainage w u llid n t (drained n t u) (tick + trip_of (lane_at s u)) =
    rw trip at (drained_drains w u llid n t d.here tick (left_kept (lane_at s u) (lane_at t u) tick d.drained left) (omega (arith, bound, trip))
    (omega (arith, d.soon, trip))) in
    record {
      drains = drains_append w u llid s (next s u) (drained n t u) _ d rest.drains;
      fewer = rw (run_append s (next s u) (drained n t u)) (omega (arith, rest.fewer, next_one.fewer));
    }
