-- A unit's clock round from wherever it stands: nothing is under way to it by then. Assumes nothing.
use mathlib.Core.Path.{◌≡◌, refl, ◌∙◌, ap}
use mathlib.Core.List.{List, [], ◌∷◌, map, Memᴰ}
use Prim.Native.Nat.{ℕ, suc, ◌+◌, ◌<◌, ◌≤◌}
use native.Mathlib.Omega.{arith}
use lib.ListN.{length}
use borrow.Author.Tests.{lt-ltb}
use Rattle.octets.proofs.Choice.{pick_holds, pick_true}
use Rattle.clock.specs.Ticks.{max_tick, max_round_trip}
use Rattle.ends.specs.Table.{unit_at}
use Rattle.unicast.specs.Setting.{Setting, Site}
use Rattle.unicast.specs.History.{Envelope, InFlight, clock_message, key_message, envelope, left_at, Answered, Entry, Lane, lane_with, lane_captured, lane_leaving, lane_acknowledged, lane_taken, lane_answered, lane_arrived_down, is_synced}
use Rattle.unicast.specs.Events.{Event, advance, capture, clock_send, arrive_down, arrive_answer}
use Rattle.unicast.specs.Premises.{Meets}
use Rattle.unicast.specs.Run.{State, lane_at, in_flight_at, step, run, advancing, clock_sending, answering, message_arriving, envelope_arriving, in_flight_arriving, at_onu, with_lanes}
use Rattle.unicast.specs.Bounds.{longest}
use Rattle.unicast.proofs.Invariant.{Rising}
use Rattle.unicast.proofs.Stays.{at_olt_keeps, set_stays, noted_keeps}
use Rattle.progress.specs.Progress.{trip_of, clock_round_of, overdue, answered_round, clock_round}
use Rattle.progress.specs.GroupProgress.{clock_of}
use Rattle.progress.proofs.Calm.{Calms, calm_run}
use Rattle.progress.proofs.ClockRound.{clock_round-holds}
use Rattle.progress.proofs.Going.{Here, here_after, alive, advance_goes}
use Rattle.progress.proofs.Owned.{Owns, owns_clock}
use Rattle.progress.proofs.Progress.{rising_top, clock_short}
use Rattle.progress.proofs.Whole.{Quiet}

-- what left before is overdue
late_all : {A : Type 0} (f : A → ℕ) (delay lo hi now : ℕ) (xs : List A) → Rising lo hi (map f xs) → hi + delay < now
    → overdue now (map (λ (x : A). f x + delay) xs) ≡ length xs
unfolding overdue
late_all f delay lo hi now [] r h = refl
late_all {A} f delay lo hi now (x ∷ xs) r h =
    let most = rising_top f (f x) hi xs r.1 in
    pick_true (suc (overdue now (map (λ (y : A). f y + delay) xs))) 0 (lt-ltb (f x + delay) now (omega (arith, most, h)))
    ∙ ap suc (late_all f delay (f x) hi now xs r.1 h)

---- what a clock's round leaves of every lane

-- site, registration, and the keys that were offered
abbrev pub kept_of : Lane → (Site × Entry) × List (List ℕ)
kept_of l = ((l.site, l.entry), l.keys.offers)

abbrev Timely : Event → Type 0
Timely e = (s : State) (v : ℕ) → kept_of (lane_at (step s e) v) ≡ kept_of (lane_at s v)

unfoldable lanes_opened : Unit {0}
unfolding lane_with lane_captured lane_leaving lane_acknowledged lane_taken lane_answered lane_arrived_down
lanes_opened = tt

in_flight_kept : (s : State) (u k : ℕ) (out : List ℕ) (x : InFlight) (v : ℕ)
    → kept_of (lane_at (in_flight_arriving s u k out x) v) ≡ kept_of (lane_at s v)
unfolding in_flight_arriving message_arriving envelope_arriving at_onu with_lanes lanes_opened
in_flight_kept s u k out (clock_message m c t) v = set_stays kept_of s u _ (noted_keeps kept_of _ _ (lane_taken k (lane_at s u)) refl) v
in_flight_kept s u k out (key_message m t) v = set_stays kept_of s u _ (noted_keeps kept_of _ _ (lane_taken k (lane_at s u)) refl) v
in_flight_kept s u k out (envelope e) v = set_stays kept_of s u _ refl v

advance_timely : (n : ℕ) → Timely (advance n)
unfolding step advancing
advance_timely n s v = refl

capture_timely : (llid : ℕ) → Timely (capture llid)
unfolding step lanes_opened
capture_timely llid s v = at_olt_keeps kept_of s _ _ llid _ (λ l. refl) v

clock_send_timely : (llid : ℕ) → Timely (clock_send llid)
unfolding step clock_sending lanes_opened
clock_send_timely llid s v = at_olt_keeps kept_of s _ _ llid _ (λ l. refl) v

arrive_timely : (u k : ℕ) (out : List ℕ) → Timely (arrive_down u k out)
unfolding step
arrive_timely u k out s v = in_flight_kept s u k out (in_flight_at s u k) v

answer_timely : (u k llid : ℕ) → Timely (arrive_answer u k llid)
unfolding step answering lanes_opened
answer_timely u k llid s v = at_olt_keeps kept_of s _ _ llid _ (λ l. refl) v

abbrev AllTimely : List Event → Type 0
AllTimely [] = Unit {0}
AllTimely (e ∷ es) = Timely e × AllTimely es

timely_run : (s : State) (es : List Event) → AllTimely es → (v : ℕ) → kept_of (lane_at (run s es) v) ≡ kept_of (lane_at s v)
unfolding run
timely_run s [] t v = refl
timely_run s (e ∷ es) t v = timely_run (step s e) es t.1 v ∙ t.0 s v

round_timely : (u llid : ℕ) (s : State) → AllTimely (clock_round u llid s)
unfolding clock_round answered_round
round_timely u llid s =
    let l = lane_at s u in
    pick_holds AllTimely (is_synced l) _ (capture llid ∷ clock_send llid ∷ answered_round u llid l) (λ e. (answer_timely u _ llid, tt))
    (λ e. (
      capture_timely llid,
      (
        clock_send_timely llid,
        (advance_timely l.path.down, (arrive_timely u _ [], (advance_timely l.path.up, (answer_timely u _ llid, tt)))),
      ),
    ))

round_calm : (u llid : ℕ) (s : State) → Calms (clock_round u llid s)
unfolding clock_round answered_round
round_calm u llid s =
    pick_holds (λ (es : List Event). Calms es) (is_synced (lane_at s u)) _ (capture llid ∷ clock_send llid ∷ answered_round u llid (lane_at s u))
    (λ e. (tt, tt)) (λ e. (tt, (tt, (tt, (tt, (tt, (tt, tt)))))))

---- the round

-- the unit's clock is acknowledged, what others have of it stays
pub record ClockGoes (w : Setting) (u llid : ℕ) (s : State) : Type 0 where
  pub meets : Meets w s (clock_of u llid s)
  pub owns : (key : List ℕ) → Owns u llid key (clock_of u llid s)
  pub kept : (v : ℕ) → kept_of (lane_at (run s (clock_of u llid s)) v) ≡ kept_of (lane_at s v)
  pub acknowledged : (unit_at (run s (clock_of u llid s)).olt (lane_at s u).entry.place).clock.acknowledged ≡ 1
  pub steady : (p : ℕ) → p < s.olt.count → (unit_at s.olt p).clock.acknowledged ≡ 1
      → (unit_at (run s (clock_of u llid s)).olt p).clock.acknowledged ≡ 1
  pub tick : (run s (clock_of u llid s)).history.now ≤ s.history.now + longest + max_round_trip
  pub short : length (clock_of u llid s) ≤ 7

module _ (w : Setting) (u llid : ℕ) (s : State) (h : Here w u llid s) (range : s.history.now + longest + max_round_trip ≤ max_tick) where
  abbrev s1 : State
  s1 = step s (advance longest)

  abbrev l : Lane
  l = lane_at s u

  pub clock_goes : ClockGoes w u llid s
  unfolding clock_of run
  clock_goes =
      let a = alive w u llid s h in
      let near = a.joined.near in
      let t = advance_goes w u llid s h longest (omega (arith, range)) in
      let h1 = here_after w u llid s (advance longest) l (s.history.now + longest) h t refl refl in
      let early : (x : Answered) → Memᴰ x (lane_at s1 u).transit.answered → x.tick + (lane_at s1 u).path.up ≤ s1.history.now =
      λ x m.
      let was = (a.joined.asked.answered x (rw t.lane at m)).1 in
      let same = ap (λ (y : Lane). y.path.up) t.lane in
      omega (arith, was, same, near, t.tick) in
      let order = a.joined.order in
      let quiet : Quiet (lane_at s1 u) s1.history.now =
      rw (t.lane, t.tick)
      (record {
        down = late_all left_at l.path.down 0 s.history.now (s.history.now + longest) l.transit.towards order.towards (omega (arith, near));
        up =
            late_all (λ (e : Envelope). e.left) l.path.up 0 s.history.now (s.history.now + longest) l.transit.from order.from
            (omega (arith, near));
      }) in
      let trip : trip_of (lane_at s1 u) ≤ max_round_trip = rw t.lane near in
      let c = clock_round-holds w u llid s1 h1 early quiet (omega (arith, t.tick, trip, range)) in
      let place : (lane_at s1 u).entry.place ≡ l.entry.place = ap (λ (y : Lane). y.entry.place) t.lane in
      let most : clock_round_of (lane_at s1 u) ≤ max_round_trip =
      pick_holds (λ (n : ℕ). n ≤ max_round_trip) (is_synced (lane_at s1 u)) 0 (trip_of (lane_at s1 u)) (λ e. omega arith) (λ e. trip) in
      let meets : Meets w s (advance longest ∷ clock_round u llid s1) = (tt, c.goes.meets) in
      record {
        meets = meets;
        owns = λ key. (tt, owns_clock u llid key s1);
        kept = λ v. timely_run s1 (clock_round u llid s1) (round_timely u llid s1) v ∙ advance_timely longest s v;
        acknowledged = rw place at c.acknowledged;
        steady = λ p k.
            (calm_run w s (advance longest ∷ clock_round u llid s1) p h.invariant meets k (tt, round_calm u llid s1)).acknowledged;
        tick = omega (arith, c.goes.tick, most, t.tick);
        short = omega (arith, clock_short u llid s1);
      }
