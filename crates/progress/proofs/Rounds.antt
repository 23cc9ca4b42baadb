-- The rounds of the continuation: each fits where it stands, and what it leaves. Assumes nothing.
use mathlib.Core.Path.{◌≡◌, refl, sym, ◌∙◌, ap}
use mathlib.Core.List.{List, [], ◌∷◌, ◌++◌, map}
use Prim.Native.Nat.{ℕ, suc, ◌+◌, ◌<◌, ◌≤◌}
use native.Mathlib.Omega.{arith}
use lib.ListN.{length, get_or, drop, length-append}
use lib.Seq.{get_or_at}
use Rattle.clock.specs.Ticks.{max_tick}
use Rattle.protocol.specs.declared.Acknowledgement.{Acknowledgement}
use Rattle.unicast.specs.Setting.{Setting}
use Rattle.unicast.specs.History.{Envelope, InFlight, left_at, Answered, Lane, lane_with, lane_taken, lane_answered, lane_acknowledged}
use Rattle.unicast.specs.Events.{Event, advance, arrive_down, arrive_answer}
use Rattle.unicast.specs.Run.{State, lane_at, step, run, in_flight_at, answer_at}
use Rattle.unicast.specs.Premises.{Meets, DueAnswer}
use Rattle.unicast.proofs.Run.{run_append, meets_append}
use Rattle.progress.specs.Progress.{trip_of, due_down, due_up, overdue, awaited_count, Keeps, LosesNothing}
use Rattle.progress.proofs.Whole.{late_later, late_none, drop_all, Quiet, quiet_later, quiet_keeps, down_overdue, same_keeps, whole_append}
use Rattle.progress.proofs.Going.{Here, Step, here_after, advance_goes}

-- a list of events that fits, and what it leaves
pub record Goes (w : Setting) (u llid : ℕ) (s : State) (es : List Event) (l : Lane) (now : ℕ) : Type 0 where
  pub meets : Meets w s es
  pub here : Here w u llid (run s es)
  pub lane : lane_at (run s es) u ≡ l
  pub tick : (run s es).history.now ≡ now
  pub whole : LosesNothing s u es
  pub quiet : Quiet l now

pub goes_nil : (w : Setting) (u llid : ℕ) (s : State) (l : Lane) (now : ℕ) → Here w u llid s → lane_at s u ≡ l → s.history.now ≡ now
    → Quiet l now → Goes w u llid s [] l now
unfolding run
goes_nil w u llid s l now h lane tick quiet = record { meets = tt; here = h; lane = lane; tick = tick; whole = tt; quiet = quiet }

pub goes_cons : (w : Setting) (u llid : ℕ) (s : State) (e : Event) (es : List Event) (l m : Lane) (n k : ℕ) → Step w u s e l n → Keeps s u e
    → Goes w u llid (step s e) es m k → Goes w u llid s (e ∷ es) m k
unfolding run
goes_cons w u llid s e es l m n k t keeps g =
    record { meets = (t.fits, g.meets); here = g.here; lane = g.lane; tick = g.tick; whole = (keeps, g.whole); quiet = g.quiet }

pub goes_append : (w : Setting) (u llid : ℕ) (s : State) (es fs : List Event) (l m : Lane) (n k : ℕ) → Goes w u llid s es l n
    → Goes w u llid (run s es) fs m k → Goes w u llid s (es ++ fs) m k
goes_append w u llid s es fs l m n k a b =
    let same = run_append s es fs in
    record {
      meets = meets_append w s es fs a.meets b.meets;
      here = rw same b.here;
      lane = rw same b.lane;
      tick = rw same b.tick;
      whole = whole_append u s es fs a.whole b.whole;
      quiet = b.quiet;
    }

---- a message is under way, the last of the queue: it arrives, and the unit's acknowledgement after it

-- the queue's last
pub last_is : {A : Type 0} (xs ys : List A) (x d : A) → xs ≡ ys ++ (x ∷ []) → get_or xs (length ys) d ≡ x
last_is xs ys x d e = rw e (get_or_at ys x [] d (length ys) refl)

pub last_some : {A : Type 0} (xs ys : List A) (x : A) → xs ≡ ys ++ (x ∷ []) → length ys < length xs
last_some xs ys x e = omega (arith, ap length e, length-append ys (x ∷ []))

module _ (w : Setting) (u llid : ℕ) (s : State) (l : Lane) (a : Acknowledgement) (ts : List InFlight) (x : InFlight) (Q : State → Type 0)
    (h : Here w u llid s) (is : lane_at s u ≡ l) (queue : l.transit.towards ≡ ts ++ (x ∷ [])) (most : s.history.now + trip_of l ≤ max_tick)
    (left : left_at x ≡ s.history.now) (late : overdue s.history.now (map (λ (y : InFlight). left_at y + l.path.down) ts) ≡ length ts)
    (up : overdue s.history.now (due_up l) ≡ length l.transit.from) where
  abbrev arrival : ℕ
  arrival = s.history.now + l.path.down

  abbrev answered : Lane
  answered = lane_answered a arrival (lane_taken (length ts) l)

  abbrev place : ℕ
  place = length l.transit.answered

  pub answered_round-holds :
      ((t : State) → Here w u llid t → lane_at t u ≡ l → t.history.now ≡ arrival → length ts < length (lane_at t u).transit.towards
      → in_flight_at t u (length ts) ≡ x → Step w u t (arrive_down u (length ts) []) answered arrival)
      → ((t : State) → Here w u llid t → lane_at t u ≡ answered → DueAnswer t u place llid → (answer_at t u place).acknowledgement ≡ a
      → Step w u t (arrive_answer u place llid) (lane_acknowledged a answered) t.history.now × Q (step t (arrive_answer u place llid)))
      → Goes w u llid s (advance l.path.down ∷ arrive_down u (length ts) [] ∷ advance l.path.up ∷ arrive_answer u place llid ∷ [])
      (lane_acknowledged a answered) (s.history.now + trip_of l)
      × Q (run s (advance l.path.down ∷ arrive_down u (length ts) [] ∷ advance l.path.up ∷ arrive_answer u place llid ∷ []))
  unfolding lane_answered lane_taken lane_acknowledged lane_with run
  answered_round-holds arrives answers =
      let t1 = advance_goes w u llid s h l.path.down (omega (arith, most)) in
      let s1 = step s (advance l.path.down) in
      let lane1 : lane_at s1 u ≡ l = t1.lane ∙ is in
      let h1 = here_after w u llid s (advance l.path.down) (lane_at s u) arrival h t1 refl refl in
      let queue1 : (lane_at s1 u).transit.towards ≡ ts ++ (x ∷ []) = rw lane1 queue in
      let t2 = arrives s1 h1 lane1 t1.tick (last_some _ ts x queue1) (last_is _ ts x _ queue1) in
      let s2 = step s1 (arrive_down u (length ts) []) in
      let h2 = here_after w u llid s1 (arrive_down u (length ts) []) answered arrival h1 t2 (rw lane1) (rw lane1) in
      let t3 = advance_goes w u llid s2 h2 l.path.up (omega (arith, most, t2.tick)) in
      let s3 = step s2 (advance l.path.up) in
      let lane3 : lane_at s3 u ≡ answered = t3.lane ∙ t2.lane in
      let h3 = here_after w u llid s2 (advance l.path.up) (lane_at s2 u) (s2.history.now + l.path.up) h2 t3 refl refl in
      let mine : (lane_at s3 u).transit.answered ≡ l.transit.answered ++ (record { acknowledgement = a; tick = arrival } ∷ []) =
      ap (λ (y : Lane). y.transit.answered) lane3 in
      let own : answer_at s3 u place ≡ record { acknowledgement = a; tick = arrival } =
      last_is _ l.transit.answered (record { acknowledgement = a; tick = arrival }) _ mine in
      let path : (lane_at s3 u).path.up ≡ l.path.up = ap (λ (y : Lane). y.path.up) lane3 in
      let due : DueAnswer s3 u place llid =
      record {
        some = last_some _ l.transit.answered _ mine;
        left = omega (arith, ap (λ (y : Answered). y.tick) own, path, t3.tick, t2.tick);
        named = h3.named;
      } in
      let now = s.history.now in
      let f : InFlight → ℕ = λ y. left_at y + l.path.down in
      let g : Envelope → ℕ = λ e. e.left + l.path.up in
      let down0 : overdue now (due_down l) ≡ length ts = down_overdue l ts x now queue late (omega (arith, left)) in
      let down1 : overdue arrival (due_down l) ≡ length ts =
      down_overdue l ts x arrival queue (late_later f now arrival ts (omega arith) late) (omega (arith, left)) in
      let up1 : overdue arrival (due_up l) ≡ length l.transit.from = late_later g now arrival l.transit.from (omega arith) up in
      let keep1 : awaited_count (lane_at s u) arrival ≡ awaited_count (lane_at s u) now =
      rw is (same_keeps l now arrival (down1 ∙ sym down0) (up1 ∙ sym up)) in
      let keep2 : length ts ≡ overdue s1.history.now (due_down (lane_at s1 u)) = rw (lane1, t1.tick) (sym down1) in
      let quiet2 : Quiet answered arrival =
      record { down = late_none f arrival (drop (suc (length ts)) l.transit.towards) (ap (drop (suc (length ts))) queue ∙ drop_all ts x); up = up1 } in
      let later : arrival ≤ arrival + l.path.up = omega arith in
      let keep3 : awaited_count (lane_at s2 u) (s2.history.now + l.path.up) ≡ awaited_count (lane_at s2 u) s2.history.now =
      rw (t2.lane, t2.tick) (quiet_keeps answered arrival (arrival + l.path.up) later quiet2) in
      let quiet3 = quiet_later answered arrival (now + trip_of l) (omega arith) quiet2 in
      let t4 = answers s3 h3 lane3 due (ap (λ (y : Answered). y.acknowledgement) own) in
      let h4 = here_after w u llid s3 (arrive_answer u place llid) (lane_acknowledged a answered) s3.history.now h3 t4.0 (rw lane3) (rw lane3) in (
        goes_cons w u llid s _ _ (lane_at s u) _ arrival _ t1 keep1
            (goes_cons w u llid s1 _ _ answered _ arrival _ t2 (λ e. keep2)
            (goes_cons w u llid s2 _ _ (lane_at s2 u) _ (s2.history.now + l.path.up) _ t3 keep3
            (goes_cons w u llid s3 _ _ (lane_acknowledged a answered) _ s3.history.now _ t4.0 tt
            (goes_nil w u llid _ _ _ h4 t4.0.lane (omega (arith, t4.0.tick, t3.tick, t2.tick))
            (record { down = quiet3.down; up = quiet3.up }))))),
        t4.1,
      )
