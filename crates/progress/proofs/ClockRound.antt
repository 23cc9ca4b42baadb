-- The clock's round: afterwards the unit is synced, and the OLT has its acknowledgement. Assumes nothing.
use mathlib.Core.Path.{◌≡◌, refl, sym, ◌∙◌, ap, subst}
use mathlib.Core.Bool.{Bool, true, false}
use mathlib.Core.List.{List, [], ◌∷◌, Memᴰ}
use Prim.Native.Nat.{ℕ, suc, ◌+◌, ◌<◌, ◌≤◌}
use native.Mathlib.Nat.{add-zero}
use native.Mathlib.Omega.{arith}
use lib.Dec.{eqb}
use lib.ListN.{length, get_or}
use borrow.Author.Tests.{eqb-true}
use Rattle.octets.specs.Choice.{either, pick}
use Rattle.octets.proofs.Choice.{true_false}
use Rattle.octets.proofs.Members.{mem_at}
use Rattle.clock.specs.Ticks.{max_tick}
use Rattle.ends.specs.Table.{unit_at}
use Rattle.ends.specs.declared.UnitClock.{UnitClock}
use Rattle.protocol.specs.Messages.{clock_kind, of_clock}
use Rattle.protocol.specs.UnitCalls.{clock_captured, clock_send_unit}
use Rattle.protocol.specs.declared.Acknowledgement.{Acknowledgement}
use Rattle.unicast.specs.Setting.{Setting}
use Rattle.unicast.specs.History.{clock_message, Answered, Lane, lane_with, leaving, lane_captured, lane_leaving, lane_taken, lane_answered, lane_acknowledged, clock_answered, is_synced}
use Rattle.unicast.specs.Events.{Event, capture, clock_send, arrive_answer}
use Rattle.unicast.specs.Run.{State, lane_at, step, run, answer_at}
use Rattle.unicast.specs.Premises.{DueAnswer}
use Rattle.unicast.proofs.Frames.{clock_last}
use Rattle.unicast.proofs.AnswerSteps.{lane_unmarked}
use Rattle.progress.specs.Progress.{trip_of, clock_round_of, clock_place, answered_round, clock_round}
use Rattle.progress.proofs.Going.{Here, Step, here_after, alive, unit, capture_goes, capture_clock, clock_send_goes, clock_answer_goes}
use Rattle.progress.proofs.Arriving.{clock_arrival_goes}
use Rattle.progress.proofs.Whole.{Quiet}
use Rattle.progress.proofs.Rounds.{Goes, goes_nil, goes_cons, answered_round-holds}

-- all but the capture and what is under way
pub record Kept (l m : Lane) : Type 0 where
  pub site : m.site ≡ l.site
  pub path : m.path ≡ l.path
  pub entry : m.entry ≡ l.entry
  pub keys : m.keys ≡ l.keys
  pub past : m.past ≡ l.past

pub record ClockDone (w : Setting) (u llid : ℕ) (s : State) (es : List Event) (now : ℕ) : Type 0 where
  pub lane : Lane
  pub goes : Goes w u llid s es lane now
  pub kept : Kept (lane_at s u) lane
  pub synced : is_synced lane ≡ true
  pub acknowledged : (unit_at (run s es).olt (lane_at s u).entry.place).clock.acknowledged ≡ 1

pub step_as : (w : Setting) (u : ℕ) (s : State) (e : Event) (l m : Lane) (n k : ℕ) → Step w u s e l n → l ≡ m → n ≡ k → Step w u s e m k
step_as w u s e l m n k t a b = record { fits = t.fits; lane = t.lane ∙ a; tick = t.tick ∙ b }

---- the first clock acknowledgement

clock_place-holds : (xs : List Answered) (d : Answered) → clock_answered xs ≡ true
    → (clock_place xs < length xs) × ((get_or xs (clock_place xs) d).acknowledgement.kind ≡ clock_kind)
unfolding clock_answered clock_place either pick
clock_place-holds [] d e = true_false (sym e)
clock_place-holds (x ∷ xs) d e = by_kind (eqb x.acknowledgement.kind clock_kind) refl e (clock_place-holds xs d) where
  by_kind : (t : Bool) → eqb x.acknowledgement.kind clock_kind ≡ t → either t (clock_answered xs) ≡ true
      → (clock_answered xs ≡ true → (clock_place xs < length xs) × ((get_or xs (clock_place xs) d).acknowledgement.kind ≡ clock_kind))
      → (pick t 0 (suc (clock_place xs)) < length (x ∷ xs))
      × ((get_or (x ∷ xs) (pick t 0 (suc (clock_place xs))) d).acknowledgement.kind ≡ clock_kind)
  by_kind true f e rest = (omega arith, eqb-true x.acknowledgement.kind clock_kind f)
  by_kind false f e rest = let was = rest e in (omega (arith, was.0), was.1)

module _ (w : Setting) (u llid : ℕ) (s : State) (h : Here w u llid s)
    (early : (x : Answered) → Memᴰ x (lane_at s u).transit.answered → x.tick + (lane_at s u).path.up ≤ s.history.now)
    (quiet : Quiet (lane_at s u) s.history.now) where
  abbrev l : Lane
  l = lane_at s u

  -- a synced unit's acknowledgement arrives again
  again : is_synced l ≡ true → ClockDone w u llid s (arrive_answer u (clock_place l.transit.answered) llid ∷ []) s.history.now
  unfolding run
  again e =
      let k = clock_place l.transit.answered in
      let first = clock_place-holds l.transit.answered _ e in
      let mine : Memᴰ (answer_at s u k) l.transit.answered = mem_at l.transit.answered k _ first.0 in
      let due : DueAnswer s u k llid = record { some = first.0; left = early (answer_at s u k) mine; named = h.named } in
      let sent = ((alive w u llid s h).joined.asked.answered (answer_at s u k) mine).0 first.1 in
      let t = clock_answer_goes w u llid s h k due first.1 sent in
      let same : lane_acknowledged (answer_at s u k).acknowledgement l ≡ l = lane_unmarked (answer_at s u k).acknowledgement l first.1 in
      let after = step_as w u s (arrive_answer u k llid) _ l _ s.history.now t.0 same refl in
      let next = here_after w u llid s (arrive_answer u k llid) l s.history.now h after refl refl in
      record {
        lane = l;
        goes =
            goes_cons w u llid s _ _ l l s.history.now s.history.now after tt
            (goes_nil w u llid _ l s.history.now next after.lane after.tick quiet);
        kept = record { site = refl; path = refl; entry = refl; keys = refl; past = refl };
        synced = e;
        acknowledged = t.1;
      }

  -- capture, clock send, arrival and acknowledgement
  anew : s.history.now + trip_of l ≤ max_tick
      → ClockDone w u llid s (capture llid ∷ clock_send llid ∷ answered_round u llid l) (s.history.now + trip_of l)
  unfolding run answered_round clock_captured lane_captured lane_leaving leaving lane_with lane_taken lane_answered
  anew most =
      let now = s.history.now in
      let t1 = capture_goes w u llid s h in
      let s1 = step s (capture llid) in
      let h1 = here_after w u llid s (capture llid) (lane_captured now l) now h t1 refl refl in
      let place : (lane_at s1 u).entry.place ≡ l.entry.place = ap (λ (y : Lane). y.entry.place) t1.lane in
      let clock : (unit w u llid s1 h1).clock ≡ clock_captured (unit w u llid s h).clock s.olt.shared.tick = rw place (capture_clock w u llid s h) in
      let tick : s.olt.shared.tick ≡ now = h.invariant.shared.tick in
      let tick1 : s1.olt.shared.tick ≡ now = h1.invariant.shared.tick ∙ t1.tick in
      let t2 = clock_send_goes w u llid s1 h1 (ap (λ (c : UnitClock). c.captured) clock)
      (omega (arith, ap (λ (c : UnitClock). c.tick) clock, tick, tick1)) in
      let m = (clock_send_unit s1.olt.shared (unit w u llid s1 h1)).handed in
      let x = clock_message m now now in
      let l2 = lane_leaving x (lane_captured now l) in
      let s2 = step s1 (clock_send llid) in
      let same : lane_leaving (clock_message m (lane_at s1 u).captured s1.history.now) (lane_at s1 u) ≡ l2 = rw (t1.lane, t1.tick) in
      let after2 = step_as w u s1 (clock_send llid) _ l2 _ now t2 same t1.tick in
      let h2 = here_after w u llid s1 (clock_send llid) l2 now h1 after2 (rw t1.lane) (rw t1.lane) in
      let arrival = s2.history.now + l.path.down in
      let rest =
      answered_round-holds w u llid s2 l2 of_clock l.transit.towards x (λ (z : State). (unit_at z.olt l.entry.place).clock.acknowledged ≡ 1) h2
      after2.lane refl (omega (arith, most, after2.tick)) (sym after2.tick) (rw after2.tick quiet.down) (rw after2.tick quiet.up)
      (λ t ht lane tick some is.
      step_as w u t _ _ _ _ _
      (clock_arrival_goes w u llid t ht (length l.transit.towards) m now now some is
      (omega (arith, tick, after2.tick, ap (λ (y : Lane). y.path.down) lane)))
      (rw (lane, tick)) tick)
      (λ t ht lane due is.
      let mine = mem_at (lane_at t u).transit.answered (length l.transit.answered) _ due.some in
      let kind : (answer_at t u (length l.transit.answered)).acknowledgement.kind ≡ clock_kind = ap (λ (a : Acknowledgement). a.kind) is in
      let goes = clock_answer_goes w u llid t ht (length l.transit.answered) due kind (((alive w u llid t ht).joined.asked.answered _ mine).0 kind) in
      (step_as w u t _ _ _ _ _ goes.0 (rw (is, lane)) refl, rw (ap (λ (y : Lane). y.entry.place) lane) at goes.1)) in
      let end = lane_answered of_clock arrival (lane_taken (length l.transit.towards) l2) in
      let unmarked : lane_acknowledged of_clock end ≡ end = lane_unmarked of_clock end refl in
      record {
        lane = end;
        goes =
            goes_cons w u llid s _ _ (lane_captured now l) end now _ t1 tt
            (goes_cons w u llid s1 _ _ l2 end now _ after2 tt
            (record {
              meets = rest.0.meets;
              here = rest.0.here;
              lane = rest.0.lane ∙ unmarked;
              tick = omega (arith, rest.0.tick, after2.tick);
              whole = rest.0.whole;
              quiet =
                  subst (λ (n : ℕ). Quiet end n) (ap (λ (n : ℕ). n + trip_of l) after2.tick)
                  (subst (λ (y : Lane). Quiet y (s2.history.now + trip_of l)) unmarked rest.0.quiet);
            }));
        kept = record { site = refl; path = refl; entry = refl; keys = refl; past = refl };
        synced = clock_last l.transit.answered (record { acknowledgement = of_clock; tick = arrival }) refl;
        acknowledged = rest.1;
      }

  pub clock_round-holds : s.history.now + trip_of l ≤ max_tick → ClockDone w u llid s (clock_round u llid s) (s.history.now + clock_round_of l)
  unfolding clock_round pick
  clock_round-holds most = by_synced (is_synced l) refl where
    by_synced : (t : Bool) → is_synced l ≡ t
        → ClockDone w u llid s
        (pick t (arrive_answer u (clock_place l.transit.answered) llid ∷ []) (capture llid ∷ clock_send llid ∷ answered_round u llid l))
        (s.history.now + pick t 0 (trip_of l))
    by_synced true e = rw (add-zero s.history.now) (again e)
    by_synced false e = anew most
