-- All rounds: from a state in which by that tick every channel is free and the guard is passed, the unit comes to key c + 1. Assumes nothing.
use mathlib.Core.Path.{◌≡◌, refl, sym, ◌∙◌, ap, subst}
use mathlib.Core.Bool.{Bool, true, false}
use mathlib.Core.List.{List, [], ◌∷◌, ◌++◌, Memᴰ}
use mathlib.Core.Logic.{◌⊎◌, inl, inr, ⊎_elim}
use Prim.Native.Nat.{ℕ, ◌+◌, ◌-◌, ◌*◌, ◌<◌, ◌≤◌}
use native.Mathlib.Omega.{arith}
use lib.Dec.{ltb}
use borrow.Author.Tests.{ltb-true, ltb-false}
use Rattle.octets.specs.Choice.{pick}
use Rattle.clock.specs.Ticks.{max_tick, key_life}
use Rattle.ends.specs.Limits.{max_key_number}
use Rattle.ends.specs.Occupancy.{free_from}
use Rattle.ends.specs.Table.{unit_at}
use Rattle.unicast.specs.Setting.{Delays, Setting}
use Rattle.unicast.specs.History.{upward, Envelope, Answered, Entry, Past, Lane, switching, number_down, is_synced}
use Rattle.unicast.specs.Events.{Event, advance}
use Rattle.unicast.specs.Run.{State, lane_at, step, run}
use Rattle.unicast.specs.Premises.{NewKey}
use Rattle.unicast.specs.Bounds.{highest, longest}
use Rattle.progress.specs.Progress.{confirmed_by, trip_of, clock_round_of, and_then, waited, clock_round, keyed, down_round, up_round, moved, rounds}
use Rattle.progress.proofs.Going.{Here, Step, here_after, alive, unit, advance_goes}
use Rattle.progress.proofs.Calm.{Steady, calm_run}
use Rattle.progress.proofs.ClockRound.{ClockDone, clock_round-holds}
use Rattle.progress.proofs.Whole.{Quiet, quiet_later, quiet_keeps}
use Rattle.progress.proofs.Journey.{KeyedDone, clock_calm, keyed_done}
use Rattle.progress.proofs.Moving.{Arrived, arrived_then, stayed, moving}
use Rattle.progress.proofs.Offers.{new_after}

-- by that tick the unit can go on to key c + 1: last is the tick of its last envelope, most and least are the delays up of its envelopes
pub record Ready (w : Setting) (u llid : ℕ) (key : List ℕ) (c tick last most least : ℕ) (s : State) : Type 0 where
  pub here : Here w u llid s
  pub confirmed : confirmed_by (lane_at s u) ≡ c
  pub below : c < max_key_number
  pub new : NewKey s key
  pub reach : s.history.now + (lane_at s u).path.up ≤ tick
  pub free : free_from s.olt.shared.channels 0x00 ≤ tick
  pub each : (e : Envelope) → Memᴰ e (lane_at s u).past.sent → e.direction ≡ upward → (e.left ≤ last) × (e.up ≤ most)
  pub lows : (e : Envelope) → Memᴰ e (lane_at s u).past.sent → e.direction ≡ upward → least ≤ e.up
  pub channel : last + longest ≤ tick
  pub guard : last + most + longest ≤ tick + (lane_at s u).path.up
  pub recent : ((lane_at s u).keys.switches ≡ c)
      ⊎ ((tick + clock_round_of (lane_at s u) < (lane_at s u).keys.switched + key_life)
      × (tick + clock_round_of (lane_at s u) + (lane_at s u).path.up < (lane_at s u).keys.switched + least + key_life))
  pub limit : tick + (lane_at s u).entry.interval + 3 * trip_of (lane_at s u) ≤ max_tick
  pub quiet : Quiet (lane_at s u) s.history.now

-- the clock's round takes no longer than the round trip
clock_round_most : (l : Lane) → clock_round_of l ≤ trip_of l
unfolding pick
clock_round_most l = by_synced (is_synced l) where
  by_synced : (t : Bool) → pick t 0 (trip_of l) ≤ trip_of l
  by_synced true = omega arith
  by_synced false = omega arith

pub arrived_sooner : (w : Setting) (u llid n : ℕ) (s : State) (es : List Event) (most more : ℕ) → most ≤ more → Arrived w u llid n s es most
    → Arrived w u llid n s es more
arrived_sooner w u llid n s es most more h a =
    record { meets = a.meets; here = a.here; switches = a.switches; down = a.down; up = a.up; soon = omega (arith, h, a.soon); whole = a.whole }

-- an envelope down, or nothing, and one up
moved_up : (w : Setting) (u llid c : ℕ) (s : State) (most : ℕ)
    → (c < (lane_at s u).keys.number → Arrived w u llid (c + 1) s (up_round u llid s) most)
    → ((lane_at s u).keys.number ≤ c → Arrived w u llid (c + 1) s (and_then (down_round u llid) (up_round u llid) s) most)
    → Arrived w u llid (c + 1) s (and_then (moved u llid c) (up_round u llid) s) most
unfolding and_then moved pick run
moved_up w u llid c s most stay move = by_number (ltb c (lane_at s u).keys.number) refl where
  by_number : (t : Bool) → ltb c (lane_at s u).keys.number ≡ t
      → Arrived w u llid (c + 1) s (pick t [] (down_round u llid s) ++ up_round u llid (run s (pick t [] (down_round u llid s)))) most
  by_number true e = stay (ltb-true _ _ e)
  by_number false e = move (ltb-false _ _ e)

---- from the state in which each round starts

-- what is asked of the unit's envelopes at that tick
pub record Free (l : Lane) (now last most least : ℕ) : Type 0 where
  pub each : (e : Envelope) → Memᴰ e l.past.sent → e.direction ≡ upward → (e.left ≤ last) × (e.up ≤ most)
  pub lows : (e : Envelope) → Memᴰ e l.past.sent → e.direction ≡ upward → least ≤ e.up
  pub channel : last + longest ≤ now
  pub guard : last + most + longest ≤ now + l.path.up

free_later : (l m : Lane) (now later last most least : ℕ) → m.past ≡ l.past → m.path ≡ l.path → now ≤ later → Free l now last most least
    → Free m later last most least
free_later l m now later last most least past path h f =
    record {
      each = λ e i. f.each e (subst (λ (y : Past). Memᴰ e y.sent) past i);
      lows = λ e i. f.lows e (subst (λ (y : Past). Memᴰ e y.sent) past i);
      channel = omega (arith, h, f.channel);
      guard = omega (arith, h, f.guard, ap (λ (p : Delays). p.up) path);
    }

-- the last switch is recent, where there was one to key c + 1
abbrev pub Recent : Lane → ℕ → ℕ → ℕ → Type 0
Recent l c now least =
    (l.keys.switches ≡ c) ⊎ ((now < l.keys.switched + key_life) × (now + l.path.up < l.keys.switched + least + key_life))

-- once the unit can be sent to
module _ (w : Setting) (u llid c last most least : ℕ) (s : State) (h : Here w u llid s) (synced : is_synced (lane_at s u) ≡ true)
    (set : (unit w u llid s h).clock.acknowledged ≡ 1) (free : free_from s.olt.shared.channels 0x00 ≤ s.history.now)
    (next : number_down (lane_at s u) s.history.now ≡ c + 1)
    (young : (switching (lane_at s u) s.history.now ≡ true) ⊎ (s.history.now < (lane_at s u).keys.switched + key_life))
    (f : Free (lane_at s u) s.history.now last most least) (bound : s.history.now + trip_of (lane_at s u) ≤ max_tick)
    (confirmed : (unit w u llid s h).confirmation.confirmed ≡ c)
    (recent : c < (lane_at s u).keys.number → Recent (lane_at s u) c s.history.now least) (quiet : Quiet (lane_at s u) s.history.now) where
  pub after_keyed : Arrived w u llid (c + 1) s (and_then (moved u llid c) (up_round u llid) s) (s.history.now + trip_of (lane_at s u))
  after_keyed =
      let a = alive w u llid s h in
      let j = a.joined in
      let n = j.numbers in
      moved_up w u llid c s (s.history.now + trip_of (lane_at s u))
      (λ more.
      let switches : (lane_at s u).keys.switches ≡ c + 1 =
      omega (arith, more, n.last, n.mid, n.counted, n.high, n.top, n.next, confirmed) in
      let number : (lane_at s u).keys.number ≡ c + 1 = omega (arith, more, n.last, n.mid, n.counted, switches) in
      stayed w u llid c s h synced set free next young last most f.each f.channel f.guard bound quiet switches number
      (λ one.
      let first = j.firsts.onu least f.lows one (n.last ∙ number ∙ sym switches) in
      let travel = a.common.travel in
      ⊎_elim (λ e. absurd (omega (arith, e, switches))) (λ y. omega (arith, first, travel, y.1)) (recent more)))
      (λ few.
      moving w u llid c s h synced set free next young last most f.each f.channel f.guard bound quiet (omega (arith, few, n.last, n.low, confirmed)))

-- once the clock is set
module _ (w : Setting) (u llid c last most least : ℕ) (key : List ℕ) (s : State) (h : Here w u llid s) (below : c < max_key_number)
    (synced : is_synced (lane_at s u) ≡ true) (set : (unit w u llid s h).clock.acknowledged ≡ 1) (new : NewKey s key)
    (free : free_from s.olt.shared.channels 0x00 ≤ s.history.now) (f : Free (lane_at s u) s.history.now last most least)
    (confirmed : (unit w u llid s h).confirmation.confirmed ≡ c) (recent : Recent (lane_at s u) c s.history.now least)
    (bound : s.history.now + (lane_at s u).entry.interval + 2 * trip_of (lane_at s u) ≤ max_tick) (quiet : Quiet (lane_at s u) s.history.now) where
  abbrev onward : State → List Event
  onward = and_then (moved u llid c) (up_round u llid)

  abbrev end : ℕ
  end = s.history.now + (lane_at s u).entry.interval + 2 * trip_of (lane_at s u)

  -- the state after the key's round is t
  from_keyed : (d : KeyedDone w u llid c s (keyed u llid key c s)) (t : State) → t ≡ run s (keyed u llid key c s)
      → Arrived w u llid (c + 1) t (onward t) end
  from_keyed d t is =
      let h1 : Here w u llid t = rw is d.goes.here in
      let lane : lane_at t u ≡ d.lane = rw is d.goes.lane in
      let tick : t.history.now ≡ d.now = rw is d.goes.tick in
      let path : (lane_at t u).path ≡ (lane_at s u).path = ap (λ (y : Lane). y.path) lane ∙ d.path in
      let past : (lane_at t u).past ≡ (lane_at s u).past = ap (λ (y : Lane). y.past) lane ∙ d.past in
      let trip : trip_of (lane_at t u) ≡ trip_of (lane_at s u) = ap (λ (p : Delays). p.up + p.down) path in
      let place : (lane_at s u).entry.place ≡ (lane_at t u).entry.place =
      sym (ap (λ (y : Lane). y.entry.place) lane ∙ ap (λ (y : Entry). y.place) d.entry) in
      let steady : Steady s.olt t.olt (lane_at s u).entry.place = rw is d.steady in
      let set1 : (unit w u llid t h1).clock.acknowledged ≡ 1 =
      subst (λ (p : ℕ). (unit_at t.olt p).clock.acknowledged ≡ 1) place (steady.acknowledged set) in
      let free1 : free_from t.olt.shared.channels 0x00 ≤ t.history.now = rw steady.channels (omega (arith, free, tick, d.later)) in
      let confirmed1 : (unit w u llid t h1).confirmation.confirmed ≡ c =
      (alive w u llid t h1).joined.heard ∙ ap (λ (y : Past). highest upward y.arrived) past ∙ sym (alive w u llid s h).joined.heard ∙ confirmed in
      let n = (alive w u llid s h).joined.numbers in
      arrived_sooner w u llid (c + 1) t (onward t) (t.history.now + trip_of (lane_at t u)) end (omega (arith, tick, d.soon, trip))
      (after_keyed w u llid c last most least t h1 (subst (λ (y : Lane). is_synced y ≡ true) (sym lane) d.synced) set1 free1
      (rw (lane, tick) d.next) (rw (lane, tick) d.young)
      (free_later (lane_at s u) (lane_at t u) s.history.now t.history.now last most least past path (omega (arith, tick, d.later)) f)
      (omega (arith, tick, d.soon, trip, bound)) confirmed1
      (λ more.
      let number : (lane_at t u).keys.number ≡ (lane_at s u).keys.number = ap (λ (y : Lane). y.keys.number) lane ∙ d.number in
      let same = d.stays (omega (arith, more, number, n.last, n.mid, n.counted)) in
      rw (lane ∙ same.0, tick ∙ same.1) recent) (rw (lane, tick) d.goes.quiet))

  pub after_clock : Arrived w u llid (c + 1) s (and_then (keyed u llid key c) onward s) end
  after_clock =
      let d = keyed_done w u llid c key s h below synced set new confirmed (⊎_elim (λ e. inl e) (λ y. inr y.0) recent) (omega (arith, bound)) quiet in
      arrived_then w u llid (c + 1) s (keyed u llid key c) onward end d.goes.meets d.goes.whole (from_keyed d (run s (keyed u llid key c s)) refl)

-- once the channels are free
module _ (w : Setting) (u llid c last most least : ℕ) (key : List ℕ) (s : State) (h : Here w u llid s) (below : c < max_key_number) (new : NewKey s key)
    (early : (x : Answered) → Memᴰ x (lane_at s u).transit.answered → x.tick + (lane_at s u).path.up ≤ s.history.now)
    (free : free_from s.olt.shared.channels 0x00 ≤ s.history.now) (f : Free (lane_at s u) s.history.now last most least)
    (confirmed : confirmed_by (lane_at s u) ≡ c) (recent : Recent (lane_at s u) c (s.history.now + clock_round_of (lane_at s u)) least)
    (bound : s.history.now + (lane_at s u).entry.interval + 3 * trip_of (lane_at s u) ≤ max_tick) (quiet : Quiet (lane_at s u) s.history.now) where
  abbrev later : State → List Event
  later = and_then (keyed u llid key c) (and_then (moved u llid c) (up_round u llid))

  abbrev limit : ℕ
  limit = s.history.now + (lane_at s u).entry.interval + 3 * trip_of (lane_at s u)

  -- the state after the clock's round is t
  from_clock : (d : ClockDone w u llid s (clock_round u llid s) (s.history.now + clock_round_of (lane_at s u))) (t : State)
      → t ≡ run s (clock_round u llid s) → Arrived w u llid (c + 1) t (later t) limit
  from_clock d t is =
      let h1 : Here w u llid t = rw is d.goes.here in
      let k = d.kept in
      let lane : lane_at t u ≡ d.lane = rw is d.goes.lane in
      let tick : t.history.now ≡ s.history.now + clock_round_of (lane_at s u) = rw is d.goes.tick in
      let path : (lane_at t u).path ≡ (lane_at s u).path = ap (λ (y : Lane). y.path) lane ∙ k.path in
      let entry : (lane_at t u).entry ≡ (lane_at s u).entry = ap (λ (y : Lane). y.entry) lane ∙ k.entry in
      let keys : (lane_at t u).keys ≡ (lane_at s u).keys = ap (λ (y : Lane). y.keys) lane ∙ k.keys in
      let past : (lane_at t u).past ≡ (lane_at s u).past = ap (λ (y : Lane). y.past) lane ∙ k.past in
      let trip : trip_of (lane_at t u) ≡ trip_of (lane_at s u) = ap (λ (p : Delays). p.up + p.down) path in
      let interval : (lane_at t u).entry.interval ≡ (lane_at s u).entry.interval = ap (λ (y : Entry). y.interval) entry in
      let acknowledged : (unit_at t.olt (lane_at s u).entry.place).clock.acknowledged ≡ 1 = rw is d.acknowledged in
      let set1 : (unit w u llid t h1).clock.acknowledged ≡ 1 =
      subst (λ (p : ℕ). (unit_at t.olt p).clock.acknowledged ≡ 1) (ap (λ (y : Entry). y.place) (sym entry)) acknowledged in
      let calm = clock_calm u llid s in
      let steady : Steady s.olt t.olt (lane_at s u).entry.place =
      rw is (calm_run w s (clock_round u llid s) (lane_at s u).entry.place h.invariant d.goes.meets (alive w u llid s h).used calm.0) in
      let new1 : NewKey t key = rw is (new_after s (clock_round u llid s) key calm.1 new) in
      let confirmed1 : (unit w u llid t h1).confirmation.confirmed ≡ c =
      (alive w u llid t h1).joined.heard ∙ ap (λ (y : Past). highest upward y.arrived) past ∙ confirmed in
      let round : clock_round_of (lane_at s u) ≤ trip_of (lane_at s u) = clock_round_most (lane_at s u) in
      let free1 : free_from t.olt.shared.channels 0x00 ≤ t.history.now = rw steady.channels (omega (arith, free, tick)) in
      let recent1 : Recent (lane_at t u) c t.history.now least = rw (keys, path, tick) recent in
      arrived_sooner w u llid (c + 1) t (later t) (t.history.now + (lane_at t u).entry.interval + 2 * trip_of (lane_at t u)) limit
      (omega (arith, tick, interval, trip, round))
      (after_clock w u llid c last most least key t h1 below (subst (λ (y : Lane). is_synced y ≡ true) (sym lane) d.synced) set1 new1 free1
      (free_later (lane_at s u) (lane_at t u) s.history.now t.history.now last most least past path (omega (arith, tick)) f) confirmed1 recent1
      (omega (arith, tick, interval, trip, round, bound)) (rw (lane, tick) d.goes.quiet))

  pub after_wait : Arrived w u llid (c + 1) s (and_then (clock_round u llid) later s) limit
  after_wait =
      let d = clock_round-holds w u llid s h early quiet (omega (arith, bound)) in
      arrived_then w u llid (c + 1) s (clock_round u llid) later limit d.goes.meets d.goes.whole (from_clock d (run s (clock_round u llid s)) refl)

module _ (w : Setting) (u llid : ℕ) (key : List ℕ) (c tick last most least : ℕ) (s : State) (r : Ready w u llid key c tick last most least s) where
  abbrev rest : State → List Event
  rest = and_then (clock_round u llid) (and_then (keyed u llid key c) (and_then (moved u llid c) (up_round u llid)))

  abbrev until : ℕ
  until = tick + (lane_at s u).entry.interval + 3 * trip_of (lane_at s u)

  -- the state at that tick is t
  from_wait : (t : State) → Step w u s (advance (tick - s.history.now)) (lane_at s u) (s.history.now + (tick - s.history.now))
      → t ≡ step s (advance (tick - s.history.now)) → Arrived w u llid (c + 1) t (rest t) until
  unfolding run
  from_wait t st is =
      let h = r.here in
      let e = advance (tick - s.history.now) in
      let h1 : Here w u llid t = rw is (here_after w u llid s e (lane_at s u) _ h st refl refl) in
      let lane : lane_at t u ≡ lane_at s u = rw is st.lane in
      let now : t.history.now ≡ tick = rw is (omega (arith, st.tick, r.reach)) in
      let asked = (alive w u llid s h).joined.asked in
      let early : (x : Answered) → Memᴰ x (lane_at t u).transit.answered → x.tick + (lane_at t u).path.up ≤ t.history.now =
      λ x m.
      let was = (asked.answered x (subst (λ (y : Lane). Memᴰ x y.transit.answered) lane m)).1 in
      omega (arith, was, ap (λ (y : Lane). y.path.up) lane, now, r.reach) in
      let steady : Steady s.olt t.olt (lane_at s u).entry.place =
      rw is (calm_run w s (e ∷ []) (lane_at s u).entry.place h.invariant (st.fits, tt) (alive w u llid s h).used (tt, tt)) in
      let new1 : NewKey t key = rw is (new_after s (e ∷ []) key (tt, tt) r.new) in
      let f : Free (lane_at s u) tick last most least = record { each = r.each; lows = r.lows; channel = r.channel; guard = r.guard } in
      let trip : trip_of (lane_at t u) ≡ trip_of (lane_at s u) = ap trip_of lane in
      let interval : (lane_at t u).entry.interval ≡ (lane_at s u).entry.interval = ap (λ (y : Lane). y.entry.interval) lane in
      arrived_sooner w u llid (c + 1) t (rest t) (t.history.now + (lane_at t u).entry.interval + 3 * trip_of (lane_at t u)) until
      (omega (arith, now, trip, interval))
      (after_wait w u llid c last most least key t h1 r.below new1 early (rw steady.channels (omega (arith, r.free, now)))
      (free_later (lane_at s u) (lane_at t u) tick t.history.now last most least (ap (λ (y : Lane). y.past) lane) (ap (λ (y : Lane). y.path) lane)
      (omega (arith, now)) f)
      (ap confirmed_by lane ∙ r.confirmed) (rw (lane, now) r.recent) (omega (arith, now, trip, interval, r.limit))
      (rw (lane, now) (quiet_later (lane_at s u) s.history.now tick (omega (arith, r.reach)) r.quiet)))

  pub rounds_done : Arrived w u llid (c + 1) s (rounds u llid key c tick s) until
  unfolding rounds run
  rounds_done =
      let st = advance_goes w u llid s r.here (tick - s.history.now) (omega (arith, r.reach, r.limit)) in
      arrived_then w u llid (c + 1) s (waited tick) rest until (st.fits, tt)
      (quiet_keeps (lane_at s u) s.history.now (s.history.now + (tick - s.history.now)) (omega arith) r.quiet, tt)
      (from_wait (step s (advance (tick - s.history.now))) st refl)
