-- The line never freezes: from wherever a list has led, the continuation brings a unit to its next key. Assumes nothing.
use mathlib.Core.Path.{◌≡◌, refl, sym, ◌∙◌, ap, subst}
use mathlib.Core.Bool.{Bool, true, false}
use mathlib.Core.List.Memᴰ
use mathlib.Core.List.{List, [], ◌∷◌, map, Memᴰ}
use mathlib.Core.Logic.{inl, inr, ⊎_elim}
use Prim.Native.Nat.{ℕ, zero, suc, ◌+◌, ◌*◌, ◌<◌, ◌≤◌}
use native.Mathlib.Nat.{le-max_left, le-max_right, max-le}
use native.Mathlib.Omega.{arith}
use lib.Dec.{leb, ltb}
use lib.ListN.{length, length-append}
use borrow.Author.Tests.{leb-true, leb-false, ltb-true, ltb-false}
use Rattle.octets.specs.Choice.{pick}
use Rattle.octets.proofs.Choice.{pick_holds, true_false}
use Rattle.clock.specs.Ticks.{key_life, max_round_trip}
use Rattle.ends.specs.Table.{unit_at}
use Rattle.ends.proofs.Table.{find_at}
use Rattle.ends.proofs.Validity.{unit_in_range, clock_in_range}
use Rattle.protocol.proofs.Lift.{unit_at_valid}
use Rattle.unicast.specs.Setting.{Delays, Setting}
use Rattle.unicast.specs.History.{downward, upward, Envelope, left_at, Entry, Lane, is_synced}
use Rattle.unicast.specs.Events.{Event, capture, clock_send}
use Rattle.unicast.specs.Run.{State, start, run, lane_at}
use Rattle.unicast.specs.Bounds.{longest}
use Rattle.unicast.proofs.Invariant.{Rising, Invariant}
use Rattle.unicast.proofs.StartSteps.{start_right}
use Rattle.unicast.proofs.Theorem.{run_right}
use Rattle.unicast.proofs.Claims.{claim_holds}
use Rattle.unicast.proofs.Alive.{registered_alive}
use Rattle.progress.specs.Progress as spec
use Rattle.progress.specs.Progress.{confirmed_by, trip_of, most_up, least_up, spread, wait_of, clock_round_of, limit_of, awaited_count, next_down, next_up, next_by, next, drained, and_then, waited, answered_round, clock_round, key_round, interval, down_round, up_round, keyed, moved, rounds, onwards, recipe, Moving, max_events, Brings}
use Rattle.progress.proofs.Going.{Here, alive, found}
use Rattle.progress.proofs.Calm.{calm_run}
use Rattle.progress.proofs.Journey.{arrived_highest}
use Rattle.progress.proofs.Moving.{Arrived, arrived_append}
use Rattle.progress.proofs.Onwards.{Ready, arrived_sooner, rounds_done}
use Rattle.progress.proofs.Draining.{Drained, Drains, Drainage, LeftBy, drained_drains}
use Rattle.progress.proofs.Whole.{quiet_of}
use Rattle.progress.proofs.Offers.{new_after}

---- the unit's delays up

most_path : (up : ℕ) (es : List Envelope) → up ≤ most_up up es
unfolding most_up
most_path up [] = omega arith
most_path up (e ∷ es) = let rest = most_path up es in omega (arith, rest, le-max_right e.up (most_up up es))

most_each : (up : ℕ) (es : List Envelope) (e : Envelope) → Memᴰ e es → e.up ≤ most_up up es
unfolding most_up
most_each up [] e m = absurd (Memᴰ.not-nil m)
most_each up (x ∷ es) e m =
    ⊎_elim (λ same. omega (arith, ap (λ (y : Envelope). y.up) same, le-max_left x.up (most_up up es)))
    (λ i. let rest = most_each up es e i in omega (arith, rest, le-max_right x.up (most_up up es))) (Memᴰ.cases_cons m)

lesser : (a b : ℕ) → (pick (leb a b) a b ≤ a) × (pick (leb a b) a b ≤ b)
unfolding pick
lesser a b = by_order (leb a b) refl where
  by_order : (t : Bool) → leb a b ≡ t → (pick t a b ≤ a) × (pick t a b ≤ b)
  by_order true e = (omega arith, leb-true a b e)
  by_order false e = (omega (arith, leb-false a b e), omega arith)

least_path : (up : ℕ) (es : List Envelope) → least_up up es ≤ up
unfolding least_up
least_path up [] = omega arith
least_path up (e ∷ es) = let rest = least_path up es in omega (arith, rest, (lesser e.up (least_up up es)).1)

least_each : (up : ℕ) (es : List Envelope) (e : Envelope) → Memᴰ e es → least_up up es ≤ e.up
unfolding least_up
least_each up [] e m = absurd (Memᴰ.not-nil m)
least_each up (x ∷ es) e m =
    ⊎_elim (λ same. omega (arith, ap (λ (y : Envelope). y.up) same, (lesser x.up (least_up up es)).0))
    (λ i. let rest = least_each up es e i in omega (arith, rest, (lesser x.up (least_up up es)).1)) (Memᴰ.cases_cons m)

---- what is under way has left

pub rising_top : {A : Type 0} (f : A → ℕ) (lo hi : ℕ) (xs : List A) → Rising lo hi (map f xs) → lo ≤ hi
rising_top f lo hi [] r = r
rising_top f lo hi (x ∷ xs) r = let rest = rising_top f (f x) hi xs r.1 in omega (arith, rest, r.0)

rising_each : {A : Type 0} (f : A → ℕ) (lo hi : ℕ) (xs : List A) (x : A) → Rising lo hi (map f xs) → Memᴰ x xs → f x ≤ hi
rising_each f lo hi [] x r m = absurd (Memᴰ.not-nil m)
rising_each f lo hi (y ∷ ys) x r m =
    ⊎_elim (λ same. let top = rising_top f (f y) hi ys r.1 in omega (arith, ap f same, top))
    (λ i. rising_each f (f y) hi ys x r.1 i) (Memᴰ.cases_cons m)

---- how many events

pub clock_short : (u llid : ℕ) (s : State) → length (clock_round u llid s) ≤ 6
unfolding clock_round answered_round
clock_short u llid s =
    pick_holds (λ (es : List Event). length es ≤ 6) (is_synced (lane_at s u)) _ (capture llid ∷ clock_send llid ∷ answered_round u llid (lane_at s u))
    (λ e. omega arith) (λ e. omega arith)

key_short : (u llid : ℕ) (key : List ℕ) (s : State) → length (key_round u llid key s) ≤ 5
unfolding key_round answered_round
key_short u llid key s = omega arith

then_short : (f g : State → List Event) (s : State) (a b : ℕ) → length (f s) ≤ a → ((t : State) → length (g t) ≤ b)
    → length (and_then f g s) ≤ a + b
unfolding and_then
then_short f g s a b p q = let more = q (run s (f s)) in omega (arith, p, more, length-append (f s) (g (run s (f s))))

interval_short : (u : ℕ) (s : State) → length (interval u s) ≤ 1
unfolding interval
interval_short u s = omega arith

keyed_short : (u llid : ℕ) (key : List ℕ) (c : ℕ) (s : State) → length (keyed u llid key c s) ≤ 6
unfolding keyed
keyed_short u llid key c s =
    pick_holds (λ (es : List Event). length es ≤ 6) (ltb c (lane_at s u).keys.switches) [] (and_then (key_round u llid key) (interval u) s)
    (λ e. omega arith) (λ e. then_short (key_round u llid key) (interval u) s 5 1 (key_short u llid key s) (interval_short u))

moved_short : (u llid c : ℕ) (s : State) → length (moved u llid c s) ≤ 3
unfolding moved down_round
moved_short u llid c s =
    pick_holds (λ (es : List Event). length es ≤ 3) (ltb c (lane_at s u).keys.number) [] (down_round u llid s) (λ e. omega arith) (λ e. omega arith)

up_short : (u llid : ℕ) (s : State) → length (up_round u llid s) ≤ 3
unfolding up_round
up_short u llid s = omega arith

rounds_short : (u llid : ℕ) (key : List ℕ) (c tick : ℕ) (s : State) → length (rounds u llid key c tick s) ≤ max_events
unfolding rounds
rounds_short u llid key c tick s =
    then_short (waited tick) _ s 1 18 (omega arith)
    (λ t.
    then_short (clock_round u llid) _ t 6 12 (clock_short u llid t)
    (λ t.
    then_short (keyed u llid key c) _ t 6 6 (keyed_short u llid key c t)
    (λ t. then_short (moved u llid c) (up_round u llid) t 3 3 (moved_short u llid c t) (up_short u llid))))

next_short : (s : State) (u : ℕ) → length (next s u) ≤ 2
unfolding next next_by next_down next_up
next_short s u = by_queues (spec.awaited s.history.now (spec.due_down (lane_at s u))) (spec.awaited s.history.now (spec.due_up (lane_at s u))) where
  by_queues : (ds us : List ℕ) → length (next_by s u ds us) ≤ 2
  by_queues [] [] = omega arith
  by_queues (t ∷ ts) [] = omega arith
  by_queues [] (v ∷ vs) = omega arith
  by_queues (t ∷ ts) (v ∷ vs) = pick_holds (λ (es : List Event). length es ≤ 2) (leb t v) (next_down s u t) (next_up s u v) (λ e. omega arith)
      (λ e. omega arith)

drained_short : (n : ℕ) (s : State) (u : ℕ) → length (drained n s u) ≤ 2 * n
unfolding drained
drained_short zero s u = omega arith
drained_short (suc n) s u =
    let rest = drained_short n (run s (next s u)) u in
    omega (arith, rest, next_short s u, length-append (next s u) (drained n (run s (next s u)) u))

onwards_short : (u llid : ℕ) (key : List ℕ) (c tick : ℕ) (s : State) → length (onwards u llid key c tick s) ≤ max_events
unfolding onwards
onwards_short u llid key c tick s =
    pick_holds (λ (es : List Event). length es ≤ max_events) (ltb c (confirmed_by (lane_at s u))) [] (rounds u llid key c tick s)
    (λ e. omega arith) (λ e. rounds_short u llid key c tick s)

---- what changes of the path add

-- by then the guard is passed
spread_guard : (l : Lane) (now up : ℕ) → up ≡ l.path.up → l.path.up ≤ most_up l.path.up l.past.sent
    → least_up l.path.up l.past.sent ≤ l.path.up
    → now + most_up l.path.up l.past.sent + longest ≤ now + wait_of l + up
unfolding spread
spread_guard l now up e wide narrow = omega (arith, e, wide, narrow)

-- a unit that is synced needs no clock's round
round_less : (l m : Lane) → trip_of m ≡ trip_of l → (is_synced l ≡ true → is_synced m ≡ true) → clock_round_of m ≤ clock_round_of l
unfolding pick
round_less l m trip synced = by_synced (is_synced l) (is_synced m) synced where
  by_synced : (a b : Bool) → (a ≡ true → b ≡ true) → pick b 0 (trip_of m) ≤ pick a 0 (trip_of l)
  by_synced true true f = omega arith
  by_synced true false f = true_false (sym (f refl))
  by_synced false true f = omega arith
  by_synced false false f = omega (arith, trip)

spread_recent : (l m : Lane) (now : ℕ) → m.keys.switched ≡ l.keys.switched → m.path.up ≡ l.path.up
    → l.path.up ≤ most_up l.path.up l.past.sent → least_up l.path.up l.past.sent ≤ l.path.up → clock_round_of m ≤ clock_round_of l
    → now + wait_of l + spread l + clock_round_of l < l.keys.switched + key_life
    → (now + wait_of l + clock_round_of m < m.keys.switched + key_life)
    × (now + wait_of l + clock_round_of m + m.path.up < m.keys.switched + least_up l.path.up l.past.sent + key_life)
unfolding spread
spread_recent l m now switched up wide narrow round y = (omega (arith, switched, round, y), omega (arith, switched, up, wide, narrow, round, y))

---- from any state that the invariant holds of

module _ (w : Setting) (s : State) (u llid : ℕ) (key : List ℕ) (v : Invariant w s) (m : Moving s u llid key) where
  abbrev l : Lane
  l = lane_at s u

  abbrev now : ℕ
  now = s.history.now

  abbrev c : ℕ
  c = confirmed_by l

  abbrev most : ℕ
  most = most_up l.path.up l.past.sent

  abbrev least : ℕ
  least = least_up l.path.up l.past.sent

  here : Here w u llid s
  here = record { invariant = v; registered = m.registered; named = m.named }

  -- a unit's round trip
  trip_most : trip_of l ≤ max_round_trip
  trip_most =
      let a = alive w u llid s here in
      let place = l.entry.place in
      let valid = unit_at_valid s.olt llid place v.valid (find_at s.olt llid place (found w u llid s here)) in
      let clock = clock_in_range s.olt.shared.tick (unit_at s.olt place).clock
      (unit_in_range s.olt.shared.tick (unit_at s.olt place) valid).clock in
      omega (arith, clock.trip, a.joined.clocks.trip)

  left : LeftBy l now
  left =
      let o = (alive w u llid s here).joined.order in
      record {
        towards = λ x i. rising_each left_at 0 now l.transit.towards x o.towards i;
        from = λ e i. rising_each (λ (y : Envelope). y.left) 0 now l.transit.from e o.from i;
      }

  drainage : Drainage w u llid (awaited_count l now) s (drained (awaited_count l now) s u) (now + trip_of l)
  drainage = drained_drains w u llid (awaited_count l now) s here now left (omega (arith, m.in_range)) (omega arith)

  drains : Drains w u llid s (drained (awaited_count l now) s u) (now + trip_of l)
  drains = drainage.drains

  abbrev tick : ℕ
  tick = now + wait_of l

  abbrev end : ℕ
  end = now + limit_of l

  -- the state once nothing is under way is t
  from_drained : (t : State) → t ≡ run s (drained (awaited_count l now) s u) → Arrived w u llid (c + 1) t (onwards u llid key c tick t) end
  unfolding onwards pick run
  from_drained t is = by_confirmed (ltb c (confirmed_by (lane_at t u))) refl where
    here1 : Here w u llid t
    here1 = rw is drains.here

    d : Drained l (lane_at t u)
    d = rw is drains.drained

    soon : t.history.now ≤ now + trip_of l
    soon = rw is drains.soon

    numbers1 : ((lane_at t u).keys.switches ≡ l.keys.switches) × (l.keys.switches ≤ c + 1)
    numbers1 =
        let j = (alive w u llid s here).joined in
        let n = j.numbers in
        (d.switches, omega (arith, n.counted, n.high, n.top, n.next, j.heard))

    -- key c + 1 was confirmed by what was under way
    confirmed : c < confirmed_by (lane_at t u) → Arrived w u llid (c + 1) t [] end
    confirmed more =
        let j = (alive w u llid t here1).joined in
        let n = j.numbers in
        let bounds = numbers1 in
        let up : confirmed_by (lane_at t u) ≡ c + 1 = omega (arith, more, j.heard, n.low, n.mid, n.counted, bounds.0, bounds.1) in
        let number : (lane_at t u).keys.number ≡ c + 1 = omega (arith, up, j.heard, n.low, n.mid, n.last, n.counted, bounds.0, bounds.1) in
        record {
          meets = tt;
          here = here1;
          switches = omega (arith, number, n.mid, n.last, n.counted, bounds.0, bounds.1);
          down = arrived_highest (lane_at t u) downward (c + 1) (sym j.told ∙ number) (omega arith);
          up = arrived_highest (lane_at t u) upward (c + 1) up (omega arith);
          soon = omega (arith, soon);
          whole = tt;
        }

    ready : confirmed_by (lane_at t u) ≤ c → Ready w u llid key c tick now most least t
    ready few =
        let j = (alive w u llid s here).joined in
        let up : (lane_at t u).path.up ≡ l.path.up = ap (λ (p : Delays). p.up) d.path in
        let trip : trip_of (lane_at t u) ≡ trip_of l = ap (λ (p : Delays). p.up + p.down) d.path in
        let steady = calm_run w s (drained (awaited_count l now) s u) l.entry.place v drains.meets (alive w u llid s here).used drains.calm in
        let channels : t.olt.shared.channels ≡ s.olt.shared.channels = rw is steady.channels in
        let wide = most_path l.path.up l.past.sent in
        let narrow = least_path l.path.up l.past.sent in
        let round = round_less l (lane_at t u) trip d.synced in
        record {
          here = here1;
          confirmed = omega (arith, few, d.grows);
          below = m.below;
          new = rw is (new_after s (drained (awaited_count l now) s u) key drains.quiet m.new);
          reach = omega (arith, soon, up, trip_most);
          free = rw channels (let was = v.shared.free 0x00 in omega (arith, was));
          each = λ e i q.
              let old = subst (λ (y : List Envelope). Memᴰ e y) d.sent i in (
                j.gone e old,
                most_each l.path.up l.past.sent e old,
              );
          lows = λ e i q. least_each l.path.up l.past.sent e (subst (λ (y : List Envelope). Memᴰ e y) d.sent i);
          channel = omega arith;
          guard = spread_guard l now (lane_at t u).path.up up wide narrow;
          recent =
              ⊎_elim (λ e. inl (d.switches ∙ e))
              (λ y. inr (spread_recent l (lane_at t u) now d.switched up wide narrow round (omega (arith, y)))) m.recent;
          limit = omega (arith, m.in_range, trip, ap (λ (y : Entry). y.interval) d.entry);
          quiet = quiet_of (lane_at t u) t.history.now (rw is (omega (arith, drainage.fewer)));
        }

    unconfirmed : confirmed_by (lane_at t u) ≤ c → Arrived w u llid (c + 1) t (rounds u llid key c tick t) end
    unconfirmed few =
        let trip : trip_of (lane_at t u) ≡ trip_of l = ap (λ (p : Delays). p.up + p.down) d.path in
        arrived_sooner w u llid (c + 1) t (rounds u llid key c tick t) _ end
        (omega (arith, trip, ap (λ (y : Entry). y.interval) d.entry))
        (rounds_done w u llid key c tick now most least t (ready few))

    by_confirmed : (b : Bool) → ltb c (confirmed_by (lane_at t u)) ≡ b → Arrived w u llid (c + 1) t (pick b [] (rounds u llid key c tick t)) end
    by_confirmed true e = confirmed (ltb-true c (confirmed_by (lane_at t u)) e)
    by_confirmed false e = unconfirmed (ltb-false c (confirmed_by (lane_at t u)) e)

  arrives : Arrived w u llid (c + 1) s (recipe u llid key s) end
  unfolding recipe and_then
  arrives =
      arrived_append w u llid (c + 1) s (drained (awaited_count l now) s u) (onwards u llid key c tick (run s (drained (awaited_count l now) s u))) end
      drains.meets drains.whole
      (from_drained (run s (drained (awaited_count l now) s u)) refl)

  recipe_short : length (recipe u llid key s) ≤ max_events + 2 * awaited_count l now
  unfolding recipe and_then
  recipe_short =
      let first = drained_short (awaited_count l now) s u in
      let t = run s (drained (awaited_count l now) s u) in
      let rest = onwards_short u llid key c tick t in
      omega (arith, first, rest, length-append (drained (awaited_count l now) s u) (onwards u llid key c tick t))

  pub brings : Brings w s u (c + 1) (limit_of l) (max_events + 2 * awaited_count l now) (recipe u llid key s)
  brings =
      let a = arrives in
      record {
        meets = a.meets;
        holds = (claim_holds w (run s (recipe u llid key s)) a.here.invariant).held u (c + 1) (omega arith) a.switches a.down a.up;
        down = a.down;
        up = a.up;
        soon = a.soon;
        short = recipe_short;
        whole = a.whole;
      }

-- no more than the longest delay is added
most_below : (up top : ℕ) (es : List Envelope) → up ≤ top → ((e : Envelope) → Memᴰ e es → e.up ≤ top) → most_up up es ≤ top
unfolding most_up
most_below up top [] h each = h
most_below up top (e ∷ es) h each = max-le (each e (Memᴰ.head refl)) (most_below up top es h (λ x m. each x (Memᴰ.tail m)))

pub spread_most : spec.SpreadMost
unfolding spread
spread_most w es u f m registered =
    let s = run (start w) es in
    let j = (registered_alive w s u (run_right w (start w) es (start_right w f) m) registered).joined in
    let top = most_below (lane_at s u).path.up max_round_trip (lane_at s u).past.sent (omega (arith, j.near)) j.ups in
    omega (arith, top)

-- from fresh ends
pub progress : spec.Progress
progress w es u llid key f m able =
    brings w (run (start w) es) u llid key (run_right w (start w) es (start_right w f) m) able
