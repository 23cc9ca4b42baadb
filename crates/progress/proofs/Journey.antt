-- The rounds together: from a state in which every channel is free by that tick, the unit comes to key c + 1. Assumes nothing.
use mathlib.Core.Path.{◌≡◌, refl, sym, ◌∙◌, ap, subst}
use mathlib.Core.Bool.{Bool, true, false}
use mathlib.Core.List.{List, [], ◌∷◌, ◌++◌, Memᴰ}
use mathlib.Core.Logic.{◌⊎◌, inl, inr, ⊎_elim}
use Prim.Native.Nat.{ℕ, ◌+◌, ◌-◌, ◌%◌, ◌<◌, ◌≤◌, max}
use native.Mathlib.Omega.{arith}
use lib.Dec.{ltb}
use lib.ListN.{length}
use borrow.Author.Tests.{ltb-true, ltb-false, lt-ltb, le-ltb}
use Rattle.octets.specs.Choice.{pick}
use Rattle.octets.proofs.Choice.{both_true, both_false_left, pick_true, pick_false, true_false}
use Rattle.clock.specs.Ticks.{max_tick, key_life}
use Rattle.ends.specs.Limits.{max_key_number}
use Rattle.unicast.specs.Setting.{Setting}
use Rattle.unicast.specs.History.{Direction, downward, upward, Arrival, Entry, Lane, due, switching, number_down, is_synced}
use Rattle.unicast.specs.Events.{Event, advance, capture, clock_send, offer, retry, arrive_answer}
use Rattle.unicast.specs.Run.{State, lane_at, step, run}
use Rattle.unicast.specs.Premises.{NewKey}
use Rattle.unicast.specs.Claim.{ArrivedNumbered}
use Rattle.unicast.specs.Bounds.{goes, highest}
use Rattle.unicast.proofs.SendChoices.{max_either}
use Rattle.progress.specs.Progress.{trip_of, awaited_count, and_then, clock_place, answered_round, clock_round, key_round, interval, keyed}
use Rattle.progress.proofs.Going.{Here, here_after, alive, unit, advance_goes}
use Rattle.progress.proofs.Calm.{Calms, Steady, calm_run}
use Rattle.progress.proofs.Whole.{Quiet, quiet_later, quiet_keeps}
use Rattle.progress.proofs.Rounds.{Goes, goes_nil, goes_cons, goes_append}
use Rattle.progress.proofs.KeyRound.{key_round-holds, interval_due}
use Rattle.progress.proofs.Offers.{Unofferings}

---- one round after the other

pub and_then-holds : (w : Setting) (u llid : ℕ) (s : State) (f g : State → List Event) (l m : Lane) (n k : ℕ) → Goes w u llid s (f s) l n
    → Goes w u llid (run s (f s)) (g (run s (f s))) m k → Goes w u llid s (and_then f g s) m k
unfolding and_then
and_then-holds w u llid s f g l m n k a b = goes_append w u llid s (f s) (g (run s (f s))) l m n k a b

---- what the rounds leave of the OLT

pub clock_calm : (u llid : ℕ) (s : State) → Calms (clock_round u llid s) × Unofferings (clock_round u llid s)
unfolding clock_round answered_round pick
clock_calm u llid s = by_synced (is_synced (lane_at s u)) where
  by_synced : (t : Bool)
      → Calms
      (pick t (arrive_answer u (clock_place (lane_at s u).transit.answered) llid ∷ [])
      (capture llid ∷ clock_send llid ∷ answered_round u llid (lane_at s u)))
      × Unofferings
      (pick t (arrive_answer u (clock_place (lane_at s u).transit.answered) llid ∷ [])
      (capture llid ∷ clock_send llid ∷ answered_round u llid (lane_at s u)))
  by_synced true = ((tt, tt), (tt, tt))
  by_synced false = ((tt, (tt, (tt, (tt, (tt, (tt, tt)))))), (tt, (tt, (tt, (tt, (tt, (tt, tt)))))))

key_calm : (u llid : ℕ) (key : List ℕ) (s : State) → Calms (key_round u llid key s)
unfolding key_round answered_round pick
key_calm u llid key s = by_offer (ltb (lane_at s u).keys.switches (length (lane_at s u).keys.offers)) where
  by_offer : (t : Bool) → Calms (pick t (retry llid) (offer llid key) ∷ answered_round u llid (lane_at s u))
  by_offer true = (tt, (tt, (tt, (tt, (tt, tt)))))
  by_offer false = (tt, (tt, (tt, (tt, (tt, tt)))))

pub calms_append : (es fs : List Event) → Calms es → Calms fs → Calms (es ++ fs)
calms_append [] fs a b = b
calms_append (e ∷ es) fs a b = (a.0, calms_append es fs a.1 b)

and_then_calm : (f g : State → List Event) (s : State) → Calms (f s) → Calms (g (run s (f s))) → Calms (and_then f g s)
unfolding and_then
and_then_calm f g s a b = calms_append (f s) (g (run s (f s))) a b

---- the highest number that arrived a way, if any did

record Reached (direction : Direction) (rs : List Arrival) (n : ℕ) : Type 0 where
  arrival : Arrival
  among : Memᴰ arrival rs
  that_way : arrival.envelope.direction ≡ direction
  numbered : arrival.envelope.number ≡ n

goes_is : (a b : Direction) → goes a b ≡ true → b ≡ a
goes_is downward downward e = refl
goes_is downward upward e = true_false (sym e)
goes_is upward downward e = true_false (sym e)
goes_is upward upward e = refl

reached_more : (direction : Direction) (r : Arrival) (rs : List Arrival) (n : ℕ) → Reached direction rs n → Reached direction (r ∷ rs) n
reached_more direction r rs n m = record { arrival = m.arrival; among = Memᴰ.tail m.among; that_way = m.that_way; numbered = m.numbered }

highest_reached : (direction : Direction) (rs : List Arrival) → 1 ≤ highest direction rs → Reached direction rs (highest direction rs)
unfolding highest pick
highest_reached direction [] h = absurd (omega (arith, h))
highest_reached direction (r ∷ rs) h = by_direction (goes direction r.envelope.direction) refl h (highest_reached direction rs) where
  by_direction : (t : Bool) → goes direction r.envelope.direction ≡ t
      → 1 ≤ pick t (max r.envelope.number (highest direction rs)) (highest direction rs)
      → (1 ≤ highest direction rs → Reached direction rs (highest direction rs))
      → Reached direction (r ∷ rs) (pick t (max r.envelope.number (highest direction rs)) (highest direction rs))
  by_direction false e some rest = reached_more direction r rs _ (rest some)
  by_direction true e some rest =
      ⊎_elim
      (λ own.
      record { arrival = r; among = Memᴰ.head refl; that_way = goes_is direction r.envelope.direction e; numbered = sym own })
      (λ old. rw old (reached_more direction r rs _ (rest (omega (arith, some, old)))))
      (max_either r.envelope.number (highest direction rs))

pub arrived_highest : (l : Lane) (direction : Direction) (n : ℕ) → highest direction l.past.arrived ≡ n → 1 ≤ n → ArrivedNumbered l direction n
arrived_highest l direction n e some =
    let r = highest_reached direction l.past.arrived (omega (arith, e, some)) in
    record { arrival = r.arrival; among = r.among; that_way = r.that_way; numbered = r.numbered ∙ e }

---- the key's round and the interval, or nothing

pub record KeyedDone (w : Setting) (u llid c : ℕ) (s : State) (es : List Event) : Type 0 where
  pub lane : Lane
  pub now : ℕ
  pub goes : Goes w u llid s es lane now
  pub site : lane.site ≡ (lane_at s u).site
  pub path : lane.path ≡ (lane_at s u).path
  pub entry : lane.entry ≡ (lane_at s u).entry
  pub past : lane.past ≡ (lane_at s u).past
  pub number : lane.keys.number ≡ (lane_at s u).keys.number
  pub synced : is_synced lane ≡ true
  pub next : number_down lane now ≡ c + 1
  pub young : (switching lane now ≡ true) ⊎ (now < lane.keys.switched + key_life)
  pub later : s.history.now ≤ now
  pub soon : now ≤ s.history.now + trip_of (lane_at s u) + (lane_at s u).entry.interval
  pub stays : c < (lane_at s u).keys.switches → (lane ≡ lane_at s u) × (now ≡ s.history.now)
  pub steady : Steady s.olt (run s es).olt (lane_at s u).entry.place

module _ (w : Setting) (u llid c : ℕ) (key : List ℕ) (s : State) (h : Here w u llid s) (below : c < max_key_number)
    (synced : is_synced (lane_at s u) ≡ true) (set : (unit w u llid s h).clock.acknowledged ≡ 1) (new : NewKey s key)
    (confirmed : (unit w u llid s h).confirmation.confirmed ≡ c)
    (recent : ((lane_at s u).keys.switches ≡ c) ⊎ (s.history.now < (lane_at s u).keys.switched + key_life))
    (most : s.history.now + trip_of (lane_at s u) + (lane_at s u).entry.interval ≤ max_tick)
    (quiet : Quiet (lane_at s u) s.history.now) where
  abbrev l : Lane
  l = lane_at s u

  -- there was a switch to key c + 1
  switched : c < l.keys.switches → KeyedDone w u llid c s []
  unfolding run switching number_down
  switched more =
      let n = (alive w u llid s h).joined.numbers in
      let none : ltb l.keys.switches (length l.keys.offers) ≡ false =
      le-ltb l.keys.switches (length l.keys.offers) (omega (arith, more, n.counted, n.listed, n.next, confirmed)) in
      record {
        lane = l;
        now = s.history.now;
        goes = goes_nil w u llid s l s.history.now h refl refl quiet;
        site = refl;
        path = refl;
        entry = refl;
        past = refl;
        number = refl;
        synced = synced;
        next =
            pick_false (l.keys.switches + 1) l.keys.switches (both_false_left _ none)
            ∙ omega (arith, more, n.counted, n.high, n.top, n.next, confirmed);
        young = ⊎_elim (λ e. absurd (omega (arith, e, more))) (λ y. inr y) recent;
        later = omega arith;
        soon = omega arith;
        stays = λ m. (refl, refl);
        steady = record { channels = refl; acknowledged = λ a. a };
      }

  -- not yet
  unswitched : l.keys.switches ≤ c → KeyedDone w u llid c s (and_then (key_round u llid key) (interval u) s)
  unfolding interval run switching number_down
  unswitched few =
      let n = (alive w u llid s h).joined.numbers in
      let switches : l.keys.switches ≡ c = omega (arith, few, n.counted, n.low, n.mid, confirmed) in
      let number : l.keys.number ≡ c = omega (arith, n.last, n.low, n.mid, n.counted, switches, confirmed) in
      let k = key_round-holds w u llid c s h below synced number (omega (arith, most)) quiet key new switches confirmed set in
      let o = k.offered in
      let s1 = run s (key_round u llid key s) in
      let h1 = k.goes.here in
      let lane1 : lane_at s1 u ≡ k.lane = k.goes.lane in
      let entry : (lane_at s1 u).entry ≡ l.entry = ap (λ (y : Lane). y.entry) lane1 ∙ o.entry in
      let timing = (alive w u llid s1 h1).joined.timing in
      let r = (lane_at s1 u).entry in
      let rest = r.interval - (s1.history.now - r.since) % r.interval in
      let few : rest ≤ r.interval = omega arith in
      let same : r.interval ≡ l.entry.interval = ap (λ (y : Entry). y.interval) entry in
      let t = advance_goes w u llid s1 h1 rest (omega (arith, few, same, k.goes.tick, most)) in
      let h2 = here_after w u llid s1 (advance rest) (lane_at s1 u) (s1.history.now + rest) h1 t refl refl in
      let late : due r (lane_at s1 u).keys (s1.history.now + rest) ≡ true =
      interval_due r (lane_at s1 u).keys s1.history.now timing.some timing.since timing.switched in
      let more : ltb k.lane.keys.switches (length k.lane.keys.offers) ≡ true =
      lt-ltb k.lane.keys.switches (length k.lane.keys.offers) (omega (arith, o.switches, o.offers, switches)) in
      let calm : Quiet k.lane s1.history.now = subst (λ (n : ℕ). Quiet k.lane n) (sym k.goes.tick) k.goes.quiet in
      let keeps : awaited_count (lane_at s1 u) (s1.history.now + rest) ≡ awaited_count (lane_at s1 u) s1.history.now =
      quiet_keeps (lane_at s1 u) s1.history.now (s1.history.now + rest) (omega arith)
      (subst (λ (y : Lane). Quiet y s1.history.now) (sym lane1) calm) in
      let still : Quiet k.lane (s1.history.now + rest) = quiet_later k.lane s1.history.now (s1.history.now + rest) (omega arith) calm in
      let goes2 : Goes w u llid s1 (interval u s1) k.lane (s1.history.now + rest) =
      goes_cons w u llid s1 (advance rest) [] (lane_at s1 u) k.lane (s1.history.now + rest) (s1.history.now + rest) t keeps
      (goes_nil w u llid (step s1 (advance rest)) k.lane (s1.history.now + rest) h2 (t.lane ∙ lane1) t.tick still) in
      let all : Goes w u llid s (and_then (key_round u llid key) (interval u) s) k.lane (s1.history.now + rest) =
      and_then-holds w u llid s (key_round u llid key) (interval u) k.lane k.lane _ _ k.goes goes2 in
      let switch : switching k.lane (s1.history.now + rest) ≡ true =
      both_true more (both_true o.acknowledged (subst (λ (y : Lane). due y.entry y.keys (s1.history.now + rest) ≡ true) lane1 late)) in
      record {
        lane = k.lane;
        now = s1.history.now + rest;
        goes = all;
        site = o.site;
        path = o.path;
        entry = o.entry;
        past = o.past;
        number = o.number;
        synced = o.synced;
        next = pick_true (k.lane.keys.switches + 1) k.lane.keys.switches switch ∙ omega (arith, o.switches, switches);
        young = inl switch;
        later = omega (arith, k.goes.tick);
        soon = omega (arith, k.goes.tick, few, same);
        stays = λ m. absurd (omega (arith, m, switches));
        steady =
            calm_run w s (and_then (key_round u llid key) (interval u) s) l.entry.place h.invariant all.meets (alive w u llid s h).used
            (and_then_calm (key_round u llid key) (interval u) s (key_calm u llid key s) (tt, tt));
      }

  pub keyed_done : KeyedDone w u llid c s (keyed u llid key c s)
  unfolding keyed pick
  keyed_done = by_switch (ltb c l.keys.switches) refl where
    by_switch : (t : Bool) → ltb c l.keys.switches ≡ t → KeyedDone w u llid c s (pick t [] (and_then (key_round u llid key) (interval u) s))
    by_switch true e = switched (ltb-true c l.keys.switches e)
    by_switch false e = unswitched (ltb-false c l.keys.switches e)
