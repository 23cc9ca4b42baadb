-- An envelope down, unless one under key c + 1 has arrived, and one up: then the unit has come to key c + 1. Assumes nothing.
use mathlib.Core.Path.{◌≡◌, refl, sym, ◌∙◌, ap}
use mathlib.Core.Bool.{true}
use mathlib.Core.List.Memᴰ
use mathlib.Core.List.{List, [], ◌∷◌, ◌++◌, Memᴰ}
use mathlib.Core.Logic.{◌⊎◌, ⊎_elim}
use Prim.Native.Nat.{ℕ, ◌+◌, ◌<◌, ◌≤◌}
use native.Mathlib.Omega.{arith}
use Rattle.clock.specs.Ticks.{max_tick, key_life}
use Rattle.ends.specs.Occupancy.{free_from}
use Rattle.ends.specs.Travels.{travel_of}
use Rattle.unicast.specs.Setting.{Delays, Setting}
use Rattle.unicast.specs.History.{downward, upward, Envelope, Arrival, Keys, Lane, switching, number_down, is_synced}
use Rattle.unicast.specs.Events.{Event}
use Rattle.unicast.specs.Run.{State, lane_at, onu_at, run}
use Rattle.unicast.specs.Premises.{Meets}
use Rattle.unicast.specs.Claim.{ArrivedNumbered}
use Rattle.unicast.specs.Bounds.{longest}
use Rattle.unicast.proofs.Envelopes.{ways_apart}
use Rattle.unicast.proofs.Run.{run_append, meets_append}
use Rattle.progress.specs.Progress.{trip_of, LosesNothing, and_then, down_round, up_round}
use Rattle.progress.proofs.Going.{Here, alive, unit}
use Rattle.progress.proofs.Whole.{Quiet, whole_append}
use Rattle.progress.proofs.KeyRound.{synced_onu}
use Rattle.progress.proofs.EnvelopeRounds.{down_round-holds, up_round-holds}
use Rattle.progress.proofs.Journey.{arrived_highest}

-- the unit has come to key n
pub record Arrived (w : Setting) (u llid n : ℕ) (s : State) (es : List Event) (most : ℕ) : Type 0 where
  pub meets : Meets w s es
  pub here : Here w u llid (run s es)
  pub switches : (lane_at (run s es) u).keys.switches ≡ n
  pub down : ArrivedNumbered (lane_at (run s es) u) downward n
  pub up : ArrivedNumbered (lane_at (run s es) u) upward n
  pub soon : (run s es).history.now ≤ most
  pub whole : LosesNothing s u es

pub arrived_append : (w : Setting) (u llid n : ℕ) (s : State) (es fs : List Event) (most : ℕ) → Meets w s es → LosesNothing s u es
    → Arrived w u llid n (run s es) fs most → Arrived w u llid n s (es ++ fs) most
arrived_append w u llid n s es fs most m whole a =
    let same = run_append s es fs in
    record {
      meets = meets_append w s es fs m a.meets;
      here = rw same a.here;
      switches = rw same a.switches;
      down = rw same a.down;
      up = rw same a.up;
      soon = rw same a.soon;
      whole = whole_append u s es fs whole a.whole;
    }

-- one round after the other
pub arrived_then : (w : Setting) (u llid n : ℕ) (s : State) (f g : State → List Event) (most : ℕ) → Meets w s (f s) → LosesNothing s u (f s)
    → Arrived w u llid n (run s (f s)) (g (run s (f s))) most → Arrived w u llid n s (and_then f g s) most
unfolding and_then
arrived_then w u llid n s f g most m whole a = arrived_append w u llid n s (f s) (g (run s (f s))) most m whole a

module _ (w : Setting) (u llid c : ℕ) (s : State) (h : Here w u llid s) (synced : is_synced (lane_at s u) ≡ true)
    (set : (unit w u llid s h).clock.acknowledged ≡ 1) (free : free_from s.olt.shared.channels 0x00 ≤ s.history.now)
    (next : number_down (lane_at s u) s.history.now ≡ c + 1)
    (young : (switching (lane_at s u) s.history.now ≡ true) ⊎ (s.history.now < (lane_at s u).keys.switched + key_life))
    (last most : ℕ) (each : (e : Envelope) → Memᴰ e (lane_at s u).past.sent → e.direction ≡ upward → (e.left ≤ last) × (e.up ≤ most))
    (channel : last + longest ≤ s.history.now) (guard : last + most + longest ≤ s.history.now + (lane_at s u).path.up)
    (bound : s.history.now + trip_of (lane_at s u) ≤ max_tick) (quiet : Quiet (lane_at s u) s.history.now) where
  abbrev l : Lane
  l = lane_at s u

  abbrev now : ℕ
  now = s.history.now

  -- one under key c + 1 has arrived, and the unit's sends under it, if any, are recent
  pub stayed : l.keys.switches ≡ c + 1 → l.keys.number ≡ c + 1
      → ((onu_at s u).first.noted ≡ 1 → travel_of (onu_at s u) < (onu_at s u).first.at + key_life)
      → Arrived w u llid (c + 1) s (up_round u llid s) (now + trip_of l)
  stayed switches number fresh =
      let j = (alive w u llid s h).joined in
      let d = up_round-holds w u llid s h quiet (synced_onu w u llid s h synced) last most each channel guard fresh (omega (arith, bound)) in
      let lane = d.goes.lane in
      let old = arrived_highest l downward (c + 1) (sym j.told ∙ number) (omega arith) in
      let all : (lane_at (run s (up_round u llid s)) u).past.arrived ≡ l.past.arrived ++ (d.arrival ∷ []) =
      ap (λ (y : Lane). y.past.arrived) lane ∙ d.arrived in
      record {
        meets = d.goes.meets;
        here = d.goes.here;
        switches = ap (λ (y : Lane). y.keys.switches) lane ∙ ap (λ (k : Keys). k.switches) d.keys ∙ switches;
        down =
            record {
              arrival = old.arrival;
              among = rw all (Memᴰ.append_left (d.arrival ∷ []) old.among);
              that_way = old.that_way;
              numbered = old.numbered;
            };
        up =
            record {
              arrival = d.arrival;
              among = rw all (Memᴰ.append_right l.past.arrived (Memᴰ.head refl));
              that_way = rw d.is d.direction;
              numbered = rw d.is (d.numbered ∙ number);
            };
        soon = omega (arith, d.goes.tick);
        whole = d.goes.whole;
      }

  -- one under key c + 1 goes down: the unit has sent none under it
  pub moving : l.keys.number ≡ c → Arrived w u llid (c + 1) s (and_then (down_round u llid) (up_round u llid) s) (now + trip_of l)
  moving number =
      let d = down_round-holds w u llid s h quiet (c + 1) set free next young (omega (arith, bound)) in
      let m = d.moved in
      let s1 = run s (down_round u llid s) in
      let h1 = d.goes.here in
      let lane1 : lane_at s1 u ≡ d.lane = d.goes.lane in
      let j1 = (alive w u llid s1 h1).joined in
      let sent1 : (lane_at s1 u).past.sent ≡ l.past.sent ++ (m.sent ∷ []) = ap (λ (y : Lane). y.past.sent) lane1 ∙ m.past in
      let before : (e : Envelope) → Memᴰ e (lane_at s1 u).past.sent → e.direction ≡ upward → Memᴰ e l.past.sent =
      λ e i q.
      ⊎_elim (λ old. old) (λ new. ways_apart (sym m.direction ∙ ap (λ (y : Envelope). y.direction) (sym (Memᴰ.eq_of_singleton new)) ∙ q))
      (Memᴰ.append_cases l.past.sent (rw sent1 at i)) in
      let path1 : (lane_at s1 u).path ≡ l.path = ap (λ (y : Lane). y.path) lane1 ∙ m.path in
      let number1 : (lane_at s1 u).keys.number ≡ c + 1 = ap (λ (y : Lane). y.keys.number) lane1 ∙ m.number in
      let switches1 : (lane_at s1 u).keys.switches ≡ c + 1 = ap (λ (y : Lane). y.keys.switches) lane1 ∙ m.switches in
      let none : (onu_at s1 u).first.noted ≡ 1 → travel_of (onu_at s1 u) < (onu_at s1 u).first.at + key_life =
      λ one.
      let was = j1.firsts.some one in
      let old = ((alive w u llid s h).joined.spending.ups was.envelope (before was.envelope was.among was.that_way) was.that_way).1.most in
      absurd (omega (arith, old, was.numbered, j1.numbers.last, number1, (alive w u llid s h).joined.numbers.last, number)) in
      let tick1 : s1.history.now ≡ now + l.path.down = d.goes.tick in
      let up1 : (lane_at s1 u).path.up ≡ l.path.up = ap (λ (p : Delays). p.up) path1 in
      let quiet1 : Quiet (lane_at s1 u) s1.history.now = rw (lane1, tick1) d.goes.quiet in
      let d1 =
      up_round-holds w u llid s1 h1 quiet1 (synced_onu w u llid s1 h1 (rw (ap (λ (y : Lane). y.transit.answered) lane1 ∙ m.answered) synced)) last most
      (λ e i q. each e (before e i q) q) (omega (arith, channel, tick1)) (omega (arith, guard, tick1, up1)) none (omega (arith, bound, tick1, up1)) in
      let lane2 = d1.goes.lane in
      let s2 = run s1 (up_round u llid s1) in
      let all : (lane_at s2 u).past.arrived ≡ l.past.arrived ++ (m.arrival ∷ []) ++ (d1.arrival ∷ []) =
      ap (λ (y : Lane). y.past.arrived) lane2 ∙ d1.arrived
      ∙ ap (λ (rs : List Arrival). rs ++ (d1.arrival ∷ [])) (ap (λ (y : Lane). y.past.arrived) lane1 ∙ m.arrived) in
      arrived_then w u llid (c + 1) s (down_round u llid) (up_round u llid) (now + trip_of l) d.goes.meets d.goes.whole
      (record {
        meets = d1.goes.meets;
        here = d1.goes.here;
        switches = ap (λ (y : Lane). y.keys.switches) lane2 ∙ ap (λ (k : Keys). k.switches) d1.keys ∙ switches1;
        down =
            record {
              arrival = m.arrival;
              among = rw all (Memᴰ.append_left (d1.arrival ∷ []) (Memᴰ.append_right l.past.arrived (Memᴰ.head refl)));
              that_way = rw m.is m.direction;
              numbered = rw m.is m.numbered;
            };
        up =
            record {
              arrival = d1.arrival;
              among = rw all (Memᴰ.append_right (l.past.arrived ++ (m.arrival ∷ [])) (Memᴰ.head refl));
              that_way = rw d1.is d1.direction;
              numbered = rw d1.is (d1.numbered ∙ number1);
            };
        soon = omega (arith, d1.goes.tick, tick1, up1);
        whole = d1.goes.whole;
      })
