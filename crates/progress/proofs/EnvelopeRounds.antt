-- The envelopes' rounds: one leaves down and arrives, one leaves up and arrives. Assumes nothing.
use mathlib.Core.Path.{◌≡◌, refl, sym, ◌∙◌, ap, subst}
use mathlib.Core.Bool.{Bool, true, false}
use mathlib.Core.List.{List, [], ◌∷◌, ◌++◌, Memᴰ}
use mathlib.Core.Logic.{◌⊎◌, inl, inr, ⊎_elim}
use Prim.Native.Nat.{ℕ, suc, ◌+◌, ◌<◌, ◌≤◌}
use native.Mathlib.Omega.{arith}
use lib.Dec.{eqb, leb}
use lib.ListN.{length, drop}
use borrow.Author.Tests.{eqb-true, leb-true, leb-false, lt-leb}
use Rattle.octets.specs.Choice.{pick}
use Rattle.octets.proofs.Choice.{then_both_false, true_false}
use Rattle.clock.specs.Ticks.{max_tick, key_life}
use Rattle.sealing.proofs.Seal.{carried_length}
use Rattle.ends.specs.Keys.{aged}
use Rattle.ends.specs.Limits.{max_changes}
use Rattle.ends.specs.Occupancy.{free_from}
use Rattle.ends.specs.Travels.{travel_of}
use Rattle.ends.specs.declared.FirstSend.{FirstSend}
use Rattle.ends.specs.declared.Onu.{Onu}
use Rattle.ends.specs.declared.OnuKeys.{OnuKeys}
use Rattle.ends.specs.declared.UnitRecord.{UnitRecord}
use Rattle.protocol.specs.Headers.{choice_aged}
use Rattle.protocol.specs.OnuTraffic.{onu_send_choice}
use Rattle.protocol.specs.UnitTraffic.{switches, unit_send_choice}
use Rattle.protocol.specs.declared.KeyChoice.TheVariants.{Clear, Current, Next}
use Rattle.unicast.specs.Setting.{Setting}
use Rattle.unicast.specs.History.{downward, upward, Envelope, InFlight, envelope, left_at, Arrival, Lane, switching, number_down, lane_with, leaving, sending, arriving, lane_sent_down, lane_sent_up, lane_taken, lane_arrived_down, lane_arrived_up}
use Rattle.unicast.specs.Events.{Event, advance, send_down, send_up, arrive_down, arrive_up}
use Rattle.unicast.specs.Run.{State, lane_at, onu_at, envelope_down, envelope_up, receipt_down, receipt_up, step, run}
use Rattle.unicast.specs.Claim.{SentRight, is_sealed}
use Rattle.unicast.specs.Bounds.{longest}
use Rattle.unicast.proofs.SendChoices.{switches_listed}
use Rattle.progress.specs.Progress.{due_down, due_up, overdue, awaited_count, down_round, up_round}
use Rattle.progress.proofs.Going.{Here, here_after, alive, unit, advance_goes}
use Rattle.progress.proofs.Arriving.{envelope_arrival_goes, up_arrival_goes, send_down_goes, send_up_goes}
use Rattle.progress.proofs.Whole.{late_later, late_none, drop_all, Quiet, down_overdue, up_overdue, same_keeps}
use Rattle.progress.proofs.Rounds.{Goes, goes_nil, goes_cons, last_is, last_some}
use Rattle.progress.proofs.ClockRound.{step_as}

---- keys that are not too old

not_aged : (f : FirstSend) (now : ℕ) → (f.noted ≡ 1 → now < f.at + key_life) → aged f now ≡ false
unfolding aged
not_aged f now young = then_both_false _ _ (λ up. lt-leb (f.at + key_life) now (young (eqb-true f.noted 1 up)))

-- a send that switches is under a key that has had no send
young_down : (u : UnitRecord) (now : ℕ) → (switches u ≡ true) ⊎ (u.keys.first.noted ≡ 1 → now < u.keys.first.at + key_life)
    → choice_aged (unit_send_choice u) u.keys.first now ≡ false
unfolding unit_send_choice choice_aged pick
young_down u now young = by_switch (switches u) (eqb u.keys.active 0) young where
  by_switch : (t z : Bool) → (t ≡ true) ⊎ (u.keys.first.noted ≡ 1 → now < u.keys.first.at + key_life)
      → choice_aged (pick t (Next u.keys.offered) (pick z Clear (Current u.keys.active))) u.keys.first now ≡ false
  by_switch true z y = refl
  by_switch false true y = refl
  by_switch false false (inl e) = true_false (sym e)
  by_switch false false (inr y) = not_aged u.keys.first now y

young_up : (k : OnuKeys) (f : FirstSend) (now : ℕ) → (f.noted ≡ 1 → now < f.at + key_life) → choice_aged (onu_send_choice k) f now ≡ false
unfolding onu_send_choice choice_aged pick
young_up k f now young = by_clear (eqb k.active 0) where
  by_clear : (z : Bool) → choice_aged (pick z Clear (Current k.active)) f now ≡ false
  by_clear true = refl
  by_clear false = not_aged f now young

-- an empty envelope is empty as it was handed over
empty : (w : Setting) (l : Lane) (e : Envelope) → SentRight w l e → e.payload ≡ [] → length {A = ℕ} [] ≡ length e.octets
empty w l e r none = sym (ap length r.octets ∙ carried_length (is_sealed e) _ _ e.payload ∙ ap length none)

---- down

-- an envelope numbered n left and arrived
pub record Moved (n : ℕ) (l m : Lane) : Type 0 where
  pub sent : Envelope
  pub arrival : Arrival
  pub site : m.site ≡ l.site
  pub path : m.path ≡ l.path
  pub entry : m.entry ≡ l.entry
  pub switches : m.keys.switches ≡ n
  pub number : m.keys.number ≡ n
  pub answered : m.transit.answered ≡ l.transit.answered
  pub past : m.past.sent ≡ l.past.sent ++ (sent ∷ [])
  pub arrived : m.past.arrived ≡ l.past.arrived ++ (arrival ∷ [])
  pub direction : sent.direction ≡ downward
  pub is : arrival.envelope ≡ sent
  pub numbered : sent.number ≡ n

pub record DownDone (w : Setting) (u llid n : ℕ) (s : State) (es : List Event) (now : ℕ) : Type 0 where
  pub lane : Lane
  pub goes : Goes w u llid s es lane now
  pub moved : Moved n (lane_at s u) lane

pub record UpDone (w : Setting) (u llid : ℕ) (s : State) (es : List Event) (now : ℕ) : Type 0 where
  pub lane : Lane
  pub goes : Goes w u llid s es lane now
  pub sent : Envelope
  pub arrival : Arrival
  pub keys : lane.keys ≡ (lane_at s u).keys
  pub arrived : lane.past.arrived ≡ (lane_at s u).past.arrived ++ (arrival ∷ [])
  pub direction : sent.direction ≡ upward
  pub is : arrival.envelope ≡ sent
  pub numbered : sent.number ≡ (lane_at s u).keys.number

-- by then the travel is past the end of every sealed send
guard_passed : (o : Onu) (ahead up now last most : ℕ) → o.travel.bar ≤ o.travel.spent
    → (1 ≤ o.travel.spent → o.travel.spent + ahead ≤ last + most + longest + max_changes) → travel_of o + ahead ≡ now + up + max_changes
    → last + most + longest ≤ now + up → o.travel.bar ≤ travel_of o
guard_passed o ahead up now last most bar spent travel passed = by_spent (leb 1 o.travel.spent) refl where
  by_spent : (t : Bool) → leb 1 o.travel.spent ≡ t → o.travel.bar ≤ travel_of o
  by_spent true e = let was = spent (leb-true 1 o.travel.spent e) in omega (arith, was, bar, travel, passed)
  by_spent false e = omega (arith, bar, leb-false 1 o.travel.spent e)

module _ (w : Setting) (u llid : ℕ) (s : State) (h : Here w u llid s) (quiet : Quiet (lane_at s u) s.history.now) where
  abbrev l : Lane
  l = lane_at s u

  abbrev now : ℕ
  now = s.history.now

  pub down_round-holds : (n : ℕ) → (unit w u llid s h).clock.acknowledged ≡ 1 → free_from s.olt.shared.channels 0x00 ≤ now → number_down l now ≡ n
      → (switching l now ≡ true) ⊎ (now < l.keys.switched + key_life) → now + l.path.down ≤ max_tick
      → DownDone w u llid n s (down_round u llid s) (now + l.path.down)
  unfolding run down_round envelope_down lane_sent_down lane_with leaving sending arriving lane_taken lane_arrived_down receipt_down
  down_round-holds n set free number young most =
      let j = (alive w u llid s h).joined in
      let x = unit w u llid s h in
      let listed : switches x ≡ switching l now = switches_listed w s.olt.shared now l x (onu_at s u) j in
      let tick = h.invariant.shared.tick in
      let fresh : choice_aged (unit_send_choice x) x.keys.first s.olt.shared.tick ≡ false =
      young_down x s.olt.shared.tick
      (⊎_elim (λ y. inl (listed ∙ y)) (λ y. inr (λ one. let first = j.firsts.olt one in omega (arith, first, y, tick))) young) in
      let t1 = send_down_goes w u llid s h set free fresh in
      let e = envelope_down now l.path s.olt llid 0x00 [] [] (number_down l now) in
      let l1 = lane_sent_down now e l in
      let s1 = step s (send_down llid 0x00 [] []) in
      let h1 = here_after w u llid s (send_down llid 0x00 [] []) l1 now h t1 refl refl in
      let t2 = advance_goes w u llid s1 h1 l.path.down (omega (arith, most, t1.tick)) in
      let s2 = step s1 (advance l.path.down) in
      let lane2 : lane_at s2 u ≡ l1 = t2.lane ∙ t1.lane in
      let h2 = here_after w u llid s1 (advance l.path.down) (lane_at s1 u) (s1.history.now + l.path.down) h1 t2 refl refl in
      let tick2 : s2.history.now ≡ now + l.path.down = omega (arith, t2.tick, t1.tick) in
      let queue : (lane_at s2 u).transit.towards ≡ l.transit.towards ++ (envelope e ∷ []) = ap (λ (y : Lane). y.transit.towards) lane2 in
      let mine : Memᴰ e (lane_at s2 u).past.sent =
      subst (λ (y : Lane). Memᴰ e y.past.sent) (sym lane2) (mathlib.Core.List.Memᴰ.append_right l.past.sent (mathlib.Core.List.Memᴰ.head refl)) in
      let right = (alive w u llid s2 h2).joined.passing.sent e mine in
      let k = length l.transit.towards in
      let t3 = envelope_arrival_goes w u llid s2 h2 k e [] (last_some _ l.transit.towards (envelope e) queue)
      (last_is _ l.transit.towards (envelope e) _ queue) (omega (arith, tick2, ap (λ (y : Lane). y.path.down) lane2)) (empty w _ e right refl) in
      let f : InFlight → ℕ = λ y. left_at y + l.path.down in
      let g : Envelope → ℕ = λ y. y.left + l.path.up in
      let ts = l.transit.towards in
      let there = now + l.path.down in
      let queue1 : l1.transit.towards ≡ ts ++ (envelope e ∷ []) = refl in
      let down0 : overdue now (due_down l1) ≡ length ts = down_overdue l1 ts (envelope e) now queue1 quiet.down (omega arith) in
      let down1 : overdue there (due_down l1) ≡ length ts =
      down_overdue l1 ts (envelope e) there queue1 (late_later f now there ts (omega arith) quiet.down) (omega arith) in
      let up1 : overdue there (due_up l1) ≡ length l.transit.from = late_later g now there l.transit.from (omega arith) quiet.up in
      let keep2 : awaited_count (lane_at s1 u) (s1.history.now + l.path.down) ≡ awaited_count (lane_at s1 u) s1.history.now =
      rw (t1.lane, t1.tick) (same_keeps l1 now there (down1 ∙ sym down0) (up1 ∙ sym quiet.up)) in
      let keep3 : k ≡ overdue s2.history.now (due_down (lane_at s2 u)) = rw (lane2, tick2) (sym down1) in
      let r = receipt_down s2 u e [] in
      let l3 = lane_arrived_down r (lane_taken k l1) in
      let after3 = step_as w u s2 (arrive_down u k []) _ l3 _ (now + l.path.down) t3 (rw lane2) tick2 in
      let h3 = here_after w u llid s2 (arrive_down u k []) l3 (now + l.path.down) h2 after3 (rw lane2) (rw lane2) in
      record {
        lane = l3;
        goes =
            goes_cons w u llid s _ _ l1 l3 now _ t1 tt
            (goes_cons w u llid s1 _ _ (lane_at s1 u) l3 (s1.history.now + l.path.down) _ t2 keep2
            (goes_cons w u llid s2 _ _ l3 l3 (now + l.path.down) _ after3 (λ e. keep3)
            (goes_nil w u llid _ l3 (now + l.path.down) h3 after3.lane after3.tick
            (record { down = late_none f there (drop (suc k) (ts ++ (envelope e ∷ []))) (drop_all ts (envelope e)); up = up1 }))));
        moved =
            record {
              sent = e;
              arrival = r;
              site = refl;
              path = refl;
              entry = refl;
              switches = number;
              number = number;
              answered = refl;
              past = refl;
              arrived = refl;
              direction = refl;
              is = refl;
              numbered = number;
            };
      }

  ---- up

  -- an envelope of the unit's number left and arrived, its channel free, its guard passed and its key not too old
  pub up_round-holds : (onu_at s u).clock.synced ≡ 1 → (last most : ℕ)
      → ((e : Envelope) → Memᴰ e l.past.sent → e.direction ≡ upward → (e.left ≤ last) × (e.up ≤ most))
      → last + longest ≤ now → last + most + longest ≤ now + l.path.up
      → ((onu_at s u).first.noted ≡ 1 → travel_of (onu_at s u) < (onu_at s u).first.at + key_life) → now + l.path.up ≤ max_tick
      → UpDone w u llid s (up_round u llid s) (now + l.path.up)
  unfolding run up_round envelope_up lane_sent_up lane_with sending arriving lane_arrived_up receipt_up
  up_round-holds synced last most each free passed young bound =
      let a = alive w u llid s h in
      let j = a.joined in
      let o = onu_at s u in
      let freed = j.freed.free last 0x80 (λ e m q. (each e m q).0) in
      let bar : o.travel.bar ≤ travel_of o = guard_passed o l.site.up l.path.up now last most j.freed.bar (j.freed.spent last most each)
      a.common.travel passed in
      let t1 = send_up_goes w u llid s h synced (omega (arith, freed, free)) bar (young_up o.keys o.first (travel_of o) young) in
      let e = envelope_up now l.path o llid 0x80 [] [] l.keys.number in
      let l1 = lane_sent_up e l in
      let s1 = step s (send_up u llid 0x80 [] []) in
      let h1 = here_after w u llid s (send_up u llid 0x80 [] []) l1 now h t1 refl refl in
      let t2 = advance_goes w u llid s1 h1 l.path.up (omega (arith, bound, t1.tick)) in
      let s2 = step s1 (advance l.path.up) in
      let lane2 : lane_at s2 u ≡ l1 = t2.lane ∙ t1.lane in
      let h2 = here_after w u llid s1 (advance l.path.up) (lane_at s1 u) (s1.history.now + l.path.up) h1 t2 refl refl in
      let tick2 : s2.history.now ≡ now + l.path.up = omega (arith, t2.tick, t1.tick) in
      let queue : (lane_at s2 u).transit.from ≡ l.transit.from ++ (e ∷ []) = ap (λ (y : Lane). y.transit.from) lane2 in
      let mine : Memᴰ e (lane_at s2 u).past.sent =
      subst (λ (y : Lane). Memᴰ e y.past.sent) (sym lane2) (mathlib.Core.List.Memᴰ.append_right l.past.sent (mathlib.Core.List.Memᴰ.head refl)) in
      let right = (alive w u llid s2 h2).joined.passing.sent e mine in
      let k = length l.transit.from in
      let t3 = up_arrival_goes w u llid s2 h2 k e [] (last_some _ l.transit.from e queue)
      (last_is _ l.transit.from e _ queue) (omega (arith, tick2, ap (λ (y : Lane). y.path.up) lane2)) (empty w _ e right refl) in
      let f : InFlight → ℕ = λ y. left_at y + l.path.down in
      let g : Envelope → ℕ = λ y. y.left + l.path.up in
      let ts = l.transit.from in
      let there = now + l.path.up in
      let queue1 : l1.transit.from ≡ ts ++ (e ∷ []) = refl in
      let up0 : overdue now (due_up l1) ≡ length ts = up_overdue l1 ts e now queue1 quiet.up (omega arith) in
      let up1 : overdue there (due_up l1) ≡ length ts = up_overdue l1 ts e there queue1 (late_later g now there ts (omega arith) quiet.up) (omega arith) in
      let down1 : overdue there (due_down l1) ≡ length l.transit.towards = late_later f now there l.transit.towards (omega arith) quiet.down in
      let keep2 : awaited_count (lane_at s1 u) (s1.history.now + l.path.up) ≡ awaited_count (lane_at s1 u) s1.history.now =
      rw (t1.lane, t1.tick) (same_keeps l1 now there (down1 ∙ sym quiet.down) (up1 ∙ sym up0)) in
      let keep3 : k ≡ overdue s2.history.now (due_up (lane_at s2 u)) = rw (lane2, tick2) (sym up1) in
      let r = receipt_up s2 e [] in
      let l3 = lane_arrived_up k r l1 in
      let after3 = step_as w u s2 (arrive_up u k []) _ l3 _ (now + l.path.up) t3 (rw lane2) tick2 in
      let h3 = here_after w u llid s2 (arrive_up u k []) l3 (now + l.path.up) h2 after3 (rw lane2) (rw lane2) in
      record {
        lane = l3;
        goes =
            goes_cons w u llid s _ _ l1 l3 now _ t1 tt
            (goes_cons w u llid s1 _ _ (lane_at s1 u) l3 (s1.history.now + l.path.up) _ t2 keep2
            (goes_cons w u llid s2 _ _ l3 l3 (now + l.path.up) _ after3 (λ e. keep3)
            (goes_nil w u llid _ l3 (now + l.path.up) h3 after3.lane after3.tick
            (record { down = down1; up = late_none g there (drop (suc k) (ts ++ (e ∷ []))) (drop_all ts e) }))));
        sent = e;
        arrival = r;
        keys = refl;
        arrived = refl;
        direction = refl;
        is = refl;
        numbered = refl;
      }
