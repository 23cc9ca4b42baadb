-- An advance of all ends keeps what holds of the OLT and of each unit, registered or not. Assumes nothing.
use mathlib.Core.Path.{◌≡◌, refl, sym, ◌∙◌, ap}
use mathlib.Core.Logic.{◌⊎◌, inl, inr, ⊎_elim}
use mathlib.Core.Bool.{Bool, true, false}
use mathlib.Core.List.{List, Memᴰ, map}
use Prim.Native.Nat.{ℕ, ◌+◌, ◌-◌, ◌*◌, ◌/◌, ◌%◌, ◌<◌, ◌≤◌}
use native.Mathlib.Nat.{add_assoc, mod-add-mod, div-add-mod', div-mul-le_self, mul-add-div_right, div-eq_of_lt, le-div_iff_mul-le}
use native.Mathlib.Omega.{arith}
use lib.Dec.{leb, ltb}
use lib.ListN.{length, get_or, length-map}
use borrow.Author.Tests.{leb-true, leb-false, lt-ltb, eqb-true, eqb-false, ne_eqb}
use Rattle.octets.specs.Choice.{pick}
use Rattle.octets.proofs.Choice.{pick_holds}
use Rattle.octets.proofs.Maps.{length_first, get_d_first, map_at}
use Rattle.clock.specs.Ticks.{max_tick, local_turn, local_advanced}
use Rattle.clock.specs.Stamping.{moved_by}
use Rattle.clock.proofs.Aligned.{aligned_moved}
use Rattle.ends.specs.Flags.{is_up}
use Rattle.protocol.specs.Replies.{Silence, silent, Reply, advance_verdict}
use Rattle.ends.specs.Identities.{no_identity}
use Rattle.ends.specs.Limits.{max_changes}
use Rattle.ends.specs.Records.{with_keys, with_timer, new_onu}
use Rattle.ends.specs.Timers.{timer_advanced}
use Rattle.ends.specs.Travels.{travel_of}
use Rattle.protocol.specs.UnitCalls.{unit_advanced}
use Rattle.ends.specs.Table.{past_unit, unit_at}
use Rattle.ends.specs.Validity.{valid_onu}
use Rattle.protocol.specs.OltCalls.{olt_answer, shared_advanced, olt_advanced, advance_olt_of}
use Rattle.protocol.specs.OnuCalls.{onu_answer, onu_clock_advanced, onu_advanced, advancing_onu, advance_onu_of}
use Rattle.ends.specs.declared.Olt.{Olt}
use Rattle.ends.specs.declared.Onu.{Onu}
use Rattle.ends.specs.declared.OnuClock.{OnuClock}
use Rattle.ends.specs.declared.OnuKeys.{OnuKeys}
use Rattle.ends.specs.declared.Shared.{Shared}
use Rattle.ends.specs.declared.Timer.{Timer}
use Rattle.ends.specs.declared.UnitRecord.{UnitRecord}
use Rattle.ends.specs.declared.UnitClock.{UnitClock}
use Rattle.refusal.proofs.Numbers.{number_accepted}
use Rattle.protocol.proofs.Replies.{advance_accepted, advance_accepts}
use Rattle.ends.proofs.Validity.{olt_in_range}
use Rattle.protocol.proofs.OltCalls.{advance_olt_refused}
use Rattle.protocol.proofs.OnuCalls.{onu_accepted, onu_accepts, advance_onu_refused}
use Rattle.protocol.proofs.OltAdvance.{olt_advanced_valid, advancing_accepted, advancing_accepts}
use Rattle.protocol.proofs.OnuAdvance.{onu_advanced_valid, travel_advanced}
use Rattle.unicast.specs.Setting.{Delays, Setting}
use Rattle.unicast.specs.History.{Envelope, Answered, Entry, Keys, Lane, due}
use Rattle.unicast.specs.Events.{advance}
use Rattle.unicast.specs.Run.{State, lane_at, onu_at, advancing, step}
use Rattle.unicast.proofs.Cases.{below_or_not}
use Rattle.unicast.proofs.Invariant.{flag_of, Timing, Clocks, Answers, Idle, Joined, Common, Standing, LaneRight, AtTick, Invariant}
use Rattle.unicast.proofs.Pace.{order_later, asked_later}

---- the timer

-- what is left over of the first part decides whether the sum reaches one more
quotient_sum : (i x n : ℕ) → 0 < i → (x + n) / i ≡ x / i + (x % i + n) / i
quotient_sum i x n some =
    ap (λ (y : ℕ). (y + n) / i) (sym (div-add-mod' x i))
    ∙ ap (λ (y : ℕ). y / i) (add_assoc (x / i * i) (x % i) n)
    ∙ mul-add-div_right some (x / i) (x % i + n)

-- s multiples were reached at the last switch, x ticks have passed since the registration, and n more pass
flag_advanced : (i s x n : ℕ) → 0 < i → s ≤ x / i → pick (leb i (x % i + n)) 1 (flag_of (ltb s (x / i))) ≡ flag_of (ltb s ((x + n) / i))
flag_advanced i s x n some h =
    let sum = quotient_sum i x n some in
    pick_holds (λ (y : ℕ). y ≡ flag_of (ltb s ((x + n) / i))) (leb i (x % i + n)) 1 (flag_of (ltb s (x / i)))
    (λ e.
    let more : 1 ≤ (x % i + n) / i = (le-div_iff_mul-le some).1 (omega (arith, leb-true i (x % i + n) e)) in
    ap flag_of (sym (lt-ltb s ((x + n) / i) (omega (arith, sum)))))
    (λ e.
    let none : (x % i + n) / i ≡ 0 = div-eq_of_lt (leb-false i (x % i + n) e) in
    let same : (x + n) / i ≡ x / i = omega (arith, sum) in
    ap (λ (y : ℕ). flag_of (ltb s y)) (sym same))

pub timing_advanced : (r : Entry) (k : Keys) (now n : ℕ) (t : Timer) → Timing r k now t → Timing r k (now + n) (timer_advanced t n)
unfolding timer_advanced due
timing_advanced r k now n t g =
    let some : 0 < r.interval = omega arith in
    let x : now + n - r.since ≡ now - r.since + n = omega arith in
    let s = (k.switched - r.since) / r.interval in
    let before : s ≤ (now - r.since) / r.interval =
    (le-div_iff_mul-le some).1 (omega (arith, div-mul-le_self (k.switched - r.since) r.interval)) in
    record {
      interval = g.interval;
      some = g.some;
      since = g.since;
      switched = omega arith;
      count = rw (g.interval, g.count, x) (mod-add-mod (now - r.since) r.interval n);
      flag = rw (g.interval, g.count, g.flag, x) (flag_advanced r.interval s (now - r.since) n some before);
    }

---- a unit's clocks

pub synced_advanced : (c : OnuClock) (n : ℕ) → (onu_clock_advanced c n).synced ≡ c.synced
unfolding onu_clock_advanced
synced_advanced c n = pick_holds (λ (x : OnuClock). x.synced ≡ c.synced) (is_up c.synced) _ _ (λ e. refl) (λ e. refl)

clocks_advanced : (first now n : ℕ) (s : Delays) (captured : ℕ) (c : UnitClock) (o : OnuClock) → Clocks first now s captured c o
    → Clocks first (now + n) s captured c (onu_clock_advanced o n)
unfolding onu_clock_advanced moved_by
clocks_advanced first now n s captured c o k =
    let capture : c.captured ≡ 1 → (c.tick ≡ captured) × (captured ≤ now + n) = λ e. let p = k.capture e in (p.0, omega (arith, p.1)) in
    pick_holds (Clocks first (now + n) s captured c) (is_up o.synced) _ _
    (λ e.
    record {
      trip = k.trip;
      capture = capture;
      flag = k.flag;
      unsynced = λ z. absurd (omega (arith, eqb-true o.synced 1 e));
      synced = λ z. rw (← add_assoc first now n) (aligned_moved (first + now) s.up s.down (record { rx = o.rx; tx = o.time }) n (k.synced z));
      acknowledged = k.acknowledged;
    })
    (λ e.
    record {
      trip = k.trip;
      capture = capture;
      flag = k.flag;
      unsynced = λ z. omega (arith, k.unsynced z);
      synced = λ z. absurd (eqb-false o.synced 1 e z);
      acknowledged = k.acknowledged;
    })

answers_advanced : (now n : ℕ) (k : OnuKeys) (o : OnuClock) (answered : List Answered) → Answers now k o answered
    → Answers (now + n) k (onu_clock_advanced o n) answered
answers_advanced now n k o answered a =
    record {
      each = λ x m. let p = a.each x m in (λ e. synced_advanced o n ∙ p.0 e, p.1);
      set = λ e. a.set (sym (synced_advanced o n) ∙ e);
    }

---- the OLT, and a unit

pub at_tick_advanced : (w : Setting) (now n : ℕ) (sh : Shared) → AtTick w now sh → AtTick w (now + n) (shared_advanced sh n)
unfolding shared_advanced
at_tick_advanced w now n sh t =
    record { mac = t.mac; tick = ap (λ (x : ℕ). x + n) t.tick; clock = omega (arith, t.clock); free = λ k. omega (arith, t.free k) }

pub advance_keeps : (w : Setting) (sh : Shared) (now n : ℕ) (l : Lane) (u : UnitRecord) (o : Onu) → Joined w sh now l u o
    → Joined w (shared_advanced sh n) (now + n) l (unit_advanced n u) (onu_advanced o n)
unfolding shared_advanced unit_advanced with_keys with_timer onu_advanced
advance_keeps w sh now n l u o j =
    let gone : (e : Envelope) → Memᴰ e l.past.sent → e.left ≤ now + n = λ e m. let was = j.gone e m in omega (arith, was) in
    search (asked_later, order_later, timing_advanced, clocks_advanced, answers_advanced, synced_advanced)

pub idle_advance_keeps : (now n : ℕ) (l : Lane) (o : Onu) → Idle now l o → Idle (now + n) l (onu_advanced o n)
unfolding onu_advanced onu_clock_advanced pick
idle_advance_keeps now n l o i =
    let later : local_advanced o.clock.time n ≡ (l.site.time + (now + n)) % local_turn = omega (arith, i.time) in
    let time : (onu_clock_advanced o.clock n).time ≡ (l.site.time + (now + n)) % local_turn = rw i.unsynced later in
    search (synced_advanced o.clock n ∙ i.unsynced)

---- the calls

pub common_advance_keeps : (w : Setting) (now n : ℕ) (l : Lane) (o : Onu) → now + n ≤ max_tick → Common w now l o
    → Common w (now + n) l (onu_advanced o n)
unfolding onu_advanced
common_advance_keeps w now n l o h c =
    let moved = travel_advanced o n in
    let valid = onu_advanced_valid o n (omega (arith, c.tick)) c.valid in
    let travel : travel_of (onu_advanced o n) + l.site.up ≡ now + n + l.path.up + max_changes = omega (arith, c.travel) in
    let begun : o.first.noted ≡ 1 → (o.first.at ≤ travel_of (onu_advanced o n)) ⊎ (o.first.at < o.travel.bar) =
    λ one. ⊎_elim (λ was. inl (omega (arith, was, moved))) (λ below. inr below) (c.first.begun one) in
    search (ap (λ (x : ℕ). x + n) c.tick)

-- as long as the tick is in range a valid ONU advances
pub onu_advances : (o : Onu) (n : ℕ) → valid_onu o ≡ true → o.tick + n ≤ max_tick → (advance_onu_of o n).onu ≡ onu_advanced o n
unfolding advance_onu_of advancing_onu onu_answer
onu_advances o n v h =
    ap (λ (r : Reply Onu Silence). r.end) (onu_accepts o silent (advance_verdict o.tick n) (onu_advanced o n) silent v (advance_accepts o.tick n h))

-- and past it, it stays
pub onu_stays : (o : Onu) (n : ℕ) → max_tick < o.tick + n → (advance_onu_of o n).onu ≡ o
unfolding advance_onu_of advancing_onu onu_answer
onu_stays o n h =
    advance_onu_refused o n
    (λ e. omega (arith, advance_accepted o.tick n (onu_accepted o silent (advance_verdict o.tick n) (onu_advanced o n) silent (number_accepted _ e)).1))

-- the unit at a place in use
pub advanced_unit : (t : Olt) (n i : ℕ) → i < t.count → i < length t.units → unit_at (olt_advanced t n) i ≡ unit_advanced n (unit_at t i)
unfolding olt_advanced
advanced_unit t n i h k = get_d_first (unit_advanced n) t.count t.units i past_unit h k

standing_advanced : (b : Bool) (w : Setting) (t : Olt) (now n : ℕ) (l : Lane) (o : Onu) → t.count ≤ length t.units → Standing b w t now l o
    → Standing b w (olt_advanced t n) (now + n) l (onu_advanced o n)
unfolding olt_advanced
standing_advanced false w t now n l o h s = idle_advance_keeps now n l o s
standing_advanced true w t now n l o h s =
    let place = l.entry.place in (
      s.0,
      rw (advanced_unit t n place s.0 (omega (arith, s.0))) (advance_keeps w t.shared now n l (unit_at t place) o s.1),
    )

-- registered or not
pub lane_advanced : (w : Setting) (t : Olt) (now n : ℕ) (l : Lane) (o : Onu) → t.count ≤ length t.units → now + n ≤ max_tick
    → LaneRight w t now l o → LaneRight w (olt_advanced t n) (now + n) l (advance_onu_of o n).onu
lane_advanced w t now n l o k h r =
    let c = r.common in
    rw (onu_advances o n c.valid (omega (arith, c.tick)))
    (record { common = common_advance_keeps w now n l o h c; standing = standing_advanced l.entry.registered w t now n l o k r.standing })

---- the whole

-- the OLT is valid and in range: it advances, and so do all
advanced_right : (w : Setting) (s : State) (n : ℕ) → s.olt.shared.tick + n ≤ max_tick → Invariant w s → Invariant w (advancing s n)
unfolding advancing olt_advanced advance_olt_of olt_answer pick
advanced_right w s n h i =
    let made = advancing_accepts s.olt n i.valid h in
    let later : s.history.now + n ≤ max_tick = omega (arith, h, i.shared.tick) in
    let room : s.olt.count ≤ length s.olt.units = omega (arith, (olt_in_range s.olt i.valid).count, i.places) in
    let moved : Onu → Onu = λ o. (advance_onu_of o n).onu in
    rw made
    (record {
      valid = olt_advanced_valid s.olt n h i.valid;
      places = length_first (unit_advanced n) s.olt.count s.olt.units ∙ i.places;
      count = i.count;
      shared = at_tick_advanced w s.history.now n s.olt.shared i.shared;
      paired = length-map s.onus moved ∙ i.paired;
      lane = λ u k.
          rw (map_at moved s.onus u (new_onu no_identity 0 0) (new_onu no_identity 0 0) (omega (arith, k, i.paired)))
          (lane_advanced w s.olt s.history.now n (lane_at s u) (onu_at s u) room later (i.lane u k));
      apart = i.apart;
      keys = i.keys;
    })

-- out of range: all stay
stayed_right : (w : Setting) (s : State) (n : ℕ) → max_tick < s.olt.shared.tick + n → Invariant w s → Invariant w (advancing s n)
unfolding advancing pick advance_olt_of olt_answer
stayed_right w s n h i =
    let refused : (advance_olt_of s.olt n).number ≡ 0 → ⊥ =
    λ e. omega (arith, (advancing_accepted s.olt n (number_accepted _ e)).1) in
    let moved : Onu → Onu = λ o. (advance_onu_of o n).onu in
    let paired = length-map s.onus moved ∙ i.paired in
    let lane : (u : ℕ) → u < length s.history.lanes
    → LaneRight w s.olt s.history.now (lane_at s u) (get_or (map moved s.onus) u (new_onu no_identity 0 0)) =
    λ u k.
    rw (
      map_at moved s.onus u (new_onu no_identity 0 0) (new_onu no_identity 0 0) (omega (arith, k, i.paired)),
      onu_stays (onu_at s u) n (omega (arith, h, i.shared.tick, (i.lane u k).common.tick)),
    ) (i.lane u k) in
    rw (ne_eqb (advance_olt_of s.olt n).number 0 refused, advance_olt_refused s.olt n refused) (search)

pub advance_right : (w : Setting) (s : State) (n : ℕ) → Invariant w s → Invariant w (step s (advance n))
unfolding step
advance_right w s n i =
    below_or_not max_tick (s.olt.shared.tick + n) (λ above. stayed_right w s n above i) (λ within. advanced_right w s n within i)
