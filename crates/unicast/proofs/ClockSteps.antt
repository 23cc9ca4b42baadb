-- Captures, clock messages and their arrival keep what holds of a registered unit. Assumes nothing.
use mathlib.Core.Path.{◌≡◌, refl, ◌∙◌, ap}
use mathlib.Core.Bool.{true}
use Prim.Native.Nat.{ℕ, ◌+◌, ◌-◌, ◌%◌, ◌<◌, ◌≤◌}
use native.Mathlib.Nat.{mod-mod, mod-lt}
use native.Mathlib.Omega.{arith}
use lib.ListN.{length, get_or}
use borrow.Author.Tests.{lt-ltb}
use Rattle.octets.proofs.Choice.{both_true, not_of_true}
use Rattle.refusal.specs.declared.Refusal.TheVariants.{OutOfRange}
use Rattle.clock.specs.Ticks.{ticks_per_second, clock_turn, local_of}
use Rattle.clock.specs.Stamping.{captured_at, raised_to}
use Rattle.clock.specs.Aligned.{Aligned}
use Rattle.clock.specs.declared.Stamps.{Stamps}
use Rattle.clock.proofs.Ticks.{rewound_at, advanced_below, advanced_mod}
use Rattle.clock.proofs.Aligned.{raise_aligns}
use Rattle.protocol.specs.Lift.{outcome}
use Rattle.octets.proofs.Members.{each_more, mem_at}
use Rattle.protocol.specs.Messages.{clock_kind, no_acknowledgement, of_clock}
use Rattle.ends.specs.Records.{with_clock, with_onu_clock}
use Rattle.ends.specs.Travels.{travel_of}
use Rattle.ends.specs.Validity.{valid_onu}
use Rattle.protocol.specs.UnitCalls.{clock_captured, capture_unit, clock_after_send, clock_message_of, clock_send_unit}
use Rattle.protocol.specs.OnuCalls.{onu_acknowledged, clock_message_verdict, clock_from, onu_synced, clock_message_to, clock_message_at}
use Rattle.ends.specs.declared.Onu.{Onu}
use Rattle.protocol.specs.declared.OnuAcknowledged.{OnuAcknowledged}
use Rattle.ends.specs.declared.OnuClock.{OnuClock}
use Rattle.ends.specs.declared.Shared.{Shared}
use Rattle.ends.specs.declared.UnitRecord.{UnitRecord}
use Rattle.ends.specs.declared.UnitClock.{UnitClock}
use Rattle.refusal.proofs.Order.{refuse_passed}
use Rattle.protocol.proofs.UnitCalls.{clock_send_accepted}
use Rattle.protocol.proofs.OnuCalls.{onu_accepts, onu_keeps, onu_synced_valid}
use Rattle.unicast.specs.Setting.{Delays, Setting}
use Rattle.unicast.specs.History.{InFlight, clock_message, Answered, Lane, lane_with, lane_captured, lane_leaving, lane_taken, lane_answered}
use Rattle.unicast.proofs.Cases.{same_or_not}
use Rattle.unicast.proofs.Invariant.{Clocks, ClockRight, Asked, Joined, Common, AtTick}
use Rattle.unicast.proofs.Queues.{towards_clock, towards_taken}
use Rattle.unicast.proofs.Past.{moved_keeps}
use Rattle.unicast.proofs.Frames.{answers_clock, leaving_keeps, taken_keeps}
use Rattle.refusal.specs.Verdict.{no_refusal}

---- capture

pub capture_keeps : (w : Setting) (sh : Shared) (now : ℕ) (l : Lane) (u : UnitRecord) (o : Onu) → AtTick w now sh → Joined w sh now l u o
    → Joined w sh now (lane_captured now l) (capture_unit sh u).unit o
unfolding capture_unit outcome clock_captured lane_captured with_clock
capture_keeps w sh now l u o t j = let moved = moved_keeps w sh now l (lane_captured now l) u o j (search) refl in search (t.tick, arith)

---- clock send

pub clock_send_keeps : (w : Setting) (sh : Shared) (now : ℕ) (l : Lane) (u : UnitRecord) (o : Onu) → AtTick w now sh → Joined w sh now l u o
    → (clock_send_unit sh u).verdict ≡ no_refusal
    → Joined w sh now (lane_leaving (clock_message (clock_send_unit sh u).handed l.captured now) l) (clock_send_unit sh u).unit o
unfolding clock_send_unit outcome clock_after_send clock_message_of with_clock
clock_send_keeps w sh now l u o t j a =
    let met = clock_send_accepted u.clock sh.tick a in
    let at = j.clocks.capture met.captured in
    -- the stamps are those of the capture's tick
    let right : ClockRight w.first l.path (clock_message_of sh u.clock) l.captured now =
    record {
      stamps = rw (t.clock, t.tick, at.0, rewound_at w.first now l.captured at.1, j.clocks.trip);
      before = at.1;
      young = omega (arith, t.tick, at.0, met.soon);
    } in
    let asked : Asked now 1 l.transit =
    record { under = λ x i m c left e. refl; answered = λ x i. (λ e. refl, (j.asked.answered x i).1) } in
    let sent : Joined w sh now l (with_clock u (clock_after_send u.clock)) o = search in
    leaving_keeps w sh now l (with_clock u (clock_after_send u.clock)) o (clock_message (clock_message_of sh u.clock) l.captured now)
    (λ e q. let z : ◌≡◌ {A = ℕ} 0 1 = cc in omega arith) (λ m c left e. refl) refl sent
    (towards_clock w.first l.path l o.keys.active u.keys.active u.keys.offered l.transit.towards
    (clock_message_of sh u.clock) l.captured now
    j.numbers.mid right j.towards)

---- a clock message arrives

-- a capture of a reduced clock is the capture of the clock
captured_mod : (clock trip : ℕ) → captured_at (clock % clock_turn) trip ≡ captured_at clock trip
unfolding captured_at
captured_mod clock trip = rw (mod-mod clock clock_turn, advanced_mod clock trip)

-- LocalTime, the low half of Tx once synced, is right
pub local_time : (first now : ℕ) (s : Delays) (captured : ℕ) (c : UnitClock) (o : OnuClock) → Clocks first now s captured c o
    → local_of o.time ≡ local_of (first + now + s.up)
local_time first now s captured c o k =
    same_or_not o.synced 1 (λ e. omega (arith, (k.synced e).tx))
    (λ n. let z : o.synced ≡ 0 = omega (arith, k.flag) in omega (arith, k.unsynced z))

-- the clocks that the unit takes are aligned
taken_aligned : (first now : ℕ) (s : Delays) (captured : ℕ) (c : UnitClock) (o : OnuClock) (m : Stamps) (at left : ℕ)
    → Clocks first now s captured c o → ClockRight first s m at left → left + s.down ≡ now
    → Aligned (first + now) s.up s.down (raised_to (local_of o.time) m)
taken_aligned first now s captured c o m at left k r e =
    let lag : left - at ≤ ticks_per_second = omega (arith, r.young) in
    let clock : first + at + (left - at) + s.down ≡ first + now = omega (arith, r.before) in
    let stamps : m ≡ captured_at (first + at) (s.up + s.down) = r.stamps ∙ captured_mod (first + at) (s.up + s.down) in
    rw (local_time first now s captured c o k, stamps)
    (rw clock at (raise_aligns (first + at) (left - at) s.up s.down (s.up + s.down) lag refl))

-- the stamps of a capture are in range, so the unit takes the message
pub clock_message_taken : (first : ℕ) (s : Delays) (o : Onu) (m : Stamps) (at left : ℕ) → valid_onu o ≡ true → ClockRight first s m at left
    → clock_message_at o m ≡ record { number = 0; onu = onu_synced o m; acknowledgement = of_clock }
unfolding clock_message_at clock_message_to onu_acknowledged clock_message_verdict captured_at
clock_message_taken first s o m at left v r =
    let clock = (first + at) % clock_turn in
    let trip = s.up + s.down in
    let rx : m.rx < clock_turn = rw r.stamps (mod-lt clock (omega arith)) in
    let tx : m.tx < clock_turn = rw r.stamps (advanced_below clock trip) in
    ap onu_acknowledged
    (onu_accepts o no_acknowledgement (clock_message_verdict m) (onu_synced o m) of_clock v
    (refuse_passed _ OutOfRange no_refusal (not_of_true (both_true (lt-ltb m.rx clock_turn rx) (lt-ltb m.tx clock_turn tx)))))

module _ (w : Setting) (sh : Shared) (now : ℕ) (l : Lane) (u : UnitRecord) (o : Onu) (j : Joined w sh now l u o) (k : ℕ) (x : InFlight) (m : Stamps)
    (c t : ℕ) (h : k < length l.transit.towards) (e : get_or l.transit.towards k x ≡ clock_message m c t) (due : t + l.path.down ≡ now) where
  -- what is under way is right
  under_way-holds : ClockRight w.first l.path m c t
  under_way-holds =
      (towards_taken w.first l.path l o.keys.active u.keys.active u.keys.offered l.transit.towards k x (clock_message m c t) h e
      j.towards).0

  -- the kth of what is under way is a clock message: the unit is synced, and answers
  clock_taken : Joined w sh now (lane_answered of_clock now (lane_taken k l)) u (onu_synced o m)
  unfolding onu_synced clock_from lane_taken lane_answered lane_with with_onu_clock
  clock_taken =
      let taken = taken_keeps w sh now l u o k j in
      let moved = moved_keeps w sh now (lane_taken k l) (lane_answered of_clock now (lane_taken k l)) u o taken (search) refl in
      let aligned = taken_aligned w.first now l.path l.captured u.clock o.clock m c t j.clocks under_way-holds due in
      let clocks : Clocks w.first now l.path l.captured u.clock (onu_synced o m).clock = search arith in
      let answers = answers_clock now o.keys o.clock (onu_synced o m).clock l.transit.answered refl j.answers in
      let answered =
      each_more (λ (y : Answered). (y.acknowledgement.kind ≡ clock_kind → u.clock.sent ≡ 1) × (y.tick ≤ now)) l.transit.answered
      (record { acknowledgement = of_clock; tick = now }) j.asked.answered
      (λ kind. j.asked.under (get_or l.transit.towards k x) (mem_at l.transit.towards k x h) m c t e, omega arith) in
      search

  -- a message that arrives: in fact it is never refused
  pub clock_arrives : Common w now l o
      → ((clock_message_at o m).number ≡ 0
      → Joined w sh now (lane_answered (clock_message_at o m).acknowledgement now (lane_taken k l)) u (clock_message_at o m).onu)
      × (((clock_message_at o m).number ≡ 0 → ⊥) → ((clock_message_at o m).onu ≡ o) × Joined w sh now (lane_taken k l) u o)
  clock_arrives common =
      let taken = clock_message_taken w.first l.path o m c t common.valid under_way-holds in
      (λ z. rw taken clock_taken, λ n. absurd (n (ap (λ (r : OnuAcknowledged). r.number) taken)))

---- the unit itself

pub common_clock_keeps : (w : Setting) (now : ℕ) (l : Lane) (o : Onu) (m : Stamps) → Common w now l o
    → Common w now l (clock_message_at o m).onu
unfolding clock_message_at clock_message_to onu_acknowledged onu_synced with_onu_clock travel_of
common_clock_keeps w now l o m c =
    onu_keeps (λ (p : Onu). Common w now l p) o no_acknowledgement (clock_message_verdict m) (onu_synced o m) of_clock c (λ v a. search onu_synced_valid)
