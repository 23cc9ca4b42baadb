-- A clock send after a capture gives the stamps of the capture's clock: advances move clock and tick together and leave the capture,
-- so that the clock taken back to the capture's tick is the clock of that tick. Assumes nothing.
use Rattle.std.specs.Prelude.{Option, Some}
use mathlib.Core.Path.{◌≡◌, refl, sym, ◌∙◌, ap, subst}
use mathlib.Core.List.{List, [], ◌∷◌}
use Prim.Native.Nat.{ℕ, ◌-◌, ◌≤◌, ◌<◌}
use native.Mathlib.Omega.{arith}
use Rattle.octets.proofs.Maps.{map_same, take_first}
use Rattle.refusal.specs.Number.{verdict_number}
use Rattle.clock.specs.Ticks.{clock_turn, advanced}
use Rattle.clock.specs.Stamping.{captured_at}
use Rattle.protocol.specs.Replies.{silent}
use Rattle.protocol.specs.Messages.{no_stamps}
use Rattle.ends.specs.Records.{with_keys, with_clock}
use Rattle.ends.specs.Table.{registered, find, unit_at, unit_found}
use Rattle.protocol.specs.Lift.{outcome}
use Rattle.protocol.specs.UnitCalls.{unit_advanced, clock_captured, capture_unit, clock_message_of, clock_send_unit}
use Rattle.protocol.specs.OltCalls.{olt_answer, clock_sent, shared_advanced, olt_advanced, advancing_olt, advance_olt_of, capture_order, capture_of, clock_send_of}
use Rattle.protocol.specs.ClockCaptures.{after_advances, Captures}
use Rattle.ends.specs.declared.UnitClock.{UnitClock}
use Rattle.ends.specs.declared.Olt.{Olt}
use Rattle.protocol.specs.declared.OltAnswer.{OltAnswer}
use Rattle.refusal.proofs.Numbers.{number_accepted}
use Rattle.protocol.proofs.Replies.{reply_keeps}
use Rattle.ends.proofs.Table.{identity_of, from_same, find_at}
use Rattle.ends.proofs.Validity.{olt_in_range, shared_in_range}
use Rattle.protocol.proofs.Lift.{lift_accepted, lift_beside, lift_find, lift_itself}
use Rattle.protocol.proofs.UnitCalls.{capture_keeps}
use Rattle.protocol.proofs.OltCalls.{capture_ordered}
use Rattle.protocol.proofs.OltAdvance.{unit_identity-holds, advanced_unit}
use Rattle.refusal.specs.Verdict.{no_refusal}

-- p follows o: the units stand where they stood, the unit at place i keeps the clock part c, and clock and tick moved together
record Follows (o : Olt) (i : ℕ) (c : UnitClock) (p : Olt) : Type 0 where
  same : (llid : ℕ) → find p llid ≡ find o llid
  unit : (unit_at p i).clock ≡ c
  later : o.shared.tick ≤ p.shared.tick
  clock : p.shared.clock ≡ advanced o.shared.clock (p.shared.tick - o.shared.tick)

find_advanced : (p : Olt) (n llid : ℕ) → find (olt_advanced p n) llid ≡ find p llid
unfolding find olt_advanced
find_advanced p n llid =
    from_same 0 (registered (olt_advanced p n)) (registered p) llid
    (rw (take_first (unit_advanced n) p.count p.units) (map_same (unit_advanced n) identity_of (unit_identity-holds n) (registered p)))

advanced_follows : (o : Olt) (i llid : ℕ) (c : UnitClock) (p : Olt) (n : ℕ) → find o llid ≡ Some i → Follows o i c p
    → Follows o i c (olt_advanced p n)
unfolding olt_advanced shared_advanced unit_advanced with_keys
advanced_follows o i llid c p n f h =
    record {
      same = λ any. find_advanced p n any ∙ h.same any;
      unit = ap (λ u. u.clock) (advanced_unit p n llid i (find_at p llid i (h.same llid ∙ f))) ∙ h.unit;
      later = omega (arith, h.later);
      clock = omega (arith, h.later, h.clock);
    }

advances_follow : (o : Olt) (i llid : ℕ) (c : UnitClock) (p : Olt) (ns : List ℕ) → find o llid ≡ Some i → Follows o i c p
    → Follows o i c (after_advances p ns)
unfolding after_advances advance_olt_of advancing_olt olt_answer
advances_follow o i llid c p [] f h = h
advances_follow o i llid c p (n ∷ ns) f h =
    advances_follow o i llid c (advance_olt_of p n).olt ns f
    (reply_keeps (Follows o i c) _ p silent (olt_advanced p n) silent h (λ a. advanced_follows o i llid c p n f h))

-- the stamps of a send that is accepted at p
send_stamps : (o : Olt) (i llid : ℕ) (c : UnitClock) (p : Olt) → o.shared.clock < clock_turn → c.tick ≡ o.shared.tick → find o llid ≡ Some i
    → Follows o i c p → (clock_send_of p llid).number ≡ 0 → (clock_send_of p llid).message ≡ captured_at o.shared.clock c.trip
unfolding clock_send_of clock_sent clock_send_unit clock_message_of outcome
send_stamps o i llid c p low t f h e =
    let l = lift_accepted p no_stamps no_refusal llid clock_send_unit (number_accepted _ e) in
    let met : Some l.at ≡ Some i = sym l.found ∙ h.same llid ∙ f in
    let here : l.at ≡ i = cc in
    let stamps : clock_message_of p.shared c ≡ captured_at o.shared.clock c.trip =
    ap (λ (k : ℕ). captured_at k c.trip) (omega (arith, h.later, h.clock)) in
    l.handed ∙ rw (here, h.unit) stamps

captured : (o : Olt) (llid : ℕ) → Captures o llid (capture_of o llid)
unfolding capture_of olt_answer capture_unit outcome with_clock clock_captured unit_found
captured o llid =
    record {
      stamps = λ z ns other f a.
          let l = lift_accepted o silent no_refusal llid capture_unit (number_accepted _ z) in
          let i = l.at in
          let c = clock_captured (unit_at o i).clock o.shared.tick in
          let low = (shared_in_range o.shared (olt_in_range o l.valid).shared).clock in
          let beside = lift_beside o silent no_refusal llid capture_unit in
          let first : Follows o i c (capture_of o llid).olt =
          record {
            same = lift_find o silent no_refusal llid capture_unit capture_keeps.identity;
            unit = ap (λ u. u.clock) (lift_itself o silent no_refusal llid capture_unit l);
            later = omega (arith, beside.tick);
            clock = omega (arith, beside.tick, beside.clock, low);
          } in
          let after = advances_follow o i llid c (capture_of o llid).olt ns l.found first in
          send_stamps o i other c _ low refl (f ∙ l.found) after a
          ∙ ap (λ (x : Option ℕ). captured_at o.shared.clock (unit_found o x).clock.trip) (sym l.found);
    }

-- all that is promised of an answer r as the definition has it
pub capture_answered : (o : Olt) (llid : ℕ) (r : OltAnswer) → r ≡ capture_of o llid
    → (r ≡ capture_of o llid) × ((r.number ≡ verdict_number (capture_order o llid)) × Captures o llid r)
capture_answered o llid r e = (e, ((capture_ordered o llid r e).1, subst (Captures o llid) (sym e) (captured o llid)))
