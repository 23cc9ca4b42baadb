-- The walk of an advance along the table. Assumes nothing.
use Rattle.std.specs.Prelude.{Ok, Err}
use mathlib.Core.Path.{◌≡◌, refl, sym}
use mathlib.Core.Bool.{true}
use mathlib.Core.List.{List, map, ◌++◌}
use Prim.Native.Nat.{ℕ, ◌+◌, ◌<◌, ◌≤◌}
use native.Mathlib.Numerals.{add-one}
use native.Mathlib.Omega.{arith}
use lib.ListN.{length, take, drop, get_or, set}
use borrow.Author.Tests.{ltb-false, not-false}
use Rattle.octets.proofs.Maps.{first_at, first_more}
use Rattle.octets.specs.Lists.{all}
use Rattle.octets.proofs.Tests.{all_at, all_weaker}
use Rattle.refusal.specs.Number.{verdict_number}
use Rattle.refusal.specs.Order.{and_then}
use Rattle.refusal.proofs.Order.{refuse_accepted, then_accepted}
use Rattle.clock.specs.Ticks.{max_tick}
use Rattle.ends.specs.Limits.{max_units}
use Rattle.protocol.specs.OltCalls.{advance_olt_of, advance_order, advancing_olt, olt_advanced, olt_answer, shared_advanced}
use Rattle.protocol.specs.Replies.{silent, reply, advance_verdict}
use Rattle.ends.specs.Table.{past_unit}
use Rattle.ends.specs.Records.{with_keys, with_timer}
use Rattle.ends.specs.Timers.{timer_advanced, valid_timer}
use Rattle.protocol.specs.UnitCalls.{unit_advanced}
use Rattle.ends.specs.Validity.{valid_olt, valid_unit}
use Rattle.ends.specs.declared.Timer.{Timer}
use Rattle.ends.specs.declared.UnitRecord.{UnitRecord}
use Rattle.ends.specs.declared.Olt.{Olt}
use Rattle.ends.proofs.Validity.{olt_in_range, unit_in_range}
use Rattle.unit.specs.Reached.{if_accepted}
use Rattle.olt.specs.Moves.{moved_of, move_order}
use Rattle.refusal.specs.Verdict.{Verdict, no_refusal}

-- the first i units are moved
abbrev pub moved_to : ℕ → ℕ → List UnitRecord → List UnitRecord
moved_to n i l = map (unit_advanced n) (take i l) ++ drop i l

-- what an accepted advance has met
pub advance_met : (o : Olt) (ahead : Verdict) (n : ℕ) → move_order o ahead n ≡ no_refusal → (valid_olt o ≡ true) × (o.shared.tick + n ≤ max_tick)
unfolding advance_verdict
advance_met o ahead n e =
    let a = refuse_accepted _ _ _ e in
    (not-false _ a.0, ltb-false _ _ (refuse_accepted _ _ _ (then_accepted _ _ a.1).1).0)

-- the timer of a unit that is not moved yet is as it was
pub timer_valid : (l r : List UnitRecord) (n i : ℕ) → r ≡ moved_to n i l → all (λ (u : UnitRecord). valid_timer u.keys.timer) l ≡ true
    → i < length l
    → valid_timer (get_or r i past_unit).keys.timer ≡ true
timer_valid l r n i e v h = rw (e, first_at) (all_at (λ (u : UnitRecord). valid_timer u.keys.timer) l i past_unit v h)

-- one unit more is moved
pub moves_on : (l r : List UnitRecord) (n i : ℕ) (t : Timer) → r ≡ moved_to n i l → i < length l
    → t ≡ timer_advanced (get_or r i past_unit).keys.timer n
    → set r i (with_keys (get_or r i past_unit) (with_timer (get_or r i past_unit).keys t)) ≡ moved_to n (i + 1) l
unfolding unit_advanced
moves_on l r n i t e h f = rw (f, e, first_at, add-one) (first_more (unit_advanced n) i l past_unit h)

-- no more units move than the table has, and only where the advance is accepted
pub few_move : (o : Olt) (ahead : Verdict) (n : ℕ) (v : Verdict) → v ≡ move_order o ahead n → if_accepted v o.count 0 ≤ max_units
unfolding if_accepted
few_move o ahead n (Ok tt) e = (olt_in_range o (advance_met o ahead n (sym e)).0).count
few_move o ahead n (Err r) e = omega arith

-- what an advance leaves, by its verdict: all the units in use are moved, or none
pub advanced : (o : Olt) (ahead : Verdict) (n : ℕ) (v : Verdict) (units : List UnitRecord) → v ≡ move_order o ahead n
    → (all (λ (u : UnitRecord). valid_timer u.keys.timer) (take (if_accepted v o.count 0) o.units) ≡ true
    → (0 < if_accepted v o.count 0 → n ≤ max_tick)
    → units ≡ map (unit_advanced n) (take (if_accepted v o.count 0) o.units) ++ drop (if_accepted v o.count 0) o.units)
    → record {
      olt = record { shared = if_accepted v (shared_advanced o.shared n) o.shared; count = o.count; units = units };
      number = verdict_number v;
    }
    ≡ moved_of o ahead n
unfolding moved_of olt_advanced if_accepted all
advanced o ahead n (Err r) units e h = rw (sym e, h refl (λ z. absurd (omega arith)))
advanced o ahead n (Ok tt) units e h =
    let met = advance_met o ahead n (sym e) in
    let valid = all_weaker (valid_unit o.shared.tick) (λ (u : UnitRecord). valid_timer u.keys.timer) (λ u v. (unit_in_range _ u v).timer)
    (take o.count o.units) (olt_in_range o met.0).units in
    rw (sym e, h valid (λ z. omega (arith, met.1)))

-- with nothing ahead it is the OLT's advance
pub moved_alone : (o : Olt) (n : ℕ) → record { number = (moved_of o no_refusal n).number; olt = (moved_of o no_refusal n).olt } ≡ advance_olt_of o n
unfolding moved_of advance_olt_of advancing_olt olt_answer reply if_accepted and_then
moved_alone o n = by_verdict-holds (advance_order o n) where
  by_verdict-holds : (w : Verdict) → record { number = verdict_number w; olt = if_accepted w (olt_advanced o n) o }
      ≡ olt_answer (reply w o silent (olt_advanced o n) silent)
  by_verdict-holds (Ok tt) = refl
  by_verdict-holds (Err x) = refl
