-- The walk of an advance along the groups. Assumes nothing.
use Rattle.std.specs.Prelude.{Ok, Err}
use mathlib.Core.Path.{◌≡◌, refl}
use mathlib.Core.Bool.{Bool, true, false}
use mathlib.Core.List.{List, map, ◌++◌}
use Prim.Native.Nat.{ℕ, ◌+◌, ◌≤◌, ◌<◌}
use native.Mathlib.Numerals.{add-one}
use native.Mathlib.Omega.{arith}
use lib.ListN.{length, take, drop, get_or, set}
use lib.Dec.{eqb}
use borrow.Author.Tests.{eqb-true, leb-true, not-false}
use Rattle.octets.specs.Choice.{both, either}
use Rattle.octets.proofs.Choice.{both_left, both_right, true_false}
use Rattle.octets.proofs.Maps.{first_at, first_more}
use Rattle.octets.proofs.Tests.{all_one, all_weaker}
use Rattle.octets.specs.Lists.{all}
use Rattle.refusal.specs.Number.{verdict_number}
use Rattle.refusal.specs.Order.{and_then, refuse_if}
use Rattle.refusal.proofs.Numbers.{number_accepted}
use Rattle.refusal.proofs.Order.{refuse_accepted, refused_accepts}
use Rattle.clock.specs.Ticks.{max_tick}
use Rattle.ends.specs.Limits.{max_units}
use Rattle.ends.specs.Records.{with_timer}
use Rattle.ends.specs.Timers.{timer_advanced, valid_timer}
use Rattle.ends.specs.declared.Timer.{Timer}
use Rattle.ends.specs.Validity.{valid_keys, valid_olt}
use Rattle.protocol.specs.OltCalls.{olt_advanced}
use Rattle.protocol.specs.Replies.{advance_verdict, on_valid, reply, silent}
use Rattle.protocol.proofs.Replies.{advance_accepted}
use Rattle.unit.specs.Reached.{if_accepted}
use Rattle.olt.specs.Moves.{move_order}
use Rattle.olt.specs.declared.OltMoved.{OltMoved}
use Rattle.group_protocol.specs.GroupCalls.{group_advanced}
use Rattle.group_protocol.specs.Head.{past_group, places_taken, registered_groups, valid_group, valid_groups, valid_head, with_group_keys}
use Rattle.group_protocol.specs.declared.GroupRecord.{GroupRecord}
use Rattle.group_protocol.specs.declared.HeadEnd.{HeadEnd}
use Rattle.headend.specs.HeadCalls.{groups_advanced, head_advanced, head_advance_of, head_answer, olt_moved_of}
use Rattle.headend.proofs.NoGroups.{no_groups_invalid}
use Rattle.refusal.specs.Verdict.{Verdict, no_refusal}

-- the first i groups are moved
abbrev pub groups_moved_to : ℕ → ℕ → List GroupRecord → List GroupRecord
groups_moved_to n i t = map (group_advanced n) (take i t) ++ drop i t

-- one group more is moved
pub group_moves_on : (t r : List GroupRecord) (n i : ℕ) (x : Timer) → r ≡ groups_moved_to n i t → i < length t
    → x ≡ timer_advanced (get_or r i past_group).keys.timer n
    → set r i (with_group_keys (get_or r i past_group) (with_timer (get_or r i past_group).keys x)) ≡ groups_moved_to n (i + 1) t
unfolding group_advanced
group_moves_on t r n i x e h f =
    rw (f, e, first_at (group_advanced n) i t past_group, add-one) (first_more (group_advanced n) i t past_group h)

-- the timer of a group that is not moved yet is a valid one
pub group_timer_valid : (t r : List GroupRecord) (n i end : ℕ) → r ≡ groups_moved_to n i t → i < end → i < length t
    → all (λ g. valid_timer g.keys.timer) (take end t) ≡ true → valid_timer (get_or r i past_group).keys.timer ≡ true
group_timer_valid t r n i end e h k v =
    rw (e, first_at (group_advanced n) i t past_group) (all_one (λ g. valid_timer g.keys.timer) end t past_group v i h k)

---- the whole head end

-- the verdict on an advance
abbrev pub head_order : HeadEnd → ℕ → Verdict
head_order h n = on_valid (valid_head h) (advance_verdict h.olt.shared.tick n)

-- 1 for the groups goes ahead of 17; in a valid OLT no group at all is groups that are valid
sound_order : (z t v : Bool) (a : Verdict) → (z ≡ true → t ≡ false → v ≡ false)
    → on_valid v (and_then (on_valid (either z t) no_refusal) a) ≡ on_valid (both v t) a
unfolding either both refuse_if and_then
sound_order false true true a k = refl
sound_order false true false a k = refl
sound_order false false true a k = refl
sound_order false false false a k = refl
sound_order true true true a k = refl
sound_order true true false a k = refl
sound_order true false true a k = true_false (k refl refl)
sound_order true false false a k = refl

pub move_order-holds : (h : HeadEnd) (n : ℕ)
    → move_order h.olt (on_valid (either (eqb h.groups.count 0) (valid_groups h)) no_refusal) n ≡ head_order h n
unfolding valid_head
move_order-holds h n =
    sound_order (eqb h.groups.count 0) (valid_groups h) (valid_olt h.olt) (advance_verdict h.olt.shared.tick n)
    (λ z e. no_groups_invalid h (eqb-true _ _ z) e)

-- what an accepted advance has met
pub record Advances (h : HeadEnd) (n : ℕ) : Type 0 where
  pub few : h.groups.count ≤ max_units
  pub ticks : n ≤ max_tick
  pub timers : all (λ g. valid_timer g.keys.timer) (registered_groups h) ≡ true

pub advances : (h : HeadEnd) (n : ℕ) → head_order h n ≡ no_refusal → Advances h n
unfolding valid_head valid_groups valid_group valid_keys
advances h n e =
    let met = refuse_accepted _ _ _ e in
    let valid = both_right _ _ (not-false _ met.0) in
    let room = leb-true (places_taken h) max_units (both_left _ _ valid) in
    record {
      few = omega arith;
      ticks = omega (arith, advance_accepted h.olt.shared.tick n met.1);
      timers =
          all_weaker (valid_group h.olt.shared.tick h.olt.count) (λ g. valid_timer g.keys.timer)
          (λ g k. both_left _ _ (both_left _ _ (both_right _ _ k))) (registered_groups h) (both_left _ _ (both_right _ _ valid));
    }

-- the OLT that it leaves, by its verdict
pub olt_moved : (h : HeadEnd) (n : ℕ) (v : Verdict) → v ≡ head_order h n
    → ◌≡◌ {A = OltMoved} (record { olt = if_accepted v (olt_advanced h.olt n) h.olt; number = verdict_number v }) (olt_moved_of h n)
unfolding head_advance_of head_answer head_advanced reply if_accepted
olt_moved h n v e = rw (← e) (by_verdict-holds v) where
  by_verdict-holds : (w : Verdict) → let r = head_answer (reply w h silent (head_advanced h n) silent) in
      ◌≡◌ {A = OltMoved} (record { olt = if_accepted w (olt_advanced h.olt n) h.olt; number = verdict_number w })
      (record { olt = r.head.olt; number = r.number })
  by_verdict-holds (Ok tt) = refl
  by_verdict-holds (Err x) = refl

-- the groups that it leaves, accepted
pub groups_go : (h : HeadEnd) (n : ℕ) → (head_advance_of h n).number ≡ 0
    → ((head_advance_of h n).head.groups ≡ groups_advanced h.groups n) × Advances h n
unfolding head_advance_of head_answer head_advanced reply
groups_go h n = by_verdict-holds (head_order h n) refl where
  by_verdict-holds : (v : Verdict) → head_order h n ≡ v → let r = head_answer (reply v h silent (head_advanced h n) silent) in
      r.number ≡ 0 → (r.head.groups ≡ groups_advanced h.groups n) × Advances h n
  by_verdict-holds (Ok tt) e z = (refl, advances h n e)
  by_verdict-holds (Err x) e z = refused_accepts x (number_accepted (Err x) z)
