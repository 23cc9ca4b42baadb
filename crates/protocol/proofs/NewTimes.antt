-- Laws of a new LocalTime: the ONU stays valid, and the sum of the changes follows the delay that LocalTime follows. Assumes nothing.
use mathlib.Core.Path.{◌≡◌, refl, ◌∙◌, ap}
use mathlib.Core.Bool.{Bool, true, false}
use Prim.Native.Nat.{ℕ, ◌+◌, ◌-◌, ◌%◌, ◌≤◌, ◌<◌}
use native.Mathlib.Omega.{arith}
use lib.Dec.{leb, ltb}
use borrow.Author.Tests.{leb-true, leb-false, le-leb, lt-leb}
use Rattle.octets.proofs.Choice.{pick_true, pick_false}
use Rattle.clock.specs.Ticks.{local_turn, local_of, max_round_trip}
use Rattle.ends.specs.Limits.{max_time_change}
use Rattle.ends.specs.Records.{with_onu_clock, with_travel}
use Rattle.ends.specs.Travels.{word_turn, shift_of, valid_changes, travel_of, travel_changed}
use Rattle.ends.specs.Validity.{valid_onu}
use Rattle.ends.specs.declared.Onu.{Onu}
use Rattle.ends.proofs.Travels.{shift_in_range, shift_ahead, shift_back, shift_past}
use Rattle.ends.proofs.Validity.{onu_in_range, onu_valid}
use Rattle.protocol.specs.Replies.{silent}
use Rattle.protocol.specs.OnuCalls.{onu_answer, time_ahead, near_time, changes_after, onu_changes, new_time_verdict, onu_retimed, new_time_of}
use Rattle.protocol.proofs.Replies.{met, number_refused}
use Rattle.protocol.proofs.OnuCalls.{onu_untouched, onu_keeps, new_clock_valid}
use Rattle.refusal.specs.Verdict.{no_refusal}

---- what an accepted call has met

pub record NewTime (o : Onu) (time : ℕ) : Type 0 where
  pub low : ltb time local_turn ≡ true
  pub near : near_time time o.clock.time ≡ true
  pub changes : valid_changes (onu_changes o time) ≡ true

pub new_time_accepted : (o : Onu) (time : ℕ) → new_time_verdict o time ≡ no_refusal → NewTime o time
unfolding new_time_verdict
new_time_accepted o time e = search met

---- validity

pub retimed_valid : (o : Onu) (time : ℕ) → new_time_verdict o time ≡ no_refusal → valid_onu o ≡ true → valid_onu (onu_retimed o time) ≡ true
unfolding onu_retimed with_onu_clock with_travel travel_changed
retimed_valid o time e v =
    let r = onu_in_range o v in
    let n = new_time_accepted o time e in
    onu_valid (onu_retimed o time) (search new_clock_valid)

pub new_time_valid : (o : Onu) (time : ℕ) → valid_onu o ≡ true → valid_onu (new_time_of o time).onu ≡ true
unfolding new_time_of onu_answer
new_time_valid o time v = onu_keeps (λ (p : Onu). valid_onu p ≡ true) o silent _ _ silent v (λ w a. retimed_valid o time a w)

-- refused: the very ONU that was lent
pub new_time_refused : (o : Onu) (time : ℕ) → ((new_time_of o time).number ≡ 0 → ⊥) → (new_time_of o time).onu ≡ o
unfolding new_time_of onu_answer
new_time_refused o time n = (number_refused o silent _ (onu_untouched o silent _ _ silent) n).end

---- the sum of the changes

-- LocalTimes of one clock, by two delays: one is ahead of the other by the signed difference of their delays
pub time_ahead-holds : (clock before after new old : ℕ) → before ≤ max_round_trip → after ≤ max_round_trip
    → new % local_turn ≡ local_of (clock + after)
    → old % local_turn ≡ local_of (clock + before) → time_ahead new old ≡ (after + (local_turn - before)) % local_turn
unfolding time_ahead
time_ahead-holds clock before after new old b a e f = by_order (leb before after) refl where
  by_order : (t : Bool) → leb before after ≡ t → (new + (local_turn - old % local_turn)) % local_turn ≡ (after + (local_turn - before)) % local_turn
  by_order true h = let l = leb-true before after h in omega arith
  by_order false h = let l = leb-false before after h in omega arith

-- the sum moves by the signed change, as long as it stays in its range
module _ (changes new old : ℕ) (v : valid_changes changes ≡ true) (w : valid_changes (changes_after changes new old) ≡ true) where
  pub changes_ahead : time_ahead new old ≤ max_time_change → shift_of (changes_after changes new old) ≡ shift_of changes + time_ahead new old
  unfolding changes_after
  changes_ahead h =
      ap shift_of (pick_true _ _ (le-leb _ _ h)) ∙ shift_ahead changes (time_ahead new old) (omega (arith, shift_in_range changes v))

  pub changes_back : max_time_change < time_ahead new old → time_ahead old new ≤ max_time_change
      → shift_of (changes_after changes new old) + time_ahead old new ≡ shift_of changes
  unfolding changes_after
  changes_back h l = by_reach (leb (time_ahead old new) (shift_of changes)) refl where
    back : shift_of (changes_after changes new old) ≡ shift_of ((changes + (word_turn - time_ahead old new)) % word_turn)
    back = ap shift_of (pick_false _ _ (lt-leb _ _ h))

    by_reach : (t : Bool) → leb (time_ahead old new) (shift_of changes) ≡ t
        → shift_of (changes_after changes new old) + time_ahead old new ≡ shift_of changes
    by_reach true e = ap (λ (x : ℕ). x + time_ahead old new) back ∙ shift_back changes (time_ahead old new) (leb-true _ _ e)
    by_reach false e =
        absurd
        (omega (arith, back, shift_past changes (time_ahead old new) (leb-false _ _ e) (omega arith), shift_in_range (changes_after changes new old) w))

-- with the delay that LocalTime follows, the sum makes the same: what travel gains is what the delay gains
pub changes_follow : (clock before after changes new old : ℕ) → before ≤ max_round_trip → after ≤ max_round_trip
    → new % local_turn ≡ local_of (clock + after)
    → old % local_turn ≡ local_of (clock + before) → valid_changes changes ≡ true → valid_changes (changes_after changes new old) ≡ true
    → shift_of (changes_after changes new old) + before ≡ shift_of changes + after
changes_follow clock before after changes new old b a e f v w = by_order (leb before after) refl where
  ahead : time_ahead new old ≡ (after + (local_turn - before)) % local_turn
  ahead = time_ahead-holds clock before after new old b a e f

  behind : time_ahead old new ≡ (before + (local_turn - after)) % local_turn
  behind = time_ahead-holds clock after before old new a b f e

  by_order : (t : Bool) → leb before after ≡ t → shift_of (changes_after changes new old) + before ≡ shift_of changes + after
  by_order true h =
      let l = leb-true before after h in
      omega (arith, l, ahead, changes_ahead changes new old v w (omega (arith, ahead, l)))
  by_order false h =
      let l = leb-false before after h in
      omega (arith, l, behind, changes_back changes new old v w (omega (arith, ahead, l)) (omega (arith, behind, l)))

pub travel_retimed : (o : Onu) (clock before after time : ℕ) → before ≤ max_round_trip → after ≤ max_round_trip
    → time % local_turn ≡ local_of (clock + after)
    → o.clock.time % local_turn ≡ local_of (clock + before) → valid_onu o ≡ true → new_time_verdict o time ≡ no_refusal
    → travel_of (onu_retimed o time) + before ≡ travel_of o + after
unfolding travel_of onu_retimed with_onu_clock with_travel travel_changed
travel_retimed o clock before after time b a e f v n =
    omega (
      arith,
      changes_follow clock before after o.travel.changes time o.clock.time b a e f (onu_in_range o v).changes
          (new_time_accepted o time n).changes,
    )
