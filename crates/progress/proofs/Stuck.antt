-- What is stuck and what is not, by computing; and the theorems on these lists, and on the example's cut short. Assumes nothing.
use mathlib.Core.Path.{◌≡◌, refl, sym, subst}
use mathlib.Core.Bool.{true, false}
use mathlib.Core.List.Memᴰ
use mathlib.Core.List.{List}
use mathlib.Core.Logic.{inl}
use Prim.Native.Nat.{ℕ, ◌+◌, ◌<◌}
use lib.ListN.{length}
use borrow.Author.Tests.{leb-true, ltb-true}
use Rattle.clock.specs.Ticks.{key_life}
use Rattle.unicast.specs.Setting.{Setting}
use Rattle.unicast.specs.History.{Envelope, InFlight, left_at}
use Rattle.unicast.specs.Events.{Event}
use Rattle.unicast.specs.Run.{start, run, lane_at}
use Rattle.unicast.specs.Example.{example, key_from}
use Rattle.unicast.specs.Course.{after}
use Rattle.unicast.specs.Premises.{Fresh, Meets}
use Rattle.unicast.specs.Bounds.{highest}
use Rattle.unicast.proofs.Tested.{tested, new_key-holds, fresh_true, meets_true}
use Rattle.unicast.proofs.Example.{listed, example_fresh}
use Rattle.progress.specs.Progress.{overdue, confirmed_by, most_up, least_up, spread, awaited_count, Moving}
use Rattle.progress.specs.Stuck.{one_unit, its, to_switch, lost_switch, lost_answer, unanswered, late_answer, both_arrived, reached, cut_short, Answer, GoesOn, Cases}
use Rattle.progress.specs.Frozen.{Frozen}
use Rattle.progress.proofs.Progress.{progress}
use Rattle.progress.proofs.FrozenSteps.{for_good-holds}

switch_lost-holds : Answer lost_switch 13 6 8 0
unfolding listed tested to_switch lost_switch
switch_lost-holds = record { meets = meets_true one_unit (start one_unit) lost_switch refl; down = refl; offers = refl; retries = refl; up = refl }

answer_lost-holds : Answer lost_answer 13 6 8 13
unfolding listed tested to_switch lost_answer
answer_lost-holds = record { meets = meets_true one_unit (start one_unit) lost_answer refl; down = refl; offers = refl; retries = refl; up = refl }

unsent : Answer unanswered 13 6 8 0
unfolding listed tested to_switch unanswered
unsent = record { meets = meets_true one_unit (start one_unit) unanswered refl; down = refl; offers = refl; retries = refl; up = refl }

old : Answer both_arrived 13 0 8 13
unfolding listed tested to_switch both_arrived
old = record { meets = meets_true one_unit (start one_unit) both_arrived refl; down = refl; offers = refl; retries = refl; up = refl }

sent : Answer late_answer 13 0 8 12
unfolding listed tested to_switch unanswered late_answer
sent = record { meets = meets_true one_unit (start one_unit) late_answer refl; down = refl; offers = refl; retries = refl; up = refl }

---- frozen for good

one_fresh : Fresh one_unit
unfolding listed tested
one_fresh = fresh_true one_unit refl

switch_frozen : Frozen false (reached lost_switch) 0 its
unfolding listed to_switch lost_switch highest
switch_frozen =
    record {
      registered = refl;
      named = refl;
      unconfirmed = refl;
      begun = refl;
      old = leb-true _ _ refl;
      lost = λ e i n. absurd (Memᴰ.not-nil i);
      unit =
          record {
            behind = ltb-true _ _ refl;
            lost = λ e i n. subst (λ (x : InFlight). left_at x + 0 < key_life + 1) (sym (Memᴰ.eq_of_singleton i)) (ltb-true _ _ refl);
          };
    }

answer_frozen : Frozen true (reached lost_answer) 0 its
unfolding listed to_switch lost_answer highest
answer_frozen =
    record {
      registered = refl;
      named = refl;
      unconfirmed = refl;
      begun = refl;
      old = leb-true _ _ refl;
      lost = λ e i n. subst (λ (x : Envelope). x.left + 0 < key_life + 1) (sym (Memᴰ.eq_of_singleton i)) (ltb-true _ _ refl);
      unit = record { told = refl; begun = refl; old = leb-true _ _ refl };
    }

---- what goes on

old_moving : Moving (reached both_arrived) 0 its (key_from 32)
unfolding listed tested to_switch both_arrived highest most_up least_up spread
old_moving =
    record {
      registered = refl;
      named = refl;
      below = ltb-true _ _ refl;
      recent = inl refl;
      in_range = leb-true _ _ refl;
      new = new_key-holds (reached both_arrived) (key_from 32) refl;
    }

old_next : confirmed_by (lane_at (reached both_arrived) 0) + 1 ≡ 2
unfolding listed to_switch both_arrived highest
old_next = refl

sent_moving : Moving (reached late_answer) 0 its (key_from 32)
unfolding listed tested to_switch unanswered late_answer highest most_up least_up spread
sent_moving =
    record {
      registered = refl;
      named = refl;
      below = ltb-true _ _ refl;
      recent = inl refl;
      in_range = leb-true _ _ refl;
      new = new_key-holds (reached late_answer) (key_from 32) refl;
    }

sent_next : confirmed_by (lane_at (reached late_answer) 0) + 1 ≡ 2
unfolding listed to_switch unanswered late_answer highest
sent_next = refl

cut_meets : Meets example (start example) cut_short
unfolding listed tested cut_short
cut_meets = meets_true example (start example) cut_short refl

cut_moving : Moving (after cut_short) 0 5 (key_from 32)
unfolding listed tested cut_short highest most_up least_up spread
cut_moving =
    record {
      registered = refl;
      named = refl;
      below = ltb-true _ _ refl;
      recent = inl refl;
      in_range = leb-true _ _ refl;
      new = new_key-holds (after cut_short) (key_from 32) refl;
    }

cut_next : confirmed_by (lane_at (after cut_short) 0) + 1 ≡ 1
unfolding listed cut_short highest
cut_next = refl

cut_offered : length (lane_at (after cut_short) 0).keys.offers ≡ 1
unfolding listed cut_short
cut_offered = refl

cut_under_way : awaited_count (lane_at (after cut_short) 0) (after cut_short).history.now ≡ 1
unfolding listed cut_short overdue
cut_under_way = refl

-- the theorem, with the number of the next key
goes_on : (w : Setting) (es : List Event) (u llid n : ℕ) → Fresh w → Meets w (start w) es → Moving (run (start w) es) u llid (key_from 32)
    → confirmed_by (lane_at (run (start w) es) u) + 1 ≡ n → GoesOn w (run (start w) es) u llid n
goes_on w es u llid n fresh meets moving next =
    let s = run (start w) es in
    subst (λ (k : ℕ). GoesOn w s u llid k) next (progress w es u llid (key_from 32) fresh meets moving)

pub cases : Cases
unfolding to_switch lost_switch lost_answer
cases =
    record {
      switch_lost = switch_lost-holds;
      in_events = refl;
      answer_lost = answer_lost-holds;
      and_two_more = refl;
      switch_for_good = λ later m. (for_good-holds false one_unit lost_switch later 0 its one_fresh switch_lost-holds.meets switch_frozen m).1;
      answer_for_good = λ later m. (for_good-holds true one_unit lost_answer later 0 its one_fresh answer_lost-holds.meets answer_frozen m).1;
      for_good = for_good-holds;
      unsent = unsent;
      sent = sent;
      sent_goes_on = goes_on one_unit late_answer 0 its 2 one_fresh sent.meets sent_moving sent_next;
      old = old;
      old_goes_on = goes_on one_unit both_arrived 0 its 2 one_fresh old.meets old_moving old_next;
      offered = cut_offered;
      under_way = cut_under_way;
      cut = goes_on example cut_short 0 5 1 example_fresh cut_meets cut_moving cut_next;
    }
