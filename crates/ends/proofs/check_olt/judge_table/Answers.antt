-- `ends::check_olt::judge_table` meets its contract: the first i units are valid, their n LLIDs stand in the list, none twice, and are marked,
-- and `found` is the first of them that has the LLID. Assumes nothing.
use Rattle.std.specs.Prelude.{ℕ, Option}
use Rattle.std.proofs.Common.{◌≡◌, ◌+◌, ◌<◌, true, false, ◌++◌, length, get_or, take, drop, sym, refl, ap, ◌∙◌, append_assoc, append-nil, arith, rules, get_or-take}
use Rattle.octets.proofs.Choice.{both_true, both_false_left, both_false_right}
use Rattle.octets.proofs.Steps.{all_hit, all_miss, all_end, first_end}
use Rattle.ends.specs.Limits.{max_units}
use Rattle.ends.specs.Identities.{distinct, llids_of}
use Rattle.ends.specs.Table.{found_or, past_unit, table_llids}
use Rattle.ends.specs.Validity.{judged, judged_table, valid_unit}
use Rattle.ends.proofs.Identities.{distinct_no}
use Rattle.ends.proofs.Marks.{marked_none}
use Rattle.ends.proofs.Validity.{judged_no, judged_yes}
use Rattle.ends.proofs.Walks.{find_none, find_step, found_or_nowhere, llids_step, llids_end, unit_few}
use Rattle.ends.proofs.check_olt.judge_table.Goals as goal

pub loop-i-init : goal.loop-i-init
unfolding distinct
loop-i-init c = (omega arith, refl, refl, refl, refl, marked_none, refl)

pub returns-then-not-valid_unit : goal.returns-then-not-valid_unit
unfolding past_unit judged_table
returns-then-not-valid_unit c =
    let a = c.args in
    let here = c.loop-i in
    let len : length a.olt.units ≡ max_units = search rules in
    let low : here.i < a.count = omega arith in
    let unit = get_or-take a.count a.olt.units here.i past_unit low in
    c.invalid.ensures
    ∙ sym (judged_no _ _ (both_false_left _
    (here.invariant.2
    ∙ all_miss (valid_unit a.olt.shared.tick) a.count a.olt.units here.i past_unit low (omega arith)
    (rw unit at (sym c.valid_unit.ensures ∙ c.if-not-valid_unit.true)))))

pub added-requires-clause-count_le_max_llids : goal.added-requires-clause-count_le_max_llids
unfolding past_unit
added-requires-clause-count_le_max_llids c = unit_few _ _ (sym c.valid_unit.ensures ∙ c.if-not-valid_unit.false)

pub returns-then-not-added : goal.returns-then-not-added
unfolding past_unit judged_table
returns-then-not-added c =
    let a = c.args in
    let here = c.loop-i in
    let len : length a.olt.units ≡ max_units = search rules in
    let low : here.i < a.count = omega arith in
    let unit = get_or-take a.count a.olt.units here.i past_unit low in
    let u = get_or a.olt.units here.i past_unit in
    let twice : distinct (take here.n here.list ++ llids_of u.identity) ≡ false =
    rw unit at (sym c.added.ensures.value ∙ c.if-not-added.true) in
    let all_of : (take here.n here.list ++ llids_of u.identity) ++ table_llids (drop (here.i + 1) (take a.count a.olt.units))
    ≡ table_llids (take a.count a.olt.units) =
    rw append_assoc (rw (llids_step a.count a.olt.units here.i past_unit low (omega arith)) at here.invariant.3) in
    c.invalid-then-not-added.ensures ∙ sym (judged_no _ _ (both_false_right _ (sym (ap distinct all_of) ∙ distinct_no _ _ twice)))

pub loop-i-preserved : goal.loop-i-preserved
unfolding past_unit
loop-i-preserved c =
    let a = c.args in
    let here = c.loop-i in
    let v = here.invariant in
    let call = c.added in
    let valid = sym c.valid_unit.ensures ∙ c.if-not-valid_unit.false in
    let few = unit_few _ _ valid in
    let added : call.result ≡ true = c.if-not-added.false in
    let len : length a.olt.units ≡ max_units = search rules in
    let low : here.i < a.count = omega arith in
    let unit = get_or-take a.count a.olt.units here.i past_unit low in (
      omega (arith, few, v.0),
      c.added.auto.list ∙ v.1,
      v.2 ∙ all_hit (valid_unit a.olt.shared.tick) a.count a.olt.units here.i past_unit low (omega arith) (rw unit at valid),
      rw (call.ensures.list_after added, append_assoc, unit, sym (llids_step a.count a.olt.units here.i past_unit low (omega arith))) v.3,
      ap distinct (call.ensures.list_after added) ∙ sym call.ensures.value ∙ added,
      call.ensures.marked_2 added,
      rw (c.first_found-found.ensures, unit)
          (v.6 ∙ find_step a.count a.olt.units here.i past_unit a.llid here.found low (omega arith)),
    )

pub returns : goal.returns
unfolding judged_table
returns c =
    let a = c.args in
    let here = c.loop-i in
    let len : length a.olt.units ≡ max_units = search rules in
    let all_of : take here.n here.list ≡ table_llids (take a.count a.olt.units) =
    rw (llids_end a.count a.olt.units here.i (omega arith), append-nil) at here.invariant.3 in
    let units = here.invariant.2 ∙ all_end (valid_unit a.olt.shared.tick) a.count a.olt.units here.i (omega arith) in
    let none = find_none here.i (drop here.i (take a.count a.olt.units)) a.llid (first_end a.count a.olt.units here.i (omega arith)) in
    c.valid_with.ensures
    ∙ sym (judged_yes _ _ (both_true units (rw all_of at here.invariant.4))
    ∙ ap (judged true) (here.invariant.6 ∙ ap (λ (f : Option ℕ). found_or here.found f) none ∙ found_or_nowhere here.found))
