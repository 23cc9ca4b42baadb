-- `headend::at_head::register` meets its contract: the verdict decides, and a fresh unit takes the next place. Assumes nothing.
use Prim.Native.Nat.{◌<◌}
use mathlib.Core.Path.{◌≡◌, refl, sym, ap, ◌∙◌}
use borrow.Author.Rules.{rules}
use Rattle.octets.specs.Choice.{both}
use Rattle.refusal.proofs.Numbers.{number_accepted}
use Rattle.ends.specs.Limits.{max_units}
use Rattle.ends.specs.Table.{with_one_more}
use Rattle.protocol.specs.Replies.{on_valid}
use Rattle.olt.proofs.Verdicts.{register_room}
use Rattle.group_protocol.specs.Head.{valid_head, with_olt}
use Rattle.headend.specs.HeadCalls.{head_done, unit_verdict}
use Rattle.headend.proofs.Registrations.{registered_by, unit_accepted}
use Rattle.headend.proofs.at_head.register.Goals as goal
use Rattle.headend.proofs.at_head.register.Goals.{then-number-eq0, else-number-eq0}

-- an accepted one has a place left
room : (c : goal.After-fresh_unit-unit) → c.args.head.olt.count < max_units
unfolding valid_head both
room c =
    let a = c.args in
    let judged : c.unit_verdict-verdict.result ≡ on_valid (valid_head a.head) (unit_verdict a.head a.identity a.trip a.interval) =
    rw (c.valid_olt-valid.ensures, c.valid_groups-sound.ensures) at c.unit_verdict-verdict.ensures in
    register_room a.head.olt a.identity a.trip a.interval (unit_accepted a.head a.identity a.trip a.interval
    (number_accepted _ (rw judged at (sym c.verdict_number-number.ensures) ∙ c.if-number-eq0.true)))

pub bounds-olt-n : goal.bounds-olt-n
bounds-olt-n c = search (rules, room c)

pub overflow_add-olt : goal.overflow_add-olt
overflow_add-olt c = search (rules, room c)

pub returns : goal.returns
unfolding with_one_more with_olt valid_head both
returns c =
    let a = c.args in
    let judged : c.unit_verdict-verdict.result ≡ on_valid (valid_head a.head) (unit_verdict a.head a.identity a.trip a.interval) =
    rw (c.valid_olt-valid.ensures, c.valid_groups-sound.ensures) at c.unit_verdict-verdict.ensures in
    let e = rw judged at c.verdict_number-number.ensures in
    let by = registered_by a.head a.identity a.trip a.interval _ c.if-number-eq0.olt refl in
    rw e
    (ap head_done
    (sym (elim c.if-number-eq0.branch [
      | then-number-eq0 w ↦ by (λ z. rw w.fresh_unit-unit.ensures at w.olt-is) (λ f. absurd (f (sym e ∙ w.if-number-eq0.true)))
      | else-number-eq0 w ↦ by (λ z. absurd (w.if-number-eq0.false (e ∙ z))) (λ f. w.olt-is)
    ])))
