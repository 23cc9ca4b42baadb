-- `olt::moved` meets its contract: the verdict says whether anything moves. Assumes nothing.
use Rattle.std.proofs.Common.{rules, arith, ◌≡◌, length, sym, ◌∙◌}
use Rattle.ends.specs.Limits.{max_units}
use Rattle.olt.specs.Moves.{move_order}
use Rattle.olt.proofs.Advancing.{advance_met, advanced, few_move}
use Rattle.olt.proofs.moved.Goals as goal

pub shared_after-shared-requires : goal.shared_after-shared-requires
shared_after-shared-requires c =
    λ v.
    let a = c.args in
    let judged : c.move_verdict-verdict.result ≡ move_order a.olt a.ahead a.n =
    rw (c.move_verdict-verdict.ensures, c.valid_olt-valid.ensures) in
    (advance_met a.olt a.ahead a.n (sym judged ∙ v)).1

pub timers_moved-requires : goal.timers_moved-requires
timers_moved-requires c =
    let a = c.args in
    let judged : c.move_verdict-verdict.result ≡ move_order a.olt a.ahead a.n =
    rw (c.move_verdict-verdict.ensures, c.valid_olt-valid.ensures) in
    let len : length a.olt.units ≡ max_units = search rules in
    omega (arith, c.units_moved-end.ensures, few_move a.olt a.ahead a.n c.move_verdict-verdict.result judged)

pub returns : goal.returns
returns c =
    let a = c.args in
    let judged : c.move_verdict-verdict.result ≡ move_order a.olt a.ahead a.n =
    rw (c.move_verdict-verdict.ensures, c.valid_olt-valid.ensures) in
    rw (c.shared_after-shared.ensures, c.verdict_number-number.ensures)
    (advanced a.olt a.ahead a.n c.move_verdict-verdict.result c.timers_moved.new.units judged (rw c.units_moved-end.ensures at c.timers_moved.ensures))
