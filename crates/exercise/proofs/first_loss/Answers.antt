-- `exercise::first_loss` meets its contract: the verdict on the script, then the first step that matters. Assumes nothing.
use mathlib.Core.Path.{sym, ◌∙◌}
use Rattle.std.proofs.lemmas.Result.{err_from_is_err_and}
use Rattle.exercise.specs.Losses.{first_loss}
use Rattle.exercise.proofs.Losses.{meant}
use Rattle.exercise.proofs.Listed.{listed}
use Rattle.exercise.proofs.first_loss.Goals as goal

pub returns-in_err-verdict : goal.returns-in_err-verdict
unfolding first_loss
returns-in_err-verdict c =
    let p = err_from_is_err_and c.from_residual.result c.from_residual.ensures.1 in
    let e = sym c.verdict.ensures ∙ c.in_err-verdict.was in
    record { value = rw (p.1, p.2, e); meant = meant _; every_play_listed = listed _ }

pub returns : goal.returns
unfolding first_loss
returns c =
    let e = sym c.verdict.ensures ∙ c.in_ok-verdict.was in
    record { value = rw (c.first.ensures, e); meant = meant _; every_play_listed = listed _ }
