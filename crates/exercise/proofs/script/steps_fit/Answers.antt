-- `exercise::script::steps_fit` meets its contract: the test of each step is that of the definition. Assumes nothing.
use Rattle.std.proofs.Common.{◌∙◌, refl, rules}
use borrow.Author.Tests.{tests}
use Rattle.octets.proofs.Chains.{each_from_all}
use Rattle.exercise.specs.Script.{step_at, step_fits}
use Rattle.exercise.proofs.Scripts.{fits_each}
use Rattle.exercise.proofs.script.steps_fit.Goals as goal

pub returns : goal.returns
returns c =
    let s = c.args.s.now in
    each_from_all (λ j. step_fits (step_at s j)) c.args.steps _ _ _ refl c.all.ensures.ran (λ x b q k. search (rules, tests)) ∙ fits_each s 0 c.args.steps
