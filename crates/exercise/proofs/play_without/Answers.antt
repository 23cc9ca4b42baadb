-- `exercise::play_without` meets its contract. The loop's invariant: what is left of the script, played on, comes to the whole play. Assumes nothing.
use mathlib.Core.Path.{sym, ap, ◌∙◌}
use native.Mathlib.Omega.{arith}
use Rattle.exercise.specs.Play.{played, figures_of}
use Rattle.exercise.proofs.Scripts.{sizes, played_on, played_end}
use Rattle.exercise.proofs.play_without.Goals as goal

pub steps_in-steps-requires : goal.steps_in-steps-requires
steps_in-steps-requires c = (sizes _ c.requires).interval

pub interval-requires : goal.interval-requires
interval-requires c = (sizes _ c.requires).interval

pub step_at-requires : goal.step_at-requires
step_at-requires c =
    let z = sizes _ c.requires in
    (omega (arith, z.few, c.steps_in-steps.ensures), omega (arith, z.whole, c.steps_in-steps.ensures))

pub step-requires : goal.step-requires
step-requires c = omega (arith, (sizes _ c.requires).few, c.steps_in-steps.ensures)

pub loop-i-preserved : goal.loop-i-preserved
loop-i-preserved c =
    c.loop-i.invariant ∙ played_on _ _ _ _ _ _ _ c.loop-i-test.true c.step_at.ensures c.step.ensures

pub returns : goal.returns
unfolding played
returns c =
    rw (c.figures.ensures, ← c.steps_in-steps.ensures, ← c.interval.ensures, ← c.start-p.ensures)
    (ap figures_of (sym (c.loop-i.invariant ∙ played_end _ _ _ _ _ (omega arith))))
