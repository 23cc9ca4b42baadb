-- `exercise::script::script_fits` meets its contract: the tests of `script_fits`, one after the other. Assumes nothing.
use native.Mathlib.Omega.{arith}
use Rattle.exercise.proofs.Scripts.{steps_whole}
use Rattle.exercise.proofs.script.script_fits.Goals as goal

pub steps_fit-requires : goal.steps_fit-requires
steps_fit-requires c =
    (omega arith, omega (arith, c.steps_in-steps.ensures, steps_whole c.args.s.now c.requires))
