-- `exercise::script::verdict` meets its contract: 1, then 26. Assumes nothing.
use mathlib.Core.Path.{◌≡◌, sym, ◌∙◌}
use mathlib.Core.Bool.{true}
use borrow.Author.Tests.{leb-true}
use Rattle.octets.proofs.Choice.{both_left}
use Rattle.exercise.specs.Script.{interval_octets, interval_fits}
use Rattle.exercise.proofs.script.verdict.Goals as goal

-- the interval is in range
in-range : (c : goal.Else-not-interval_fits) → interval_fits c.args.s.now ≡ true
in-range c = sym c.interval_fits.ensures ∙ c.if-not-interval_fits.false

pub script_fits-requires : goal.script_fits-requires
unfolding interval_fits
script_fits-requires c = leb-true interval_octets _ (both_left _ _ (in-range c))
