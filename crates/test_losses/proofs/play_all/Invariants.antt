-- Each turn passes a script.
use Rattle.std.proofs.Common.{length}
use Rattle.test_losses.proofs.play_all.Given as goal

abbrev pub decreases-loop-length : goal.decreases-loop-length
decreases-loop-length g l = length l.rest
