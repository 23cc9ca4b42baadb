-- Each turn passes a word.
use Rattle.std.proofs.Common.{length}
use Rattle.test_exchange.proofs.play_row.Given as goal

abbrev pub decreases-loop-word : goal.decreases-loop-word
decreases-loop-word g l = length l.rest
