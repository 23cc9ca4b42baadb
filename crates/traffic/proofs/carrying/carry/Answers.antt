-- `traffic::carrying::carry` meets its contract: sealing accepts, and then answers with the count and the runs. An empty payload passes as
-- it is. Assumes nothing.
use mathlib.Core.Path.{sym}
use Rattle.traffic.specs.Passages.{passed, passed_count, passed_runs}
use Rattle.traffic.proofs.Passages.{sealing_carried}
use Rattle.traffic.proofs.carrying.carry.Goals as goal

pub returns : goal.returns
unfolding passed passed_count passed_runs
returns c =
    rw (c.seal_runs.ensures, c.seal_count.ensures, sym c.is_enciphered-enciphered.ensures)
    (sealing_carried _ _ _ _ _ _ _ c.seal-answer.ensures.output_after c.requires)
