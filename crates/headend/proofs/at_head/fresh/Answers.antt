-- `headend::at_head::fresh` meets its contract: the OLT is made, and no group. Assumes nothing.
use Rattle.headend.specs.HeadCalls.{fresh_head_of}
use Rattle.headend.proofs.NoGroups.{without_groups}
use Rattle.headend.proofs.at_head.fresh.Goals as goal

pub returns : goal.returns
unfolding fresh_head_of
returns c =
    record { value = rw (c.no_groups-groups.ensures, c.fresh-done.ensures); alone = without_groups }
