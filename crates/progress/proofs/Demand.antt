-- The line never freezes: all of it. Assumes nothing.
use Rattle.progress.specs.Demand.{Demand}
use Rattle.progress.proofs.Progress.{progress, spread_most}
use Rattle.progress.proofs.Spread.{one_spread, line_one_spread}
use Rattle.progress.proofs.LineProgress.{line_progress-holds}
use Rattle.progress.proofs.GroupProgress.{group_progress-holds}
use Rattle.progress.proofs.GroupRestored.{group_restored-holds}
use Rattle.progress.proofs.Returned.{returned}

pub demand : Demand
demand =
    record {
      progress = progress;
      spread = one_spread;
      most = spread_most;
      line_progress = line_progress-holds;
      line_spread = line_one_spread;
      group_progress = group_progress-holds;
      group_restored = group_restored-holds;
      returned = returned;
    }
