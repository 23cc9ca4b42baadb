-- The line never freezes, as one statement. Assumes nothing.
use Rattle.progress.specs.Progress.{Progress, OneSpread, SpreadMost}
use Rattle.progress.specs.LineProgress.{LineProgress, LineOneSpread}
use Rattle.progress.specs.GroupProgress.{GroupProgress, GroupRestored}
use Rattle.progress.specs.Returned.{Returned}

pub record Demand : Type 0 where
  -- a unit's own line, without groups
  pub progress : Progress
  pub spread : OneSpread
  pub most : SpreadMost
  -- a unit on a line with groups
  pub line_progress : LineProgress
  pub line_spread : LineOneSpread
  -- a group
  pub group_progress : GroupProgress
  pub group_restored : GroupRestored
  pub returned : Returned
