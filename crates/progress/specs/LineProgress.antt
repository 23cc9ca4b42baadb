-- The line never freezes, groups or not: the continuation of a unit's own line goes on a line with groups as it does without, and
-- leaves the groups' lines as they were. Assumes nothing.
use Rattle.std.specs.Prelude.{◌≡◌, List, map, ℕ, ◌+◌, ◌*◌, ◌≤◌, length}
use Rattle.ends.specs.Table.{unit_at}
use Rattle.unicast.specs.Setting.{Setting}
use Rattle.unicast.specs.History.{downward, upward}
use Rattle.unicast.specs.Events as units
use Rattle.unicast.specs.Run.{lane_at, onu_at}
use Rattle.unicast.specs.Premises.{Fresh}
use Rattle.unicast.specs.Claim.{Holds, ArrivedNumbered}
use Rattle.line.specs.Events.{Event}
use Rattle.line.specs.Run.{State, alone, now, start, runs}
use Rattle.line.specs.Premises.{NewKey, Meets}
use Rattle.line.specs.Without.{plain, NoChanges}
use Rattle.progress.specs.Progress.{confirmed_by, spread, limit_of, awaited_count, recipe, Moving, max_events, LosesNothing}

-- the unit's own events bring it to key n
pub record LineBrings (w : Setting) (s : State) (u n ticks events : ℕ) (es : List units.Event) : Type 0 where
  pub meets : Meets w s (map plain es)
  pub holds : Holds (lane_at (alone (runs s (map plain es))) u) n
      (unit_at (alone (runs s (map plain es))).olt (lane_at (alone (runs s (map plain es))) u).entry.place) (onu_at (alone (runs s (map plain es))) u)
  pub down : ArrivedNumbered (lane_at (alone (runs s (map plain es))) u) downward n
  pub up : ArrivedNumbered (lane_at (alone (runs s (map plain es))) u) upward n
  pub soon : now (runs s (map plain es)) ≤ now s + ticks
  pub short : length es ≤ events
  -- nothing further of the unit's own line is lost
  pub whole : LosesNothing (alone s) u es
  pub groups : (runs s (map plain es)).history.groups ≡ s.history.groups

-- from fresh ends and a list that meets the premises, wherever it leads: for a key that no accepted offer to any unit or group gave
abbrev pub LineProgress : Type 0
LineProgress =
    (w : Setting) (es : List Event) (u llid : ℕ) (key : List ℕ) → Fresh w → Meets w (start w) es → Moving (alone (runs (start w) es)) u llid key
    → NewKey (runs (start w) es) key
    → LineBrings w (runs (start w) es) u (confirmed_by (lane_at (alone (runs (start w) es)) u) + 1) (limit_of (lane_at (alone (runs (start w) es)) u))
    (max_events + 2 * awaited_count (lane_at (alone (runs (start w) es)) u) (now (runs (start w) es))) (recipe u llid key (alone (runs (start w) es)))

-- changes of the path add nothing to a unit's continuation where there are none (02, C-16)
abbrev pub LineOneSpread : Type 0
LineOneSpread = (w : Setting) (es : List Event) → NoChanges es → (u : ℕ) → spread (lane_at (alone (runs (start w) es)) u) ≡ 0
