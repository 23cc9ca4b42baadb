-- The group's continuations on the example's list, cut short where a member missed a key or is not synced, and whole. Assumes nothing.
use Rattle.std.specs.Prelude.{◌≡◌, false, List, [], ◌∷◌, ℕ, ◌+◌, ◌*◌}
use Rattle.clock.specs.Ticks.{max_round_trip}
use Rattle.unicast.specs.Bounds.{longest}
use Rattle.unicast.specs.Example.{key_from}
use Rattle.line.specs.History.{has_taken}
use Rattle.line.specs.Events.{advance, retry, send_down, arrive_group}
use Rattle.line.specs.Run.{State, runs, joined_by, group_lane_at}
use Rattle.line.specs.Example.{example, group_llid, interval, to_missed, to_unsynced}
use Rattle.line.specs.Course.{after, played}
use Rattle.progress.specs.GroupProgress.{group_recipe, restoring, OpenedAt, GroupBrings, Restores}

-- cut short where the second member has missed key 2, and the offer of key 3 is outstanding
abbrev pub missed : State
missed = after to_missed

-- cut short where the second member's path has changed, and it is not synced
abbrev pub unsynced : State
unsynced = after to_unsynced

-- the key of an offer that is not made
abbrev pub spare : List ℕ
spare = key_from 96

pub record Returned : Type 0 where
  pub untaken : has_taken (joined_by missed 1) group_llid 2 ≡ false
  pub listed : group_recipe 0 spare missed ≡ retry group_llid
      ∷ advance 11
      ∷ arrive_group 1 0 3 []
      ∷ advance 19
      ∷ arrive_group 0 0 2 []
      ∷ advance (longest + interval)
      ∷ send_down group_llid 0x00 [] []
      ∷ advance 11
      ∷ arrive_group 1 0 0 []
      ∷ advance 19
      ∷ arrive_group 0 0 0 []
      ∷ []
  pub brings : GroupBrings example missed 0 3 (longest + interval + 60) 11 (group_recipe 0 spare missed)
  -- the member that missed key 2 opens the envelope under key 3
  pub opens : OpenedAt example (group_lane_at (runs missed (group_recipe 0 spare missed)) 0) 1 brings.next
  -- at the end of the list no offer is outstanding: the continuation makes one
  pub onwards : GroupBrings example played 0 5 (longest + interval + 60) 11 (group_recipe 0 spare played)
  -- where the second member is not synced, its clock comes first, and it opens the envelope under key 4 too
  pub restores : Restores example unsynced 0 4 (2 * (longest + max_round_trip) + (longest + interval) + 2 * max_round_trip) 25 (restoring 0 spare unsynced)
  pub opens_too : OpenedAt example (group_lane_at (runs unsynced (restoring 0 spare unsynced)) 0) 1 restores.next
