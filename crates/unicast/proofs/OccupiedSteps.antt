-- Channels that are kept for longer, by what else the OLT sends, keep the invariant. Assumes nothing.
use mathlib.Core.Path.{◌≡◌}
use mathlib.Core.Bool.{true}
use Prim.Native.Nat.{ℕ, ◌+◌, ◌<◌, ◌≤◌}
use lib.ListN.{length}
use Rattle.ends.specs.Occupancy.{free_from, valid_channels}
use Rattle.ends.specs.Records.{with_channels}
use Rattle.ends.specs.Table.{unit_at, with_olt_channels}
use Rattle.ends.specs.declared.Channels.{Channels}
use Rattle.ends.proofs.Validity.{with_channels_valid}
use Rattle.unicast.specs.Setting.{Setting}
use Rattle.unicast.specs.Run.{State, lane_at, onu_at}
use Rattle.unicast.specs.Bounds.{longest}
use Rattle.unicast.proofs.Invariant.{LaneRight, Invariant}
use Rattle.unicast.proofs.Frames.{lane_kept}
use Rattle.unicast.proofs.SendDownSteps.{channels_keep, channels_at_tick}

pub occupied_right : (w : Setting) (s : State) (c : Channels) → Invariant w s → ((k : ℕ) → free_from s.olt.shared.channels k ≤ free_from c k)
    → ((k : ℕ) → free_from c k ≤ s.history.now + longest) → valid_channels c ≡ true
    → Invariant w (record { olt = with_olt_channels s.olt c; onus = s.onus; history = s.history })
unfolding with_olt_channels with_channels
occupied_right w s c i rises frees v =
    let lane : (u : ℕ) → u < length s.history.lanes → LaneRight w (with_olt_channels s.olt c) s.history.now (lane_at s u) (onu_at s u) =
    λ u h.
    lane_kept w s.olt (with_olt_channels s.olt c) s.history.now (lane_at s u) (onu_at s u)
    (λ e t. (t.0, channels_keep w s.olt.shared s.history.now (lane_at s u) (unit_at s.olt _) (onu_at s u) c rises t.1)) (i.lane u h) in
    search (with_channels_valid, channels_at_tick)
