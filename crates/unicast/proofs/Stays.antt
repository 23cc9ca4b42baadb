-- What a call leaves of every lane. Assumes nothing.
use mathlib.Core.Path.{◌≡◌, refl, ◌∙◌, ap}
use Prim.Native.Nat.{ℕ}
use lib.ListN.{set, get_or}
use Rattle.octets.proofs.Choice.{pick_holds}
use Rattle.ends.specs.declared.Olt.{Olt}
use Rattle.unicast.specs.History.{Lane}
use Rattle.unicast.specs.Run.{State, lane_at, no_site, fresh_lane, accepted, noted, named, at_olt}
use Rattle.unicast.proofs.Places.{set_keeps}
use Rattle.unicast.proofs.LiftSteps.{named_keeps, noted_at-holds}

module _ {A : Type 0} (g : Lane → A) where
  pub noted_keeps : (number : ℕ) (f : Lane → Lane) (l : Lane) → g (f l) ≡ g l → g (noted number f l) ≡ g l
  unfolding noted
  noted_keeps number f l e = pick_holds (λ (x : Lane). g x ≡ g l) (accepted number) (f l) l (λ p. e) (λ p. refl)

  pub at_olt_keeps : (s : State) (o : Olt) (number llid : ℕ) (f : Lane → Lane) → ((l : Lane) → g (f l) ≡ g l) → (v : ℕ)
      → g (lane_at (at_olt s o number llid f) v) ≡ g (lane_at s v)
  at_olt_keeps s o number llid f keeps v =
      ap g (noted_at-holds s o number llid v f) ∙ noted_keeps number (named llid f) (lane_at s v) (named_keeps g llid f (lane_at s v) (keeps (lane_at s v)))

  pub set_stays : (s : State) (u : ℕ) (m : Lane) → g m ≡ g (lane_at s u) → (v : ℕ)
      → g (get_or (set s.history.lanes u m) v (fresh_lane no_site)) ≡ g (lane_at s v)
  set_stays s u m = set_keeps g s.history.lanes u m
