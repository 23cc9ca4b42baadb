-- The units of a line, without their groups. Assumes nothing.
use mathlib.Core.Path.{◌≡◌, ap}
use mathlib.Core.List.{List}
use Prim.Native.Nat.{ℕ}
use lib.ListN.{set, get_or-map}
use Rattle.ends.specs.declared.Onu.{Onu}
use Rattle.group_protocol.specs.declared.Subscriber.{Subscriber}
use Rattle.unicast.specs.History as units
use Rattle.unicast.specs.Run as run
use Rattle.line.specs.History.{Membership, GroupLane}
use Rattle.line.specs.Run.{State, alone, subscriber_at, no_subscriber, at_unit}
use Rattle.line.proofs.Places.{map_set}

---- the units

pub onu_alone : (s : State) (u : ℕ) → run.onu_at (alone s) u ≡ (subscriber_at s u).onu
unfolding alone no_subscriber
onu_alone s u = get_or-map (λ (x : Subscriber). x.onu) s.subscribers u no_subscriber

-- a call on a unit
pub at_unit_alone-holds : (s : State) (u : ℕ) (x : Subscriber) (us : units.History) (js : List (List Membership)) (gs : List GroupLane)
    → alone (at_unit s u x us js gs) ≡ record { olt = (alone s).olt; onus = set (alone s).onus u x.onu; history = us }
unfolding alone at_unit
at_unit_alone-holds s u x us js gs =
    ap (λ (os : List Onu). record { olt = s.head.olt; onus = os; history = us }) (map_set (λ (y : Subscriber). y.onu) s.subscribers u x)
