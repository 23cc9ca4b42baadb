-- A group decides as the unit that it stands for. Assumes nothing.
use mathlib.Core.Path.{◌≡◌, refl, ap}
use mathlib.Core.Bool.{Bool, true, false}
use mathlib.Core.List.{List}
use Prim.Native.Nat.{ℕ, ◌+◌}
use native.Mathlib.Omega.{arith}
use lib.Dec.{ltb, eqb}
use borrow.Author.Tests.{le-ltb}
use Rattle.octets.specs.Choice.{both, pick}
use Rattle.ends.specs.Flags.{is_up}
use Rattle.ends.proofs.Marks.{either_no}
use Rattle.protocol.specs.UnitCalls.{offer_verdict}
use Rattle.protocol.specs.UnitTraffic.{switches, unit_send_choice}
use Rattle.group_protocol.specs.AsUnit.{as_unit}
use Rattle.group_protocol.specs.GroupCalls.{group_offer_verdict, group_send_choice, group_switches}
use Rattle.group_protocol.specs.declared.GroupRecord.{GroupRecord}

flag_up : (set : Bool) → is_up (pick set 1 0) ≡ set
unfolding pick
flag_up true = refl
flag_up false = refl

both_yes : (a : Bool) → both a true ≡ a
unfolding both
both_yes true = refl
both_yes false = refl

pub offer_as_unit : (g : GroupRecord) (set : Bool) (key : List ℕ) → offer_verdict (as_unit g set) key ≡ group_offer_verdict set g.keys key
unfolding as_unit offer_verdict group_offer_verdict
offer_as_unit g set key =
    rw (flag_up set, le-ltb g.keys.active g.keys.active (omega arith), either_no (ltb g.keys.active g.keys.offered))

switches_as_unit : (g : GroupRecord) (set : Bool) → switches (as_unit g set) ≡ group_switches g.keys
unfolding as_unit switches group_switches
switches_as_unit g set = ap (both (is_up g.keys.timer.flag)) (both_yes (eqb g.keys.offered (g.keys.active + 1)))

pub choice_as_unit : (g : GroupRecord) (set : Bool) → unit_send_choice (as_unit g set) ≡ group_send_choice g.keys
unfolding unit_send_choice group_send_choice
choice_as_unit g set = rw (switches_as_unit g set) (unfold as_unit in refl)
