-- Send and receive on one unit keep it valid and of its identity, and the flag of its timer falls at a switch alone. Assumes nothing.
use mathlib.Core.Path.{◌≡◌, refl}
use mathlib.Core.Bool.{Bool, true, false}
use Prim.Native.Nat.{ℕ, ◌≤◌}
use native.Mathlib.Omega.{arith}
use lib.Dec.{eqb}
use Rattle.octets.specs.Choice.{pick}
use Rattle.octets.specs.Eqs.{max_eqs}
use Rattle.ends.specs.Records.{with_keys, with_confirmation, with_slots, with_first}
use Rattle.ends.specs.Timers.{timer_fallen}
use Rattle.ends.specs.Validity.{valid_unit}
use Rattle.protocol.specs.Lift.{outcome}
use Rattle.protocol.specs.UnitTraffic.{switches, unit_send_choice, keys_switched, keys_after_send, send_unit, unit_receive_choice, unit_confirmed, unit_after_receipt, receive_unit}
use Rattle.ends.specs.declared.Shared.{Shared}
use Rattle.ends.specs.declared.UnitRecord.{UnitRecord}
use Rattle.protocol.specs.declared.Header.{Header}
use Rattle.protocol.specs.declared.KeyChoice.{KeyChoice}
use Rattle.protocol.specs.declared.KeyChoice.TheVariants.{Clear, Current, Next, Barred}
use Rattle.ends.proofs.Timers.{timer_fallen_valid}
use Rattle.ends.proofs.Keys.{first_send_valid, first_noted_valid}
use Rattle.ends.proofs.Occupancy.{occupied_valid}
use Rattle.ends.proofs.Validity.{unit_in_range, unit_valid, shared_in_range}
use Rattle.protocol.proofs.Lift.{Keeps}

-- whatever the choice, the keys after a send are in range
sent_valid : (choice : KeyChoice) (tick : ℕ) (u : UnitRecord) → valid_unit tick u ≡ true
    → valid_unit tick (with_keys u (keys_after_send choice u.keys tick)) ≡ true
unfolding with_keys keys_after_send with_first keys_switched
sent_valid Clear tick u v = v
sent_valid (Barred r) tick u v = v
sent_valid (Current n) tick u v = let r = unit_in_range tick u v in unit_valid tick _ (search first_send_valid)
sent_valid (Next n) tick u v =
    let r = unit_in_range tick u v in
    unit_valid tick _ (search (timer_fallen_valid, first_noted_valid, arith))

pub send_keeps : (llid channel eqs : ℕ) → eqs ≤ max_eqs → Keeps (send_unit llid channel eqs)
unfolding send_unit with_keys
send_keeps llid channel eqs h =
    record {
      identity = λ s u. refl;
      unit = λ s u v a. sent_valid (unit_send_choice u) s.tick u v;
      channels = λ s u v.
          let r = shared_in_range s v in
          occupied_valid s.channels channel s.tick eqs r.tick h r.channels;
    }

-- the flag falls at a switch
pub timer_falls : (llid channel eqs : ℕ) (s : Shared) (u : UnitRecord) → switches u ≡ true
    → (send_unit llid channel eqs s u).unit.keys.timer ≡ timer_fallen u.keys.timer
unfolding send_unit with_keys unit_send_choice keys_after_send keys_switched pick
timer_falls llid channel eqs s u e = rw e

pub timer_stays : (llid channel eqs : ℕ) (s : Shared) (u : UnitRecord) → switches u ≡ false
    → (send_unit llid channel eqs s u).unit.keys.timer ≡ u.keys.timer
unfolding send_unit with_keys unit_send_choice keys_after_send with_first pick
timer_stays llid channel eqs s u e = rw e (by_active (eqb u.keys.active 0)) where
  by_active : (z : Bool) → (keys_after_send (pick z Clear (Current u.keys.active)) u.keys s.tick).timer ≡ u.keys.timer
  by_active true = refl
  by_active false = refl

received_valid : (choice : KeyChoice) (tick : ℕ) (u : UnitRecord) → valid_unit tick u ≡ true → valid_unit tick (unit_after_receipt choice u) ≡ true
unfolding unit_after_receipt unit_confirmed with_keys with_slots with_confirmation
received_valid Clear tick u v = v
received_valid (Current n) tick u v = v
received_valid (Barred r) tick u v = v
received_valid (Next n) tick u v = let r = unit_in_range tick u v in unit_valid tick _ (search arith)

received_identity : (choice : KeyChoice) (u : UnitRecord) → (unit_after_receipt choice u).identity ≡ u.identity
unfolding unit_after_receipt unit_confirmed with_keys with_slots with_confirmation
received_identity Clear u = refl
received_identity (Current n) u = refl
received_identity (Next n) u = refl
received_identity (Barred r) u = refl

pub receive_keeps : (h : Header) → Keeps (receive_unit h)
unfolding receive_unit outcome
receive_keeps h =
    record {
      identity = λ s u. received_identity (unit_receive_choice u h) u;
      unit = λ s u v a. received_valid (unit_receive_choice u h) s.tick u v;
      channels = λ s u v. (shared_in_range s v).channels;
    }
