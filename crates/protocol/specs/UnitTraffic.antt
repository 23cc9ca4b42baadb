-- Send and receive of the OLT on one unit, but for the octets (01, Keys). Assumes nothing.
use Rattle.std.specs.Prelude.{Bool, not, ℕ, ◌+◌, ◌%◌, leb, eqb}
use Rattle.octets.specs.Choice.{both, pick}
use Rattle.refusal.specs.declared.Refusal.TheVariants.{NoKey, EpamDiffers, ClearEnvelope}
use Rattle.clock.specs.Ticks.{epam_of}
use Rattle.refusal.specs.Order.{refuse_if}
use Rattle.ends.specs.Flags.{is_up}
use Rattle.ends.specs.Timers.{timer_fallen}
use Rattle.ends.specs.Keys.{only_key, noted_at, first_send}
use Rattle.ends.specs.Occupancy.{taken, occupied}
use Rattle.ends.specs.Records.{with_keys, with_confirmation, with_slots, with_first}
use Rattle.protocol.specs.Lift.{Outcome, outcome}
use Rattle.protocol.specs.Headers.{choice_verdict, clock_channel_key, passage_of, sending_of}
use Rattle.ends.specs.declared.UnitKeys.{UnitKeys}
use Rattle.ends.specs.declared.UnitRecord.{UnitRecord}
use Rattle.ends.specs.declared.Shared.{Shared}
use Rattle.protocol.specs.declared.Header.{Header}
use Rattle.protocol.specs.declared.KeyChoice.{KeyChoice}
use Rattle.protocol.specs.declared.KeyChoice.TheVariants.{Clear, Current, Next, Barred}
use Rattle.protocol.specs.declared.Passage.{Passage}
use Rattle.protocol.specs.declared.Sending.{Sending}
use Rattle.refusal.specs.Verdict.{Verdict}

---- send: 5, 12, 13

-- the next accepted send switches
unfoldable pub switches : UnitRecord → Bool
switches u =
    both (is_up u.keys.timer.flag) (both (eqb u.keys.offered (u.keys.active + 1)) (is_up u.confirmation.acknowledged))

-- key O where it switches, else key A, clear while A = 0
unfoldable pub unit_send_choice : UnitRecord → KeyChoice
unit_send_choice u = pick (switches u) (Next u.keys.offered) (pick (eqb u.keys.active 0) Clear (Current u.keys.active))

unfoldable pub unit_send_verdict : Shared → UnitRecord → ℕ → Verdict
unit_send_verdict s u channel =
    clock_channel_key (is_up u.clock.acknowledged) (taken s.channels channel s.tick) (unit_send_choice u) u.keys.first s.tick

-- A becomes O, the flag falls, and this is the key's first send
unfoldable pub keys_switched : UnitKeys → ℕ → UnitKeys
keys_switched k tick =
    record { timer = timer_fallen k.timer; active = k.offered; offered = k.offered; slots = k.slots; first = noted_at tick }

-- a clear send is no first send (D36)
unfoldable pub keys_after_send : KeyChoice → UnitKeys → ℕ → UnitKeys
keys_after_send Clear k tick = k
keys_after_send (Current n) k tick = with_first k (first_send k.first tick)
keys_after_send (Next n) k tick = keys_switched k tick
keys_after_send (Barred r) k tick = k

-- sealed with the OLT's MAC and clock, under the key that is chosen; a switch is a choice
unfoldable pub send_unit : ℕ → ℕ → ℕ → Shared → UnitRecord → Outcome Sending
send_unit llid channel eqs s u =
    record {
      verdict = unit_send_verdict s u channel;
      unit = with_keys u (keys_after_send (unit_send_choice u) u.keys s.tick);
      channels = occupied s.channels channel s.tick eqs;
      handed = sending_of (unit_send_choice u) u.keys.slots s.mac s.clock channel llid;
    }

---- receive: 10, 11, 9

-- clear while C = 0 (D29); index C mod 2 with C ≥ 1: key C; else index A mod 2 with A = C + 1: key A; never key O (D30)
unfoldable pub unit_receive_choice : UnitRecord → Header → KeyChoice
unit_receive_choice u h =
    pick (eqb h.encenabled 0) (pick (eqb u.confirmation.confirmed 0) Clear (Barred ClearEnvelope))
    (pick (both (leb 1 u.confirmation.confirmed) (eqb h.enckey (u.confirmation.confirmed % 2)))
    (Current u.confirmation.confirmed)
    (pick (both (eqb u.keys.active (u.confirmation.confirmed + 1)) (eqb h.enckey (u.keys.active % 2)))
    (Next u.keys.active)
    (Barred NoKey)))

-- EPAM of clear envelopes is checked too (D28)
unfoldable pub unit_receive_verdict : Shared → UnitRecord → Header → Verdict
unit_receive_verdict s u h =
    refuse_if (not (eqb h.epam (epam_of s.clock))) EpamDiffers (choice_verdict (unit_receive_choice u h))

-- C becomes A, and the key before A is forgotten (D25)
unfoldable pub unit_confirmed : UnitRecord → UnitRecord
unit_confirmed u =
    with_confirmation (with_keys u (with_slots u.keys (only_key u.keys.slots u.keys.active)))
    (record { confirmed = u.keys.active; acknowledged = u.confirmation.acknowledged })

unfoldable pub unit_after_receipt : KeyChoice → UnitRecord → UnitRecord
unit_after_receipt Clear u = u
unit_after_receipt (Current n) u = u
unit_after_receipt (Next n) u = unit_confirmed u
unit_after_receipt (Barred r) u = u

-- opened with the unit's MAC and the OLT's clock
unfoldable pub receive_unit : Header → Shared → UnitRecord → Outcome Passage
receive_unit h s u =
    outcome s (unit_receive_verdict s u h) (unit_after_receipt (unit_receive_choice u h) u)
    (passage_of (unit_receive_choice u h) u.keys.slots u.identity.mac s.clock)
