-- The clock and key calls of the OLT on one unit (01, Clock; Keys). Assumes nothing.
use Rattle.std.specs.Prelude.{Bool, false, not, List, ℕ, ◌+◌, ◌-◌, leb, ltb, eqb, Err}
use Rattle.octets.specs.Choice.{both, either, pick}
use Rattle.octets.specs.Lists.{same}
use Rattle.refusal.specs.declared.Refusal.TheVariants.{ClockNotSet, OfferPending, SameKey, NothingOutstanding, CaptureTooOld, AtEnd}
use Rattle.clock.specs.Ticks.{ticks_per_second, rewound}
use Rattle.clock.specs.Stamping.{captured_at}
use Rattle.clock.specs.declared.Stamps.{Stamps}
use Rattle.ends.specs.Limits.{max_key_number}
use Rattle.refusal.specs.Order.{refuse_if}
use Rattle.ends.specs.Flags.{is_up}
use Rattle.protocol.specs.Replies.{Silence, silent}
use Rattle.ends.specs.Timers.{timer_advanced}
use Rattle.ends.specs.Keys.{key_in, with_key}
use Rattle.protocol.specs.Messages.{clock_kind, key_kind}
use Rattle.ends.specs.Records.{with_keys, with_confirmation, with_clock, new_unit_clock, with_timer}
use Rattle.protocol.specs.Lift.{Outcome, outcome}
use Rattle.ends.specs.declared.UnitKeys.{UnitKeys}
use Rattle.ends.specs.declared.UnitClock.{UnitClock}
use Rattle.ends.specs.declared.UnitRecord.{UnitRecord}
use Rattle.ends.specs.declared.Shared.{Shared}
use Rattle.protocol.specs.declared.KeyMessage.{KeyMessage}
use Rattle.protocol.specs.declared.Acknowledgement.{Acknowledgement}
use Rattle.refusal.specs.Verdict.{Verdict, no_refusal}

-- an advance moves a unit's timer
unfoldable pub unit_advanced : ℕ → UnitRecord → UnitRecord
unit_advanced n u = with_keys u (with_timer u.keys (timer_advanced u.keys.timer n))

---- capture

unfoldable pub clock_captured : UnitClock → ℕ → UnitClock
clock_captured c tick = record { trip = c.trip; captured = 1; tick = tick; sent = c.sent; acknowledged = c.acknowledged }

-- never refused; the tick is kept, and stamps are worked out where they are sent (D12)
unfoldable pub capture_unit : Shared → UnitRecord → Outcome Silence
capture_unit s u = outcome s no_refusal (with_clock u (clock_captured u.clock s.tick)) silent

---- the round trip measured again (02, C-16): capture, sent and acknowledged are forgotten (D43)

unfoldable pub measure_unit : ℕ → Shared → UnitRecord → Outcome Silence
measure_unit trip s u = outcome s no_refusal (with_clock u (new_unit_clock trip)) silent

---- clock send: 8, 16

-- any number of times, up to a second after the capture (D11)
unfoldable pub clock_send_verdict : UnitClock → ℕ → Verdict
clock_send_verdict c tick =
    refuse_if (not (is_up c.captured)) NothingOutstanding
    (refuse_if (ltb (c.tick + ticks_per_second) tick) CaptureTooOld no_refusal)

unfoldable pub clock_after_send : UnitClock → UnitClock
clock_after_send c = record { trip = c.trip; captured = c.captured; tick = c.tick; sent = 1; acknowledged = c.acknowledged }

-- the stamps of the capture's tick, from the clock of this one (D12)
unfoldable pub clock_message_of : Shared → UnitClock → Stamps
clock_message_of s c = captured_at (rewound s.clock (s.tick - c.tick)) c.trip

-- hands over the stamps of the capture
unfoldable pub clock_send_unit : Shared → UnitRecord → Outcome Stamps
clock_send_unit s u =
    outcome s (clock_send_verdict u.clock s.tick) (with_clock u (clock_after_send u.clock)) (clock_message_of s u.clock)

---- offer: 5, 6, 7, 17

-- the key is compared with key A alone, and only where A ≥ 1 (D19)
unfoldable pub offer_verdict : UnitRecord → List ℕ → Verdict
offer_verdict u key =
    refuse_if (not (is_up u.clock.acknowledged)) ClockNotSet
    (refuse_if (either (ltb u.keys.active u.keys.offered) (ltb u.confirmation.confirmed u.keys.active)) OfferPending
    (refuse_if (both (leb 1 u.keys.active) (same key (key_in u.keys.slots u.keys.active))) SameKey
    (refuse_if (leb max_key_number u.keys.active) AtEnd no_refusal)))

unfoldable pub keys_offered : UnitKeys → List ℕ → UnitKeys
keys_offered k key =
    record { timer = k.timer; active = k.active; offered = k.active + 1; slots = with_key k.slots (k.active + 1) key; first = k.first }

-- a new offer starts unacknowledged
unfoldable pub unit_offered : UnitRecord → List ℕ → UnitRecord
unit_offered u key =
    with_confirmation (with_keys u (keys_offered u.keys key)) (record { confirmed = u.confirmation.confirmed; acknowledged = 0 })

-- the message of the outstanding offer
unfoldable pub key_message_of : ℕ → UnitKeys → KeyMessage
key_message_of llid k = record { llid = llid; number = k.offered; key = key_in k.slots k.offered }

-- hands over the next number and its key, of which no acknowledgement has come
unfoldable pub offer_unit : ℕ → List ℕ → Shared → UnitRecord → Outcome KeyMessage
offer_unit llid key s u = outcome s (offer_verdict u key) (unit_offered u key) (key_message_of llid (keys_offered u.keys key))

---- retry: 8

unfoldable pub retry_verdict : UnitKeys → Verdict
retry_verdict k = refuse_if (eqb k.offered k.active) NothingOutstanding no_refusal

-- the unit stays as it is, the mark of an acknowledgement too
unfoldable pub retry_unit : ℕ → Shared → UnitRecord → Outcome KeyMessage
retry_unit llid s u = outcome s (retry_verdict u.keys) u (key_message_of llid u.keys)

---- acknowledgement: 8

-- what it acknowledges is outstanding, by its kind: a clock message that was sent, or number O, which is 1 or more
unfoldable pub outstanding : Acknowledgement → UnitRecord → Bool
outstanding a u =
    pick (eqb a.kind clock_kind) (is_up u.clock.sent)
    (pick (eqb a.kind key_kind) (both (leb 1 a.number) (eqb a.number u.keys.offered)) false)

unfoldable pub acknowledge_verdict : Acknowledgement → UnitRecord → Verdict
acknowledge_verdict a u = refuse_if (not (outstanding a u)) NothingOutstanding no_refusal

-- a clock acknowledgement needs a clock message sent (D14)
unfoldable pub clock_acknowledged_unit : Shared → UnitRecord → Outcome Silence
clock_acknowledged_unit s u =
    outcome s (refuse_if (not (is_up u.clock.sent)) NothingOutstanding no_refusal)
    (with_clock u
    (record {
      trip = u.clock.trip;
      captured = u.clock.captured;
      tick = u.clock.tick;
      sent = u.clock.sent;
      acknowledged = 1;
    }))
    silent

-- a key acknowledgement names number O, which is 1 or more, and is accepted again and again (D22)
unfoldable pub key_acknowledged_unit : ℕ → Shared → UnitRecord → Outcome Silence
key_acknowledged_unit number s u =
    outcome s (refuse_if (not (both (leb 1 number) (eqb number u.keys.offered))) NothingOutstanding no_refusal)
    (with_confirmation u (record { confirmed = u.confirmation.confirmed; acknowledged = 1 }))
    silent

-- by its kind; one of neither kind fits nothing (D21)
unfoldable pub acknowledge_unit : Acknowledgement → Shared → UnitRecord → Outcome Silence
acknowledge_unit a s u =
    pick (eqb a.kind clock_kind) (clock_acknowledged_unit s u)
    (pick (eqb a.kind key_kind) (key_acknowledged_unit a.number s u) (outcome s (Err NothingOutstanding) u silent))
