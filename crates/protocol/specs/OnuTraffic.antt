-- Send and receive of the ONU, but for the octets: what the payload is sealed or opened with is handed over in their place.
-- `misfit` says that the lengths of payload and output are refused 14 (01, Keys; 'When the reader says no'). Assumes nothing.
use Rattle.std.specs.Prelude.{Bool, not, ℕ, ◌+◌, ◌%◌, leb, eqb}
use Rattle.octets.specs.Choice.{both, either, pick}
use Rattle.refusal.specs.declared.Refusal.TheVariants.{OutOfRange, UnknownLlid, ClockNotSet, NoKey, EpamDiffers, ClearEnvelope, BadLength}
use Rattle.clock.specs.Ticks.{epam_of}
use Rattle.refusal.specs.Order.{refuse_if}
use Rattle.ends.specs.Flags.{is_up}
use Rattle.protocol.specs.Replies.{Reply}
use Rattle.ends.specs.Keys.{only_key, not_noted, first_send}
use Rattle.ends.specs.Travels.{travel_of, travel_spent, waits}
use Rattle.envelope.specs.Channels.{downstream, upstream}
use Rattle.ends.specs.Occupancy.{taken, occupied}
use Rattle.ends.specs.Identities.{has}
use Rattle.ends.specs.Records.{with_onu_keys, with_onu_first, with_travel, with_onu_channels}
use Rattle.protocol.specs.Headers.{valid_header, choice_verdict, choice_enciphered, clock_channel_key, passage_of, sending_of, no_passage, no_sending}
use Rattle.protocol.specs.OnuCalls.{onu_reply}
use Rattle.ends.specs.declared.OnuKeys.{OnuKeys}
use Rattle.ends.specs.declared.Onu.{Onu}
use Rattle.protocol.specs.declared.Header.{Header}
use Rattle.protocol.specs.declared.KeyChoice.{KeyChoice}
use Rattle.protocol.specs.declared.KeyChoice.TheVariants.{Clear, Current, Next, Barred}
use Rattle.protocol.specs.declared.Passage.{Passage}
use Rattle.protocol.specs.declared.Sending.{Sending}
use Rattle.refusal.specs.Verdict.{Verdict}

---- send: 14, 1, 2, 5, 12, 13

-- key a, clear while a = 0
unfoldable pub onu_send_choice : OnuKeys → KeyChoice
onu_send_choice k = pick (eqb k.active 0) Clear (Current k.active)

-- the channel is taken, or an enciphered send waits, on either channel, for travel to pass those made before a change (02, C-16)
unfoldable pub busy_up : Onu → ℕ → Bool
busy_up o channel =
    either (taken o.channels channel o.tick) (both (choice_enciphered (onu_send_choice o.keys)) (waits o))

unfoldable pub onu_send_verdict : Onu → Bool → ℕ → ℕ → Verdict
onu_send_verdict o misfit llid channel =
    refuse_if misfit BadLength
    (refuse_if (not (upstream channel)) OutOfRange
    (refuse_if (not (has o.identity llid)) UnknownLlid
    (clock_channel_key (is_up o.clock.synced) (busy_up o channel) (onu_send_choice o.keys) o.first (travel_of o))))

-- a send under a key may be its first, and keeps later ones waiting after a change of LocalTime
unfoldable pub onu_noted : KeyChoice → ℕ → Onu → Onu
onu_noted Clear eqs o = o
onu_noted (Current n) eqs o =
    with_travel (with_onu_first o (first_send o.first (travel_of o))) (travel_spent o.travel (travel_of o) eqs)
onu_noted (Next n) eqs o = o
onu_noted (Barred r) eqs o = o

unfoldable pub onu_after_send : Onu → ℕ → ℕ → Onu
onu_after_send o channel eqs = with_onu_channels (onu_noted (onu_send_choice o.keys) eqs o) (occupied o.channels channel o.tick eqs)

-- sealed with the unit's own MAC and its Tx clock
unfoldable pub sending_onu : Onu → Bool → ℕ → ℕ → ℕ → Reply Onu Sending
sending_onu o misfit llid channel eqs =
    onu_reply o no_sending (onu_send_verdict o misfit llid channel) (onu_after_send o channel eqs)
    (sending_of (onu_send_choice o.keys) o.keys.slots o.identity.mac o.clock.time channel llid)

---- receive: 14, 1, 2, 10, 5, 11, 9

-- clear while a = 0; index a mod 2 with a ≥ 1: key a; the other index: key a + 1 if held (D31)
unfoldable pub onu_receive_choice : OnuKeys → Header → KeyChoice
onu_receive_choice k h =
    pick (eqb h.encenabled 0) (pick (eqb k.active 0) Clear (Barred ClearEnvelope))
    (pick (both (leb 1 k.active) (eqb h.enckey (k.active % 2))) (Current k.active)
    (pick (both (is_up k.held) (eqb h.enckey ((k.active + 1) % 2))) (Next (k.active + 1)) (Barred NoKey)))

unfoldable pub onu_receive_verdict : Onu → Bool → Header → Verdict
onu_receive_verdict o misfit h =
    refuse_if misfit BadLength
    (refuse_if (not (both (downstream h.channel) (valid_header h))) OutOfRange
    (refuse_if (not (has o.identity h.llid)) UnknownLlid
    (refuse_if (both (is_up o.clock.synced) (not (eqb h.epam (epam_of o.clock.rx)))) EpamDiffers
    (refuse_if (both (eqb h.encenabled 1) (not (is_up o.clock.synced))) ClockNotSet
    (choice_verdict (onu_receive_choice o.keys h))))))

-- a becomes a + 1, the old key is forgotten, and the new one has had no send
unfoldable pub onu_moved : Onu → Onu
onu_moved o =
    with_onu_first
    (with_onu_keys o (record { active = o.keys.active + 1; held = 0; slots = only_key o.keys.slots (o.keys.active + 1) }))
    not_noted

unfoldable pub onu_after_receipt : KeyChoice → Onu → Onu
onu_after_receipt Clear o = o
onu_after_receipt (Current n) o = o
onu_after_receipt (Next n) o = onu_moved o
onu_after_receipt (Barred r) o = o

-- opened with the OLT's MAC and the Rx clock
unfoldable pub receiving_onu : Onu → Bool → Header → Reply Onu Passage
receiving_onu o misfit h =
    onu_reply o no_passage (onu_receive_verdict o misfit h) (onu_after_receipt (onu_receive_choice o.keys h) o)
    (passage_of (onu_receive_choice o.keys h) o.keys.slots o.oltmac o.clock.rx)
