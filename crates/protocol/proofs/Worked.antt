-- Worked values of both ends at the papers' limits, by which a definition that is off by one tick, key or channel would show (01, Clock; Keys;
-- 'When the reader says no'; 02, C-16; C-22): each is computed from the definitions of the calls. Assumes nothing.
use mathlib.Core.Path.{◌≡◌}
use mathlib.Core.Bool.{true, false}
use mathlib.Core.List.{List, [], ◌∷◌}
use Prim.Native.Nat.{ℕ, ◌+◌, ◌^◌}
use lib.ListN.{replicate}
use Rattle.octets.specs.Choice.{both, either, pick}
use Rattle.octets.specs.Lists.{same, all}
use Rattle.refusal.specs.Number.{verdict_number}
use Rattle.refusal.specs.Order.{refuse_if}
use Rattle.envelope.specs.Channels.{upstream, on_zero}
use Rattle.ends.specs.Identities.{among, distinct, llids_of, has, kept, valid_mac, valid_identity}
use Rattle.ends.specs.Keys.{no_key, no_slots, key_in, noted_at, aged}
use Rattle.ends.specs.Occupancy.{free_channels, free_from, taken, occupied, valid_channels}
use Rattle.ends.specs.Records.{with_keys, with_timer, new_olt, with_onu_clock, with_travel, new_onu}
use Rattle.ends.specs.Timers.{timer_advanced, timer_fallen}
use Rattle.ends.specs.Table.{table_llids}
use Rattle.ends.specs.Travels.{shift_of, valid_changes, travel_of, travel_changed, waits}
use Rattle.ends.specs.Validity.{valid_shared, valid_olt, valid_onu_keys, valid_onu_clock, valid_onu}
use Rattle.protocol.specs.Replies.{reply, advance_verdict}
use Rattle.protocol.specs.Lift.{outcome}
use Rattle.protocol.specs.Headers.{choice_number, choice_verdict, choice_aged, choice_enciphered, passage_of, sending_of}
use Rattle.protocol.specs.UnitCalls.{unit_advanced, clock_send_verdict}
use Rattle.protocol.specs.UnitTraffic.{switches, unit_send_choice, unit_send_verdict, keys_switched, keys_after_send, send_unit, unit_receive_choice, unit_receive_verdict, receive_unit}
use Rattle.protocol.specs.OltCalls.{olt_answer, advancing_olt, advance_olt_of}
use Rattle.protocol.specs.OnuCalls.{onu_reply, time_ahead, changes_after, onu_retimed, new_key, held_key, active_key, key_message_verdict}
use Rattle.protocol.specs.OnuTraffic.{onu_send_choice, busy_up, onu_send_verdict, sending_onu}
use Rattle.ends.specs.declared.Channels.{Channels}
use Rattle.ends.specs.declared.Identity.{Identity}
use Rattle.ends.specs.declared.Onu.{Onu}
use Rattle.ends.specs.declared.OnuKeys.{OnuKeys}
use Rattle.ends.specs.declared.Shared.{Shared}
use Rattle.ends.specs.declared.Slots.{Slots}
use Rattle.ends.specs.declared.UnitClock.{UnitClock}
use Rattle.ends.specs.declared.UnitRecord.{UnitRecord}
use Rattle.protocol.specs.declared.Header.{Header}

-- a key of one octet sixteen times; key n has the octet n
abbrev key_of : ℕ → List ℕ
key_of octet = replicate 16 octet

abbrev two_keys : Slots
two_keys = record { even = key_of 2; odd = key_of 1 }

-- MAC 2 and LLID 5; the OLT has MAC 1
abbrev identity : Identity
identity = record { mac = 2; llids = 5 ∷ 0 ∷ 0 ∷ 0 ∷ []; count = 1 }

---- the OLT

-- captured at tick 100, and sent; acknowledged or not
abbrev clock_of : ℕ → UnitClock
clock_of acknowledged = record { trip = 0; captured = 1; tick = 100; sent = 1; acknowledged = acknowledged }

-- a unit by its C, A and O: O is acknowledged, the flag is up, and key A had its first send at tick 0
abbrev unit_of : UnitClock → ℕ → ℕ → ℕ → UnitRecord
unit_of clock c a o =
    record {
      identity = identity;
      keys =
          record {
            timer = record { interval = 10; count = 0; flag = 1 };
            active = a;
            offered = o;
            slots = two_keys;
            first = noted_at 0;
          };
      confirmation = record { confirmed = c; acknowledged = 1 };
      clock = clock;
    }

abbrev unit : ℕ → ℕ → ℕ → UnitRecord
unit = unit_of (clock_of 1)

abbrev unset : ℕ → ℕ → ℕ → UnitRecord
unset = unit_of (clock_of 0)

abbrev olt_at : ℕ → Channels → Shared
olt_at tick channels = record { mac = 1; tick = tick; clock = 0; channels = channels }

-- the code of a send on a channel
abbrev send_code : ℕ → Channels → UnitRecord → ℕ → ℕ
send_code tick channels u channel = verdict_number (unit_send_verdict (olt_at tick channels) u channel)

-- the channels after a send on channel 0 at tick 70 with 6 EQs
abbrev after_send : Channels
after_send = (send_unit 5 0 6 (olt_at 70 free_channels) (unit 1 1 1)).channels

-- A after a send
abbrev sent_active : UnitRecord → ℕ
sent_active u = (send_unit 5 0 0 (olt_at 100 free_channels) u).unit.keys.active

-- an envelope of the unit, with the EPAM of the OLT's clock
abbrev upward : ℕ → Header
upward encenabled = record { channel = 0x80; llid = 5; encenabled = encenabled; enckey = encenabled; epam = 0 }

pub record OltRows : Type 0 where
  -- a clock message is sent at most 390,625,000 ticks after its capture (01, Clock), else 16
  pub sent : verdict_number (clock_send_verdict (clock_of 0) (100 + 390625000)) ≡ 0
  pub old : verdict_number (clock_send_verdict (clock_of 0) (100 + 390625001)) ≡ 16
  -- the timer does not switch (01, Errors this trade makes); a send does, and A becomes O for each key (01, Keys: Switch)
  pub risen : (unit_advanced 10 (unit 1 1 2)).keys.active ≡ 1
  pub second : sent_active (unit 1 1 2) ≡ 2
  pub third : sent_active (unit 2 2 3) ≡ 3
  -- sends under a key stop 2^48 ticks after its first; one that switches is judged by the new key (01, Keys)
  pub too_old : send_code (2 ^ 48) free_channels (unit 1 1 1) 0 ≡ 13
  pub switching : send_code (2 ^ 48) free_channels (unit 1 1 2) 0 ≡ 0
  -- 12 is ahead of 13 (01, 'When the reader says no': Send), and 5, of an enciphered send alone, ahead of 12 (02, C-16)
  pub taken_aged : send_code (2 ^ 48) (record { zero = 2 ^ 48 + 1; one = 0 }) (unit 1 1 1) 0 ≡ 12
  pub taken_unset : send_code 0 (record { zero = 1; one = 0 }) (unset 1 1 1) 0 ≡ 5
  pub clear_unset : send_code 0 free_channels (unset 0 0 0) 0 ≡ 0
  pub clear_taken : send_code 0 (record { zero = 1; one = 0 }) (unset 0 0 0) 0 ≡ 12
  -- a header at tick t with p EQs keeps its channel until t + p (01, Keys), and leaves the other (02, C-22)
  pub last : send_code (70 + 6) after_send (unit 1 1 1) 0 ≡ 12
  pub free : send_code (70 + 6 + 1) after_send (unit 1 1 1) 0 ≡ 0
  pub other : send_code 70 after_send (unit 1 1 1) 1 ≡ 0
  -- the counter block has the sender's MAC (01, Counter block and mask)
  pub own_mac : (send_unit 5 0 0 (olt_at 100 free_channels) (unit 1 1 1)).handed.passage.mac ≡ 1
  pub unit_mac : (receive_unit (upward 1) (olt_at 100 free_channels) (unit 1 1 1)).handed.mac ≡ 2
  -- clear envelopes are accepted while C is 0, whatever A is (01, Keys), else 11
  pub clear : verdict_number (unit_receive_verdict (olt_at 100 free_channels) (unit 0 1 1) (upward 0)) ≡ 0
  pub late : verdict_number (unit_receive_verdict (olt_at 100 free_channels) (unit 1 1 1) (upward 0)) ≡ 11

pub olt_rows : OltRows
unfolding pick both either refuse_if on_zero free_from taken occupied with_keys with_timer timer_advanced timer_fallen aged outcome
    choice_number choice_verdict choice_aged choice_enciphered passage_of sending_of unit_advanced clock_send_verdict switches
    unit_send_choice unit_send_verdict
    keys_switched keys_after_send send_unit unit_receive_choice unit_receive_verdict receive_unit
olt_rows = search

---- the ONU

-- a synced unit at a tick, with LocalTime 0; travel, counted from 2^61 below zero, passes the end of its enciphered sends at tick 20, and of
-- those made before the last change at tick 10
abbrev onu_at : ℕ → OnuKeys → Onu
onu_at tick keys =
    record {
      identity = identity;
      oltmac = 1;
      tick = tick;
      clock = record { synced = 1; time = 0; rx = 0 };
      keys = keys;
      first = noted_at 0;
      travel = record { changes = 0; spent = 2 ^ 61 + 20; bar = 2 ^ 61 + 10 };
      channels = free_channels;
    }

-- before key 1; with key 1 in use, and key 2 held or not
abbrev before : OnuKeys
before = record { active = 0; held = 0; slots = no_slots }

abbrev holding : ℕ → OnuKeys
holding held = record { active = 1; held = held; slots = two_keys }

-- the code of a key message
abbrev key_code : OnuKeys → ℕ → List ℕ → ℕ
key_code keys number key = verdict_number (key_message_verdict (onu_at 0 keys) (record { llid = 5; number = number; key = key }))

pub record OnuRows : Type 0 where
  -- the message of the key that is held again, and number a with its own key; anything else is 8 (01, Keys: ONU)
  pub held : key_code (holding 1) 2 (key_of 2) ≡ 0
  pub held_other : key_code (holding 1) 2 (key_of 3) ≡ 8
  pub active : key_code (holding 0) 1 (key_of 1) ≡ 0
  pub active_other : key_code (holding 0) 1 (key_of 3) ≡ 8
  -- before key 1 no number is in use: 0 is 8
  pub zero : key_code before 0 no_key ≡ 8
  pub one : key_code before 1 (key_of 1) ≡ 0
  -- after a further change enciphered sends wait until the Tx clock has passed the end of each one made before it (02, C-16)
  pub waiting : waits (onu_retimed (onu_at 19 (holding 0)) 0) ≡ true
  pub passed : waits (onu_retimed (onu_at 20 (holding 0)) 0) ≡ false

pub onu_rows : OnuRows
unfolding pick both either same refuse_if among llids_of has key_in with_onu_clock with_travel shift_of travel_of travel_changed waits time_ahead
    changes_after onu_retimed new_key held_key active_key key_message_verdict
onu_rows = search

---- fresh ends

pub record FreshRows : Type 0 where
  -- a fresh end is valid, so not 1, and its channels are free from its first call on (01, What a reviewer will try: 1)
  pub olt : (advance_olt_of (new_olt 1 0) 7).number ≡ 0
  pub onu : verdict_number (sending_onu (new_onu identity 1 0) false 5 0x80 0).verdict ≡ 0

pub fresh_rows : FreshRows
unfolding pick both either all refuse_if among distinct llids_of has kept valid_mac valid_identity table_llids shift_of valid_changes travel_of waits
    valid_channels free_from taken on_zero upstream new_olt new_onu valid_shared valid_olt valid_onu_keys valid_onu_clock valid_onu reply advance_verdict
    olt_answer advancing_olt advance_olt_of onu_reply choice_enciphered choice_aged onu_send_choice busy_up onu_send_verdict sending_onu
fresh_rows = search
