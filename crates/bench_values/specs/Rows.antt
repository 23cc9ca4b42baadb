-- The bench values of 01, one row each, in the paper's order. Assumes nothing.
use Rattle.std.specs.Prelude.{◌≡◌, false, [], ◌∷◌, ℕ, ◌+◌, ◌-◌, ◌^◌, ◌<◌, replicate}
use Rattle.std.specs.Int.Bits.{bit_xor}
use Rattle.envelope.specs.CounterBlock.{counter_block}
use Rattle.envelope.specs.ControlMask.{masked, count_enciphered}
use Rattle.clock.specs.Stamping.{captured_at, raised_to}
use Rattle.refusal.specs.Number.{verdict_number}
use Rattle.ends.specs.Identities.{no_identity}
use Rattle.ends.specs.Keys.{no_slots, noted_at}
use Rattle.ends.specs.Limits.{max_llids, max_changes}
use Rattle.ends.specs.Occupancy.{occupied, free_channels}
use Rattle.ends.specs.Records.{fresh_unit, with_keys, with_clock}
use Rattle.ends.specs.Timers.{timer_advanced, fresh_timer}
use Rattle.ends.specs.Travels.{no_travel}
use Rattle.protocol.specs.UnitTraffic.{unit_send_verdict}
use Rattle.protocol.specs.OnuTraffic.{onu_send_verdict}
use Rattle.ends.specs.declared.Channels.{Channels}
use Rattle.ends.specs.declared.Onu.{Onu}
use Rattle.ends.specs.declared.Timer.{Timer}
use Rattle.ends.specs.declared.UnitRecord.{UnitRecord}

-- the timer of P5 to P7
abbrev pub timer : ℕ → ℕ → Timer
timer count flag = record { interval = 10; count = count; flag = flag }

-- the first use of a key in P10 and P11
abbrev pub first_use : ℕ
first_use = 100

-- an OLT's unit and an ONU, with key 1 in use since then and their clocks set; the ONU's one LLID is 0, and its travel is ticks, counted
-- from 2^61 below zero (02, C-16)
abbrev pub unit_in_use : UnitRecord
unit_in_use =
    with_clock
    (with_keys (fresh_unit no_identity 0 1)
    (record { timer = fresh_timer 1; active = 1; offered = 1; slots = no_slots; first = noted_at first_use }))
    (record { trip = 0; captured = 1; tick = 0; sent = 1; acknowledged = 1 })

abbrev pub onu_in_use : ℕ → Channels → Onu
onu_in_use tick channels =
    record {
      identity = record { mac = 0; llids = replicate max_llids 0; count = 1 };
      oltmac = 0;
      tick = tick;
      clock = record { synced = 1; time = 0; rx = 0 };
      keys = record { active = 1; held = 0; slots = no_slots };
      first = noted_at (max_changes + first_use);
      travel = no_travel;
      channels = channels;
    }

-- the code of a send on channel 0 at a tick, at the OLT and at the ONU
abbrev pub olt_send : ℕ → Channels → ℕ
olt_send tick channels = verdict_number (unit_send_verdict (record { mac = 0; tick = tick; clock = 0; channels = channels }) unit_in_use 0)

abbrev pub onu_send : ℕ → Channels → ℕ
onu_send tick channels = verdict_number (onu_send_verdict (onu_in_use tick channels) false 0 0x80)

-- the channels after a header at 50 with 4 EQs, of the OLT and of the ONU
abbrev pub after_olt : Channels
after_olt = occupied free_channels 0x00 50 4

abbrev pub after_onu : Channels
after_onu = occupied free_channels 0x80 50 4

pub record Rows : Type 0 where
  -- index 80 hex, MAC 02-00-00-00-00-01, clock 41 hex, block 2
  pub p1 : counter_block (record { channel = 0x80; mac = 0x0200_0000_0001; clock = 0x41 }) 2
      ≡ 0x80 ∷ 0x02 ∷ 0 ∷ 0 ∷ 0 ∷ 0 ∷ 0x01 ∷ 0 ∷ 0 ∷ 0 ∷ 0 ∷ 0 ∷ 0x41 ∷ 0 ∷ 0 ∷ 2 ∷ []
  -- Rx FFFFFFFFFFF0, round trip 32
  pub p2 : captured_at 0xffff_ffff_fff0 32 ≡ record { rx = 0xffff_ffff_fff0; tx = 0x10 }
  -- LocalTime 15 hex
  pub p3 : raised_to 0x15 (record { rx = 0xffff_ffff_fff0; tx = 0x10 }) ≡ record { rx = 0xffff_ffff_fff5; tx = 0x15 }
  -- Tx 0000FFFFFFFF, LocalTime 1
  pub p4 : (raised_to 1 (record { rx = 0; tx = 0xffff_ffff })).tx ≡ 0x1_0000_0001
  -- I = 10, count 7: advance 3, 2 and 25
  pub p5 : timer_advanced (timer 7 0) 3 ≡ timer 0 1
  pub p6 : timer_advanced (timer 7 0) 2 ≡ timer 9 0
  pub p7 : timer_advanced (timer 7 0) 25 ≡ timer 2 1
  -- header at 50 with 4 EQs: 54 and 55
  pub p8 : olt_send 54 after_olt ≡ 12
  pub p8_onu : onu_send 54 after_onu ≡ 12
  pub p9 : olt_send 55 after_olt ≡ 0
  pub p9_onu : onu_send 55 after_onu ≡ 0
  -- first use at 100
  pub p10 : olt_send (first_use + 2 ^ 48 - 1) free_channels ≡ 0
  pub p10_onu : onu_send (first_use + 2 ^ 48 - 1) free_channels ≡ 0
  pub p11 : olt_send (first_use + 2 ^ 48) free_channels ≡ 13
  pub p11_onu : onu_send (first_use + 2 ^ 48) free_channels ≡ 13
  -- control 81 hex: octets 1 to 6 are XORed, count 6
  pub p12_first : (k x : ℕ) → masked 0x81 0 k x ≡ x
  pub p12_data : (j k x : ℕ) → 0 < j → j < 7 → masked 0x81 j k x ≡ bit_xor x k
  pub p12_last : (k x : ℕ) → masked 0x81 7 k x ≡ x
  pub p12_count : count_enciphered (0x81 ∷ 0 ∷ 0 ∷ 0 ∷ 0 ∷ 0 ∷ 0 ∷ 0 ∷ 0 ∷ []) ≡ 6
