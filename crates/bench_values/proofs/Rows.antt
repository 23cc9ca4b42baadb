-- The bench values hold: each row computes. Assumes nothing.
use mathlib.Core.Path.{◌≡◌, refl}
use Prim.Native.Nat.{ℕ, zero, suc, ◌<◌}
use native.Mathlib.Omega.{arith}
use lib.Bits.{bit_xor}
use lib.Count.{ones, ones_in}
use Rattle.octets.specs.Bits.{bit_of}
use Rattle.octets.specs.Choice.{both, either, pick}
use Rattle.envelope.specs.CounterBlock.{counter_block}
use Rattle.envelope.specs.ControlMask.{masked, count_enciphered}
use Rattle.clock.specs.Stamping.{captured_at, raise_of, moved_by, raised_to}
use Rattle.refusal.specs.Order.{refuse_if}
use Rattle.ends.specs.Identities.{among, llids_of, has}
use Rattle.ends.specs.Keys.{aged}
use Rattle.envelope.specs.Channels.{upstream, on_zero}
use Rattle.ends.specs.Occupancy.{free_from, occupied, taken}
use Rattle.ends.specs.Records.{fresh_unit, with_keys, with_clock}
use Rattle.ends.specs.Timers.{timer_advanced, fresh_timer}
use Rattle.ends.specs.Travels.{shift_of, travel_of, waits}
use Rattle.protocol.specs.Headers.{choice_enciphered, choice_aged}
use Rattle.protocol.specs.UnitTraffic.{switches, unit_send_choice, unit_send_verdict}
use Rattle.protocol.specs.OnuTraffic.{onu_send_choice, busy_up, onu_send_verdict}
use Rattle.bench_values.specs.Rows.{Rows}

xored : (j k x : ℕ) → 0 < j → j < 7 → masked 0x81 j k x ≡ bit_xor x k
unfolding masked bit_of pick
xored zero k x h l = absurd (omega arith)
xored (suc zero) k x h l = refl
xored (suc (suc zero)) k x h l = refl
xored (suc (suc (suc zero))) k x h l = refl
xored (suc (suc (suc (suc zero)))) k x h l = refl
xored (suc (suc (suc (suc (suc zero))))) k x h l = refl
xored (suc (suc (suc (suc (suc (suc zero)))))) k x h l = refl
xored (suc (suc (suc (suc (suc (suc (suc j))))))) k x h l = absurd (omega arith)

pub rows_hold : Rows
unfolding counter_block captured_at raise_of moved_by raised_to timer_advanced pick on_zero free_from occupied taken both either aged refuse_if
    fresh_unit with_keys with_clock fresh_timer choice_enciphered choice_aged switches unit_send_choice unit_send_verdict among llids_of has upstream shift_of
    travel_of waits onu_send_choice busy_up onu_send_verdict masked bit_of count_enciphered ones ones_in
rows_hold =
    record {
      p1 = refl;
      p2 = refl;
      p3 = refl;
      p4 = refl;
      p5 = refl;
      p6 = refl;
      p7 = refl;
      p8 = refl;
      p8_onu = refl;
      p9 = refl;
      p9_onu = refl;
      p10 = refl;
      p10_onu = refl;
      p11 = refl;
      p11_onu = refl;
      p12_first = λ k x. refl;
      p12_data = xored;
      p12_last = λ k x. refl;
      p12_count = refl;
    }
