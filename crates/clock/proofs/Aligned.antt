-- A message captured at most a second before it was sent aligns the unit's clocks, and they stay aligned. Assumes nothing.
use Rattle.std.proofs.Common.{◌≡◌, ℕ, ◌+◌, ◌≤◌, sym, arith}
use Rattle.clock.specs.Ticks.{ticks_per_second, advanced, local_of}
use Rattle.clock.specs.Stamping.{captured_at, raise_of, moved_by, raised_to}
use Rattle.clock.specs.Aligned.{Aligned}
use Rattle.clock.specs.declared.Stamps.{Stamps}

-- LocalTime and Tx differ by the time between capture and send
pub raise_lag : (clock lag up down : ℕ) → lag ≤ ticks_per_second
    → raise_of (local_of (clock + lag + down + up)) (advanced clock (up + down)) ≡ lag
unfolding raise_of
raise_lag clock lag up down h = omega arith

-- captured at `clock`, sent `lag` ticks later, arrived the delay down after that
pub raise_aligns : (clock lag up down trip : ℕ) → lag ≤ ticks_per_second → up + down ≡ trip
    → Aligned (clock + lag + down) up down (raised_to (local_of (clock + lag + down + up)) (captured_at clock trip))
unfolding raised_to moved_by captured_at
raise_aligns clock lag up down trip h e =
    let r : raise_of (local_of (clock + lag + down + up)) (advanced clock trip) ≡ lag = rw (sym e) (raise_lag clock lag up down h) in
    record { tx = omega arith; rx = omega arith; below = omega arith }

pub aligned_moved : (clock up down : ℕ) (s : Stamps) (n : ℕ) → Aligned clock up down s → Aligned (clock + n) up down (moved_by n s)
unfolding moved_by
aligned_moved clock up down s n a = record { tx = omega arith; rx = omega arith; below = omega arith }
