-- The two stamps of a clock message (01, Clock; 000, 11.7.4.1.3). Assumes nothing.
use Rattle.std.specs.Prelude.{ℕ, ◌+◌, ◌-◌, ◌%◌}
use Rattle.clock.specs.Ticks.{clock_turn, local_turn, advanced, local_of}
use Rattle.clock.specs.declared.Stamps.{Stamps}

-- captured at a clock, for a unit of that round trip: only Tx has the round trip added
unfoldable pub captured_at : ℕ → ℕ → Stamps
captured_at clock trip = record { rx = clock % clock_turn; tx = advanced clock trip }

-- the 32-bit difference LocalTime minus Tx
unfoldable pub raise_of : ℕ → ℕ → ℕ
raise_of time tx = (time + (local_turn - local_of tx)) % local_turn

-- both stamps, n ticks later
unfoldable pub moved_by : ℕ → Stamps → Stamps
moved_by n s = record { rx = advanced s.rx n; tx = advanced s.tx n }

-- the clocks that a unit with that LocalTime takes from the stamps
unfoldable pub raised_to : ℕ → Stamps → Stamps
raised_to time s = moved_by (raise_of time s.tx) s
