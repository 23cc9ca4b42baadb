-- The three timers of the OLT (003, 15.5.3.2). Assumes nothing.
use Rattle.std.specs.Prelude.{ℕ}
use Rattle.xgpon.specs.declared.timers.Timers.{Timers}
use Rattle.xgpon.specs.declared.timers.TimerStarts.{TimerStarts}

-- "The recommended initial value of TK1 is 100 ms", of TK2 10 ms, of TK3 10 ms
abbrev pub tk1_start_ms : ℕ
tk1_start_ms = 100

abbrev pub tk2_start_ms : ℕ
tk2_start_ms = 10

abbrev pub tk3_start_ms : ℕ
tk3_start_ms = 10

abbrev pub recommended_starts : TimerStarts
recommended_starts = record { tk1 = tk1_start_ms; tk2 = tk2_start_ms; tk3 = tk3_start_ms }

-- the sets of timers that answers name, and that run in a state
abbrev pub no_timer : Timers
no_timer = record { tk1 = 0; tk2 = 0; tk3 = 0 }

abbrev pub only_tk1 : Timers
only_tk1 = record { tk1 = 1; tk2 = 0; tk3 = 0 }

abbrev pub only_tk2 : Timers
only_tk2 = record { tk1 = 0; tk2 = 1; tk3 = 0 }

abbrev pub only_tk3 : Timers
only_tk3 = record { tk1 = 0; tk2 = 0; tk3 = 1 }

abbrev pub tk1_and_tk2 : Timers
tk1_and_tk2 = record { tk1 = 1; tk2 = 1; tk3 = 0 }

abbrev pub tk1_and_tk3 : Timers
tk1_and_tk3 = record { tk1 = 1; tk2 = 0; tk3 = 1 }
