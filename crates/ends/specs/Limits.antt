-- The limits of 01 that the ends keep to; those of the clock are in crate clock. Assumes nothing.
use Rattle.std.specs.Prelude.{ℕ, ◌+◌, ◌-◌, ◌*◌, ◌^◌}
use Rattle.octets.specs.Eqs.{max_eqs}
use Rattle.clock.specs.Ticks.{max_tick}

-- a MAC is below this
abbrev pub mac_turn : ℕ
mac_turn = 2 ^ 48

-- LLIDs of a unit
abbrev pub max_llids : ℕ
max_llids = 4

-- units of an OLT
abbrev pub max_units : ℕ
max_units = 16

-- LLIDs of a full table
abbrev pub max_table_llids : ℕ
max_table_llids = max_units * max_llids

-- ticks of a timer's interval
abbrev pub max_interval : ℕ
max_interval = 2 ^ 47

abbrev pub max_key_number : ℕ
max_key_number = 2 ^ 32 - 1

-- a change of a unit's LocalTime, either way (02, C-16)
abbrev pub max_time_change : ℕ
max_time_change = 1000000

-- what the changes of a unit's LocalTime add up to, either way (02, C-16)
abbrev pub max_changes : ℕ
max_changes = 2 ^ 61

-- the latest tick from which a channel can be free: that of a longest payload at the last tick (D4)
abbrev pub max_free : ℕ
max_free = max_tick + (max_eqs + 1)
