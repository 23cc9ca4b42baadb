-- Ticks and the cipher clock (01, Clock). Assumes nothing.
use Rattle.std.specs.Prelude.{ℕ, ◌+◌, ◌-◌, ◌%◌, ◌^◌}

-- one tick is 2.56 ns
abbrev pub ticks_per_second : ℕ
ticks_per_second = 390625000

-- the cipher clock is counted modulo this
abbrev pub clock_turn : ℕ
clock_turn = 2 ^ 48

-- LocalTime is counted modulo this
abbrev pub local_turn : ℕ
local_turn = 2 ^ 32

-- EPAM is counted modulo this
abbrev pub epam_turn : ℕ
epam_turn = 64

-- the highest tick that an end counts to
abbrev pub max_tick : ℕ
max_tick = 2 ^ 62

-- sends under a key stop this many ticks after its first
abbrev pub key_life : ℕ
key_life = 2 ^ 48

-- the longest round trip, in ticks
abbrev pub max_round_trip : ℕ
max_round_trip = 1000000

-- a clock, n ticks later
abbrev pub advanced : ℕ → ℕ → ℕ
advanced clock n = (clock + n) % clock_turn

-- a clock, n ticks earlier
abbrev pub rewound : ℕ → ℕ → ℕ
rewound clock n = (clock + (clock_turn - n % clock_turn)) % clock_turn

-- LocalTime, n ticks later
abbrev pub local_advanced : ℕ → ℕ → ℕ
local_advanced time n = (time + n) % local_turn

-- the LocalTime of a clock
abbrev pub local_of : ℕ → ℕ
local_of clock = clock % local_turn

-- the EPAM of a clock (01, Keys)
abbrev pub epam_of : ℕ → ℕ
epam_of clock = clock % epam_turn
