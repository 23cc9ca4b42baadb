-- Laws of the cipher clock. Assumes nothing.
use Rattle.std.proofs.Common.{◌≡◌, ℕ, ◌+◌, ◌-◌, ◌%◌, ◌<◌, ◌≤◌, mod-lt, arith}
use native.Mathlib.Nat.{mod-add-mod}
use Rattle.clock.specs.Ticks.{clock_turn, key_life, advanced, rewound, local_advanced}

pub advanced_below : (clock n : ℕ) → advanced clock n < clock_turn
advanced_below clock n = mod-lt (clock + n) (omega arith)

-- a clock that was reduced goes on as if it had not been
pub advanced_mod : (clock n : ℕ) → advanced (clock % clock_turn) n ≡ advanced clock n
advanced_mod clock n = mod-add-mod clock clock_turn n

-- m ticks and then n are m + n
pub advanced_sum : (clock m n : ℕ) → advanced (advanced clock m) n ≡ advanced clock (m + n)
advanced_sum clock m n = omega arith

pub local_advanced_sum : (time m n : ℕ) → local_advanced (local_advanced time m) n ≡ local_advanced time (m + n)
local_advanced_sum time m n = omega arith

-- a clock at tick `now`, taken back to tick `at`, is the clock of that tick
pub rewound_at : (first now at : ℕ) → at ≤ now → rewound ((first + now) % clock_turn) (now - at) ≡ (first + at) % clock_turn
rewound_at first now at h = omega arith

-- clocks of different ticks within a key's life differ
pub clocks_differ : (first from s t : ℕ) → from ≤ s → s < t → t < from + key_life → (first + s) % clock_turn ≡ (first + t) % clock_turn → ⊥
clocks_differ first from s t a b c e = omega arith
