-- The loop by which the source raises the stamps (000, 11.7.4.1.3):
-- while the low 32 bits of Tx differ from LocalTime, both stamps are incremented. Assumes nothing.
use Rattle.std.specs.Prelude.{◌≡◌, ℕ, zero, suc, ◌<◌}
use Rattle.clock.specs.Ticks.{clock_turn, advanced, local_of}
use Rattle.clock.specs.declared.Stamps.{Stamps}

-- one turn: both stamps are incremented, and may wrap around
unfoldable pub turn : Stamps → Stamps
turn s = record { rx = advanced s.rx 1; tx = advanced s.tx 1 }

unfoldable pub turns : ℕ → Stamps → Stamps
turns zero s = s
turns (suc n) s = turn (turns n s)

-- the low 32 bits of Tx match LocalTime: the loop's condition does not hold
abbrev pub Matches : ℕ → Stamps → Type 0
Matches time s = local_of s.tx ≡ time

-- the loop stops after n turns, and not earlier
pub record Stops (time : ℕ) (s : Stamps) (n : ℕ) : Type 0 where
  pub matches : Matches time (turns n s)
  pub earlier : (k : ℕ) → k < n → Matches time (turns k s) → ⊥

-- r is what the loop leaves of stamps of 48 bits, wherever it stops
pub record Leaves (time : ℕ) (s r : Stamps) : Type 0 where
  pub left : (n : ℕ) → s.rx < clock_turn → s.tx < clock_turn → Stops time s n → turns n s ≡ r
