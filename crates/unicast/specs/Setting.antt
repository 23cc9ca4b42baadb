-- What a list of calls starts from: the OLT's MAC and first clock, and each fresh unit with its first delays (01, The line; 02, C-16).
-- Assumes nothing.
use Rattle.std.specs.Prelude.{List, ℕ, ◌+◌, ◌%◌}
use Rattle.clock.specs.Ticks.{clock_turn}
use Rattle.ends.specs.declared.Identity.{Identity}

-- a unit's delays in ticks, constant between changes of its path (02, C-16)
pub record Delays : Type 0 where
  pub up : ℕ
  pub down : ℕ

-- a fresh unit: what it is given, and its first delays
pub record Site : Type 0 where
  pub identity : Identity
  pub oltmac : ℕ
  pub time : ℕ
  pub up : ℕ
  pub down : ℕ

pub record Setting : Type 0 where
  pub mac : ℕ
  pub first : ℕ
  pub sites : List Site

-- the clock of the OLT's sends at a tick
abbrev pub clock_down : ℕ → ℕ → ℕ
clock_down first tick = (first + tick) % clock_turn

-- the clock of a unit's sends at a tick, its delay up at that tick included
abbrev pub clock_up : ℕ → ℕ → ℕ → ℕ
clock_up first up tick = (first + tick + up) % clock_turn
