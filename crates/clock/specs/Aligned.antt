-- What the stamps are raised for (01, Clock; 000, 11.7.4.1.3): a unit's Tx clock is the OLT's clock plus the delay up, its Rx
-- clock the OLT's less the delay down, modulo 2^48. Assumes nothing.
use Rattle.std.specs.Prelude.{◌≡◌, ℕ, ◌+◌, ◌%◌, ◌<◌}
use Rattle.clock.specs.Ticks.{clock_turn}
use Rattle.clock.specs.declared.Stamps.{Stamps}

-- a unit's clocks against the OLT's, counted without end
pub record Aligned (clock up down : ℕ) (s : Stamps) : Type 0 where
  pub tx : s.tx ≡ (clock + up) % clock_turn
  pub rx : (s.rx + down) % clock_turn ≡ clock % clock_turn
  pub below : s.rx < clock_turn
