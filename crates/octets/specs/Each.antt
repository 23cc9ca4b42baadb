-- A test of each of some numbers. Assumes nothing.
use Rattle.std.specs.Prelude.{Bool, true, ℕ, zero, suc}
use Rattle.octets.specs.Choice.{both}

-- the test holds of the n numbers from i on
unfoldable pub each : ℕ → ℕ → (ℕ → Bool) → Bool
each i zero p = true
each i (suc n) p = both (p i) (each (suc i) n p)
