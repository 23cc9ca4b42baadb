-- Laws of stamps. Assumes nothing.
use Rattle.std.proofs.Common.{◌≡◌, ℕ, ◌+◌, ◌%◌, ◌<◌, arith}
use Rattle.clock.specs.Ticks.{local_turn, local_of}
use Rattle.clock.specs.Stamping.{raise_of}

-- what a wrapping subtraction ensures is the raise
pub raise_is : (time tx r : ℕ) → r < local_turn → (r + local_of tx) % local_turn ≡ time → r ≡ raise_of time tx
unfolding raise_of
raise_is time tx r h e = omega arith

-- Tx and the raise meet LocalTime
pub raise_meets : (time tx : ℕ) → time < local_turn → local_of (tx + raise_of time tx) ≡ time
unfolding raise_of
raise_meets time tx h = omega arith

-- and no smaller number does
pub raise_least : (time tx k : ℕ) → k < raise_of time tx → local_of (tx + k) ≡ time → ⊥
unfolding raise_of
raise_least time tx k h e = omega arith
