-- The flags of the records: 0 or 1 (01, Keys). Assumes nothing.
use Rattle.std.specs.Prelude.{ℕ, Bool, ◌==◌}

-- a flag is up
abbrev pub is_up : ℕ → Bool
is_up flag = flag == 1
