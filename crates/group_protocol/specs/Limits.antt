-- The limits of 02, C-14. Assumes nothing.
use Rattle.std.specs.Prelude.{ℕ}

-- members of a group
abbrev pub max_members : ℕ
max_members = 8

-- groups that a unit joins
abbrev pub max_joined : ℕ
max_joined = 4
