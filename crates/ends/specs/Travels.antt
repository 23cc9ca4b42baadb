-- The travel of a unit's Tx clock: its ticks plus the signed changes of its LocalTime (02, C-16). The sum of the changes is kept modulo 2^64,
-- and travel is counted from 2^61 below zero, the least that the sum may be (D45). Assumes nothing.
use Rattle.std.specs.Prelude.{ℕ, ◌+◌, ◌*◌, ◌%◌, ◌^◌, max, Bool, nat_le, nat_lt}
use Rattle.ends.specs.Limits.{max_changes}
use Rattle.ends.specs.declared.Travel.{Travel}
use Rattle.ends.specs.declared.Onu.{Onu}

abbrev pub word_turn : ℕ
word_turn = 2 ^ 64

-- the sum of the changes, counted from its least
unfoldable pub shift_of : ℕ → ℕ
shift_of changes = (changes + max_changes) % word_turn

-- a sum within 2^61 either way
unfoldable pub valid_changes : ℕ → Bool
valid_changes changes = nat_le (shift_of changes) (2 * max_changes)

unfoldable pub travel_of : Onu → ℕ
travel_of o = o.tick + shift_of o.travel.changes

abbrev pub no_travel : Travel
no_travel = record { changes = 0; spent = 0; bar = 0 }

-- an enciphered send of so many EQs was made at that travel: it ends so many later, and travel has passed that once it is above
unfoldable pub travel_spent : Travel → ℕ → ℕ → Travel
travel_spent t now eqs = record { changes = t.changes; spent = max t.spent (now + eqs + 1); bar = t.bar }

-- LocalTime was changed: enciphered sends wait until travel has passed the end of each one made before
unfoldable pub travel_changed : Travel → ℕ → Travel
travel_changed t changes = record { changes = changes; spent = t.spent; bar = t.spent }

-- travel has not yet passed the end of each enciphered send made before the last change
unfoldable pub waits : Onu → Bool
waits o = nat_lt (travel_of o) o.travel.bar
