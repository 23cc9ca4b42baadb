-- Laws of travel and of the sum of changes. Assumes nothing.
use Rattle.std.proofs.Common.{◌≡◌, ℕ, ◌+◌, ◌-◌, ◌*◌, ◌%◌, ◌<◌, ◌≤◌, true, refl, arith, leb-true}
use Rattle.clock.specs.Ticks.{max_tick}
use Rattle.ends.specs.Limits.{max_changes}
use Rattle.ends.specs.Travels.{word_turn, shift_of, valid_changes, travel_of}
use Rattle.ends.specs.declared.Onu.{Onu}

pub shift_in_range : (changes : ℕ) → valid_changes changes ≡ true → shift_of changes ≤ 2 * max_changes
unfolding valid_changes
shift_in_range changes e = leb-true _ _ e

-- a fresh unit's
pub no_changes_valid : valid_changes 0 ≡ true
unfolding valid_changes shift_of
no_changes_valid = refl

-- a change ahead
pub shift_ahead : (changes n : ℕ) → shift_of changes + n < word_turn → shift_of ((changes + n) % word_turn) ≡ shift_of changes + n
unfolding shift_of
shift_ahead changes n h = omega arith

-- a change back, as far as the sum reaches
pub shift_back : (changes n : ℕ) → n ≤ shift_of changes → shift_of ((changes + (word_turn - n)) % word_turn) + n ≡ shift_of changes
unfolding shift_of
shift_back changes n h = omega arith

-- a change back that goes past the least
pub shift_past : (changes n : ℕ) → shift_of changes < n → n ≤ word_turn
    → shift_of ((changes + (word_turn - n)) % word_turn) + n ≡ shift_of changes + word_turn
unfolding shift_of
shift_past changes n h l = omega arith

-- the travel of a valid unit is far from its end
pub travel_bounded : (o : Onu) → o.tick ≤ max_tick → valid_changes o.travel.changes ≡ true → travel_of o ≤ max_tick + 2 * max_changes
unfolding travel_of
travel_bounded o h e = omega (arith, shift_in_range o.travel.changes e)
