-- The key timer of a unit (01, Keys: Timer). Assumes nothing.
use Rattle.std.specs.Prelude.{ℕ, ◌+◌, ◌%◌, Bool, nat_le, nat_lt}
use Rattle.octets.specs.Choice.{both, pick}
use Rattle.ends.specs.Limits.{max_interval}
use Rattle.ends.specs.declared.Timer.{Timer}

unfoldable pub fresh_timer : ℕ → Timer
fresh_timer interval = record { interval = interval; count = 0; flag = 0 }

-- the flag rises where the count reaches the interval, and stays up
unfoldable pub timer_advanced : Timer → ℕ → Timer
timer_advanced t n =
    record {
      interval = t.interval;
      count = (t.count + n) % t.interval;
      flag = pick (nat_le t.interval (t.count + n)) 1 t.flag;
    }

-- the flag falls; the count goes on (D23)
unfoldable pub timer_fallen : Timer → Timer
timer_fallen t = record { interval = t.interval; count = t.count; flag = 0 }

unfoldable pub valid_interval : ℕ → Bool
valid_interval interval = both (nat_le 1 interval) (nat_le interval max_interval)

unfoldable pub valid_timer : Timer → Bool
valid_timer t = both (valid_interval t.interval) (both (nat_lt t.count t.interval) (nat_le t.flag 1))
