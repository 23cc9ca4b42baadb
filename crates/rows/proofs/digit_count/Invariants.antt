-- `rows::digit_count` meets its contract. The loop's invariant: the digits counted and those of the rest are all. Assumes nothing.
use Rattle.std.proofs.Common.{◌≡◌, suc, ◌+◌, ◌-◌}
use Rattle.rows.specs.Text.{most_digits, digits_within, digit_count}
use Rattle.rows.proofs.digit_count.Given as goal

abbrev pub invariant-loop-count : goal.invariant-loop-count
invariant-loop-count l = digit_count l.n + 1 ≡ l.count + digits_within (suc (most_digits - l.count)) l.rest
