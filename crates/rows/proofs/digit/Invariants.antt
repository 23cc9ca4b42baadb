-- `rows::digit` meets its contract. The loop's invariant: so many digits are gone from the number's end. Assumes nothing.
use Rattle.std.proofs.Common.{◌≡◌, ◌/◌, ◌^◌}
use Rattle.rows.proofs.digit.Given as goal

abbrev pub invariant-loop : goal.invariant-loop
invariant-loop l = l.rest ≡ l.n / l.base ^ l.counter
