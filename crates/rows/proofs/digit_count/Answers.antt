-- `rows::digit_count` meets its contract. The loop's invariant: the digits counted and those of the rest are all. Assumes nothing.
use Rattle.std.proofs.Common.{◌≡◌, suc, ◌+◌, ◌-◌, ◌/◌, arith}
use Rattle.rows.specs.Text.{most_digits, digits_within}
use Rattle.rows.proofs.Lines.{more_digits, one_digit_only, last_digit}
use Rattle.rows.proofs.digit_count.Goals as goal

pub returns-then-rest-lt10 : goal.returns-then-rest-lt10
returns-then-rest-lt10 c =
    let v = c.loop-count in
    omega (arith, one_digit_only (most_digits - v.count) v.rest c.if-rest-lt10.true)

pub loop-count-preserved : goal.loop-count-preserved
loop-count-preserved c =
    let v = c.loop-count in
    let e : most_digits - v.count ≡ suc (most_digits - (v.count + 1)) = omega arith in
    let more : digits_within (suc (most_digits - v.count)) v.rest ≡ suc (digits_within (suc (most_digits - (v.count + 1))) (v.rest / 10)) =
    rw e (more_digits _ v.rest c.if-rest-lt10.false) in
    omega (arith, more)

pub returns : goal.returns
returns c =
    let v = c.loop-count in
    let e : most_digits - v.count ≡ 0 = omega arith in
    omega (arith, rw e at v.invariant, last_digit v.rest)
