-- `unit::timing::timer_advanced` meets its contract: the sum stays below 2^63, and the interval is not 0. Assumes nothing.
use Rattle.std.proofs.Common.{◌≡◌, ◌+◌, mod-eq_of_lt, arith}
use borrow.Author.Tests.{lt-leb}
use Rattle.octets.specs.Choice.{pick}
use Rattle.ends.specs.Timers.{timer_advanced}
use Rattle.unit.proofs.Timed.{timed}
use Rattle.unit.proofs.timing.timer_advanced.Goals as goal

pub returns : goal.returns
unfolding timer_advanced pick
returns c =
    λ v h.
    let sum : c.wrapping_add_u64-sum.result ≡ c.args.timer.count + c.args.n = omega (arith, timed _ v, h, c.wrapping_add_u64-sum.ensures.value) in
    rw (← sum, lt-leb _ _ c.if-timer-sum.false, mod-eq_of_lt c.if-timer-sum.false)
