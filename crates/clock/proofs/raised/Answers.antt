-- `clock::raised` meets its contract: both stamps are moved by the raise, and so they are by the loop. Assumes nothing.
use Rattle.std.proofs.Common.{◌≡◌, ◌<◌, rules}
use Rattle.clock.specs.Ticks.{local_turn}
use Rattle.clock.specs.Stamping.{raised_to}
use Rattle.clock.proofs.Loop.{loop_raises}
use Rattle.clock.proofs.raised.Goals as goal

pub returns : goal.returns
unfolding raised_to
returns c =
    let a = c.args in
    let small : a.time < local_turn = search rules in
    let e : c.moved.result ≡ raised_to a.time a.stamps = cc in
    record { value = e; left = rw e (loop_raises a.time a.stamps small) }
