-- `clock::raise` meets its contract: what the wrapping subtraction ensures makes it the raise, and the raise is where the loop stops. Assumes nothing.
use Rattle.std.proofs.Common.{◌≡◌, ◌<◌, rules}
use Rattle.clock.specs.Ticks.{local_turn}
use Rattle.clock.specs.Stamping.{raise_of}
use Rattle.clock.proofs.Stamping.{raise_is}
use Rattle.clock.proofs.Loop.{raise_stops}
use Rattle.clock.proofs.raise.Goals as goal

pub returns : goal.returns
returns c =
    let r = c.wrapping_sub_u32.result in
    let time = c.args.time in
    let s = c.args.stamps in
    let low : r < local_turn = search rules in
    let small : time < local_turn = search rules in
    let e : r ≡ raise_of time s.tx = raise_is time s.tx r low (rw c.local_of.ensures at c.wrapping_sub_u32.ensures.value) in
    record { value = e; stops = rw e (raise_stops time s small) }
