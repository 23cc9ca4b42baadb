-- `envelope::count` meets its contract: the sum over the EQs counted. Assumes nothing.
use Prim.Native.Nat.{◌-◌, ◌/◌, ◌<◌}
use lib.ListN.{length}
use Rattle.octets.proofs.Lists.{sum_more, sum_below}
use Rattle.envelope.specs.ControlMask.{control_octet}
use Rattle.envelope.proofs.ControlMask.{control_of}
use lib.Count.{ones}
use native.Mathlib.Omega.{arith}
use Rattle.envelope.proofs.count.Goals as goal

pub overflow_add-sum : goal.overflow_add-sum
overflow_add-sum c =
    omega (arith, sum_below 0 c.loop-eq.eq-index 8 (λ i. 8 - ones (control_octet c.args.payload.now i)) (λ k. omega arith))

pub loop-eq-preserved : goal.loop-eq-preserved
loop-eq-preserved c =
    let p = c.args.payload.now in
    let e = c.loop-eq.eq-index in
    let within : e < length p / 9 = omega (arith, c.as_chunks.ensures.front_len) in
    rw (sum_more, c.loop-eq.invariant, c.ones_in.ensures.0, c.as_chunks.ensures.front, control_of (length p / 9) p e within)
