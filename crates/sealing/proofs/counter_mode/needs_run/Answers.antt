-- `sealing::counter_mode::needs_run` meets its contract: a control octet below FF hex leaves a data octet, and so does either of two. Assumes nothing.
use mathlib.Core.Path.{sym}
use Prim.Native.Nat.{◌+◌, ◌*◌}
use native.Mathlib.Omega.{arith}
use Rattle.sealing.proofs.Runs.{needs_one, needs_two}
use Rattle.sealing.proofs.counter_mode.needs_run.Goals as goal

pub returns-then-other-payload : goal.returns-then-other-payload
returns-then-other-payload c =
    let a = c.args in
    let octet = c.type_inv.payload in
    sym (needs_two a.payload.now a.i (omega arith) (omega (arith, octet (18 * a.i))) (omega (arith, octet (18 * a.i + 9))))

pub returns : goal.returns
returns c =
    let a = c.args in
    sym (needs_one a.payload.now a.i (omega arith) (omega (arith, c.type_inv.payload (18 * a.i))))
