-- `octets::number` meets its contract: n is the number in the first i octets, which are fewer than eight. Assumes nothing.
use mathlib.Core.Path.{◌≡◌, ◌∙◌}
use Prim.Native.Nat.{◌+◌}
use native.Mathlib.Nat.{pow-suc, pow-le-pow_right, zero-lt-suc}
use native.Mathlib.Numerals.{add-one}
use native.Mathlib.Omega.{arith}
use lib.ListN.{get_or, drop}
use lib.Seq.{get_or-take, get_or-drop}
use Rattle.octets.specs.Lists.{part}
use Rattle.octets.proofs.number.Goals as goal

pub overflow_mul-n : goal.overflow_mul-n
overflow_mul-n g c = omega (arith, pow-le-pow_right {n = 256} (zero-lt-suc 255) {i = c.loop-i.i} {j = 7} (omega arith))

pub overflow_add-n : goal.overflow_add-n
overflow_add-n g c = omega (arith, pow-le-pow_right {n = 256} (zero-lt-suc 255) {i = c.loop-i.i} {j = 7} (omega arith))

pub loop-i-preserved : goal.loop-i-preserved
loop-i-preserved g c =
    let at : get_or (part c.args.s.now c.args.at g.row.K) c.loop-i.i 0 ≡ get_or c.args.s.now (c.args.at + c.loop-i.i) 0 =
    get_or-take g.row.K (drop c.args.at c.args.s.now) c.loop-i.i 0 c.loop-i-test.true ∙ get_or-drop c.args.at c.args.s.now c.loop-i.i 0 in
    let read : c.from.result ≡ get_or c.args.s.now (c.args.at + c.loop-i.i) 0 = cc in
    rw add-one (omega arith, omega (arith, pow-suc 256 c.loop-i.i))
