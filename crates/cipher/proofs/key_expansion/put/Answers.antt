-- `key_expansion::put` meets its contract. The loop keeps the array at its copy of the first j octets. Assumes nothing.
use native.Mathlib.Numerals.{add-one}
use native.Mathlib.Omega.{arith}
use lib.Seq.{paste-suc}
use Rattle.cipher.proofs.key_expansion.put.Goals as goal

pub loop-j-preserved : goal.loop-j-preserved
loop-j-preserved c =
    let l = c.loop-j in
    let a = c.args in
    (l.invariant.0, l.invariant.1, rw (l.invariant.2, add-one) (paste-suc a.w.now a.at a.k l.j 0 (omega arith) (omega arith)))
