-- `recordings::partners::Held::count_alone` meets its contract. The loop's invariant: the sum over the records before i. Assumes nothing.
use mathlib.Core.Path.{sym, ◌∙◌}
use Prim.Native.Nat.{ℕ}
use native.Mathlib.Nat.{add-zero}
use native.Mathlib.Omega.{arith}
use Rattle.octets.proofs.Choice.{pick_true, pick_false}
use Rattle.octets.proofs.Lists.{sum_more}
use Rattle.octets.specs.Choice.{both}
use Rattle.recordings.specs.Comparing.{alone_at}
use Rattle.recordings.proofs.partners.Held.count_alone.Goals as goal
use Rattle.recordings.proofs.partners.Held.count_alone.Goals.{then-is_alone-header_at, else-is_alone-header_at}

pub loop-i-preserved : goal.loop-i-preserved
unfolding both
loop-i-preserved c =
    let held = c.args.self.now in
    let v = c.loop-i.invariant in
    let more = sum_more (alone_at c.args.llid held.block.now held.other.now) c.loop-i.i in
    elim c.if-is_alone-header_at.branch [
      | then-is_alone-header_at w ↦ let e = pick_true {A = ℕ} 1 0 (rw (c.is_alone.ensures, c.header_at.ensures.value) at w.if-is_alone-header_at.true) in
          (omega (arith, w.total-is), w.total-is ∙ sym (more ∙ rw (e, ← v.1)))
      | else-is_alone-header_at w ↦ let e = pick_false {A = ℕ} 1 0 (rw (c.is_alone.ensures, c.header_at.ensures.value) at w.if-is_alone-header_at.false) in
          (omega (arith, w.total-is), w.total-is ∙ v.1 ∙ sym (more ∙ rw (e, add-zero)))
    ]
