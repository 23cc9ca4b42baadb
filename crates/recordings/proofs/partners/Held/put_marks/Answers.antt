-- `recordings::partners::Held::put_marks` meets its contract. The loop's invariant: the output has the entries of the records before i, and
-- behind them stays as it was. Assumes nothing.
use Prim.Native.Nat.{◌<◌}
use native.Mathlib.Omega.{arith}
use lib.ListN.{length}
use Rattle.directory.proofs.Filling.{fill_more}
use Rattle.recordings.specs.Comparing.{mark_of}
use Rattle.recordings.proofs.partners.Held.put_marks.Goals as goal

pub loop-i-preserved : goal.loop-i-preserved
loop-i-preserved c =
    let within : c.loop-i.i < length c.args.output.now = omega (arith, c.args.self.now.few, c.count-i-end.ensures, c.requires) in
    rw (c.from.ensures, c.mark.ensures, c.loop-i.invariant) (fill_more (mark_of _ _) c.args.output.now c.loop-i.i within)
