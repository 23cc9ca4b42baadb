-- `recordings::partners::Held::put_alones` meets its contract. The loop's invariant: the entries of the records before j that are alone
-- stand behind the first `at` octets. Assumes nothing.
use mathlib.Core.Path.{ap, sym, ◌∙◌}
use mathlib.Core.List.{[], ◌∷◌, append_assoc}
use Prim.Native.Nat.{◌<◌}
use native.Mathlib.Omega.{arith}
use lib.ListN.{length, take, length-set, length-append}
use Rattle.recordings.specs.Comparing.{alone_mark, alone_marks}
use Rattle.recordings.proofs.Entries.{alone_here, alone_left, put_one, stays_behind}
use Rattle.recordings.proofs.partners.Held.put_alones.Goals as goal
use Rattle.recordings.proofs.partners.Held.put_alones.Goals.{then-is_alone, else-is_alone}

pub loop-j-preserved : goal.loop-j-preserved
loop-j-preserved c =
    let held = c.args.self.now in
    let s = c.args.output.now in
    let v = c.loop-j.invariant in
    let o = c.loop-j.output in
    let j = c.loop-j.j in
    let end = c.loop-j.end in
    -- there is room for one entry more
    let room : end < length o = omega (arith, held.few, c.count-j-end.ensures, c.requires.0, c.requires.1, v.size, v.within) in
    elim c.if-is_alone.branch [
      | then-is_alone w ↦ let e = alone_here held.block.now held.other.now j (sym c.is_alone.ensures ∙ w.if-is_alone.true) in
          let n = ap length e ∙ length-append (alone_marks held.block.now held.other.now j) (alone_mark ∷ []) in
          rw (w.output-is, w.end-is, w.from.ensures) record {
            size = simp length-set v.size;
            within = omega (arith, v.within);
            end = omega (arith, v.end, n);
            front = rw e (put_one o _ end alone_mark room v.front ∙ append_assoc (take c.args.at s) (alone_marks held.block.now held.other.now j) _);
            rest = stays_behind o s end alone_mark v.rest;
          }
      | else-is_alone w ↦ let e = alone_left held.block.now held.other.now j (sym c.is_alone.ensures ∙ w.if-is_alone.false) in
          rw (w.output-is, w.end-is, e) record { size = v.size; within = omega (arith, v.within); end = v.end; front = v.front; rest = v.rest }
    ]
