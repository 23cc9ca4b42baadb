-- `recordings::partners::match_up` meets its contract. The loop's invariant: the partners of the records of a before i are listed,
-- and each record of b has met its partner among them, if it is there. Assumes nothing.
use mathlib.Core.Path.{◌≡◌, ◌∙◌}
use mathlib.Core.Logic.{inr}
use Prim.Native.Nat.{◌-◌}
use native.Mathlib.Omega.{arith}
use lib.ListN.{length-set, length-replicate, get_or-replicate}
use Rattle.records.specs.Block.{most_records, records_in, record_of}
use Rattle.sameness.specs.Pairing.{partner_of}
use Rattle.recordings.proofs.Matching.{listed_more, met_past, met_more, met_all}
use Rattle.recordings.proofs.partners.match_up.Goals as goal
use Rattle.recordings.proofs.partners.match_up.Goals.{then-p-m, else-p-m}

pub loop-i-init : goal.loop-i-init
loop-i-init c =
    let few = c.requires.few_other in
    let n = c.count-n in record {
      listed = λ k h. absurd (omega arith);
      met = λ j h. inr (get_or-replicate most_records j n.result 0 (omega arith) ∙ n.ensures, λ k l. absurd (omega arith));
      first_size = length-replicate most_records c.count-m.result;
      second_size = length-replicate most_records n.result;
    }

pub loop-i-preserved : goal.loop-i-preserved
loop-i-preserved c =
    -- what was found is the partner
    let found : c.first_from-p.result ≡ partner_of (record_of c.args.a.now c.loop-i.i) c.args.b.now =
    let m = c.count-m in
    let z : m.result - 0 ≡ records_in c.args.b.now = omega (arith, m.ensures) in
    rw z at c.first_from-p.ensures in
    let m = c.count-m.ensures in
    let v = c.loop-i.invariant in
    let s = c.loop-i.second in
    let i = c.loop-i.i in
    let e = found in
    let few = c.requires.few in
    let few-other = c.requires.few_other in
    let once = c.requires.once_other in record {
      listed = listed_more c.loop-i.first _ _ i _ (omega (arith, c.count-n.ensures, v.first_size)) e v.listed;
      met = elim c.if-p-m.branch [
        | then-p-m w ↦ rw w.second-is
            (met_more _ _ i s _ once e (omega (arith, w.if-p-m.true, m)) (omega (arith, v.second_size)) v.met)
        | else-p-m w ↦ rw w.second-is
            (met_past _ _ i s once (omega (arith, w.if-p-m.false, m, e)) v.met)
      ];
      first_size = simp length-set v.first_size;
      second_size = elim c.if-p-m.branch [ then-p-m w ↦ rw w.second-is (simp length-set v.second_size) | else-p-m w ↦ rw w.second-is v.second_size ];
    }

pub invariant_of-result-2 : goal.invariant_of-result-2
invariant_of-result-2 c =
    let a = c.args.a.now in
    let i : c.loop-i.i ≡ records_in a = omega (arith, c.count-n.ensures) in
    record {
      few = c.requires.few_other;
      few_other = c.requires.few;
      listed = λ j h. met_all _ a _ c.requires.once (rw i at (c.loop-i.invariant.met j h));
    }
