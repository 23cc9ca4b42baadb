-- `ends::in_use::distinct` meets its contract: none of the elements before j stands again, so that the others decide. Assumes nothing.
use Rattle.std.proofs.Common.{get_or, sym, ◌∙◌, arith}
use Rattle.ends.proofs.Counted.{distinct_by_hit, distinct_by_miss}
use Rattle.ends.proofs.in_use.distinct.Goals as goal

pub returns-then-has_from : goal.returns-then-has_from
returns-then-has_from g c =
    let a = c.args in
    sym (c.loop-j.invariant
    ∙ distinct_by_hit g.T.PartialEq.eq c.loop-j.j a.count (λ k. get_or a.row.now k a.none) (omega arith)
    (rw c.at.ensures at (sym c.has_from.ensures ∙ c.if-has_from.true)))

pub loop-j-preserved : goal.loop-j-preserved
loop-j-preserved g c =
    let a = c.args in
    c.loop-j.invariant
    ∙ distinct_by_miss g.T.PartialEq.eq c.loop-j.j a.count (λ k. get_or a.row.now k a.none) (omega arith)
    (rw c.at.ensures at (sym c.has_from.ensures ∙ c.if-has_from.false))
