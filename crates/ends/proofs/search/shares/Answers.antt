-- `ends::search::shares` meets its contract: one LLID after the other is looked for. Assumes nothing.
use Rattle.std.proofs.Common.{get_or, sym, ◌∙◌, arith, rules, tests}
use Rattle.std.proofs.lemmas.Iterator.{YieldsList-from_range}
use Rattle.std.proofs.lemmas.Iterator.Search.{any_from_yields_List}
use Rattle.ends.specs.Identities.{among, has, llids_of}
use Rattle.ends.proofs.Words.{any_tabulated, meets_any}
use Rattle.ends.proofs.search.shares.Goals as goal

pub returns : goal.returns
unfolding has llids_of
returns c =
    let a = c.args in
    any_from_yields_List (λ j. among (get_or a.a.llids j 0) (llids_of a.b)) _ _ _ c.any.ensures.ran
    (YieldsList-from_range 0 c.from.result a.a.count (cc) (omega arith)) (λ x b q k. search (rules, tests))
    ∙ sym (meets_any (llids_of a.a) (llids_of a.b) ∙ any_tabulated (λ x. among x (llids_of a.b)) _ 0 a.a.count)
