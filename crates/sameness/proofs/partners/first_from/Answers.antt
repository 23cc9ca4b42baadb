-- `sameness::partners::first_from` meets its contract. Assumes nothing.
use Rattle.std.proofs.Common.{◌∙◌, arith, rules, ◌-◌}
use Rattle.std.proofs.lemmas.Iterator.{YieldsList-from_range}
use Rattle.std.proofs.lemmas.Iterator.Search.{find_from_yields_List}
use borrow.Author.Tests.{tests}
use Rattle.records.specs.Block.{record_of}
use Rattle.sameness.specs.Pairing.{paired}
use Rattle.sameness.proofs.Chains.{first_is}
use Rattle.sameness.proofs.partners.first_from.Goals as goal

pub returns : goal.returns
unfolding paired
returns c =
    let a = c.args in
    let found =
    find_from_yields_List (λ j. paired (record_of a.a.now a.i) (record_of a.b.now j)) _ _ c.find.result c.find.ensures.ran
    (YieldsList-from_range a.from a.n (a.n - a.from) (cc) (omega arith)) (λ x b q k. search (rules, tests)) in
    c.unwrap_or.ensures ∙ first_is _ _ _ _ _ _ found (omega arith)
