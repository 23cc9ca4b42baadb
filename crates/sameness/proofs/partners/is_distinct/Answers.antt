-- `sameness::partners::is_distinct` meets its contract. Assumes nothing.
use Rattle.std.proofs.Common.{◌∙◌, ap, arith, rules}
use Rattle.std.proofs.lemmas.Iterator.{YieldsList-from_range}
use Rattle.std.proofs.lemmas.Iterator.Search.{all_from_yields_List}
use borrow.Author.Tests.{tests}
use Rattle.octets.specs.Each.{each}
use Rattle.sameness.specs.Pairing.{unlike_rest, distinct}
use Rattle.octets.proofs.Chains.{each_of_range}
use Rattle.sameness.proofs.Pairing.{unlike_tested}
use Rattle.sameness.proofs.partners.is_distinct.Goals as goal

pub returns : goal.returns
unfolding distinct
returns c =
    let b = c.args.block.now in
    let n = c.count-n.result in
    all_from_yields_List (unlike_rest b) _ _ _ c.all.ensures.ran (YieldsList-from_range 0 n n (cc) (omega arith))
    (λ x b q k. search (rules, tests, unlike_tested))
    ∙ each_of_range _ _ _
    ∙ ap (λ n. each 0 n (unlike_rest b)) c.count-n.ensures
