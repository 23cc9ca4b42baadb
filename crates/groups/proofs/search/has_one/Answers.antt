-- `groups::search::has_one` meets its contract: the chain asks for each LLID. Assumes nothing.
use Rattle.std.proofs.Common.{rules, ◌∙◌}
use Rattle.std.proofs.lemmas.Iterator.{YieldsList-from_slice}
use Rattle.std.proofs.lemmas.Iterator.Search.{any_from_yields_List}
use borrow.Author.Tests.{tests}
use Rattle.ends.specs.Identities.{has}
use Rattle.groups.proofs.Walks.{meets_listed}
use Rattle.groups.proofs.search.has_one.Goals as goal

pub returns : goal.returns
unfolding has
returns c =
    any_from_yields_List _ _ _ _ c.any.ensures.ran (YieldsList-from_slice c.args.list.now (cc)) (λ x b q k. search (rules, tests))
    ∙ meets_listed c.args.list.now _
