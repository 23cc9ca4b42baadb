-- `groups::check_head::all_valid` meets its contract: the chain tests each group that is in use. Assumes nothing.
use Rattle.std.proofs.Common.{rules, take, ◌∙◌}
use Rattle.std.proofs.lemmas.Iterator.{YieldsList-from_slice}
use Rattle.std.proofs.lemmas.Iterator.Search.{all_from_yields_List}
use borrow.Author.Tests.{tests}
use Rattle.octets.proofs.Chains.{all_of_list}
use Rattle.groups.proofs.check_head.all_valid.Goals as goal

pub returns : goal.returns
returns c =
    let used = take c.args.count c.args.table in
    all_from_yields_List _ _ _ _ c.all.ensures.ran (YieldsList-from_slice used (cc)) (λ x b q k. search (rules, tests)) ∙ all_of_list _ used
