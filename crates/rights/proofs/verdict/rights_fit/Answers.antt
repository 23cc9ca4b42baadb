-- `rights::verdict::rights_fit` meets its contract: the test of each octet is that of the definition. Assumes nothing.
use Rattle.std.proofs.Common.{◌∙◌, rules}
use Rattle.std.proofs.lemmas.Iterator.{YieldsList-from_slice}
use Rattle.std.proofs.lemmas.Iterator.Search.{all_from_yields_List}
use borrow.Author.Tests.{tests}
use Rattle.octets.proofs.Chains.{all_of_list}
use Rattle.rights.specs.Rights.{rights_fit}
use Rattle.rights.proofs.verdict.rights_fit.Goals as goal

pub returns : goal.returns
unfolding rights_fit
returns c =
    all_from_yields_List rights_fit _ _ c.all.result c.all.ensures.ran (YieldsList-from_slice c.args.rights.now cc)
    (λ x b q k. search (rules, tests)) ∙ all_of_list rights_fit c.args.rights.now
