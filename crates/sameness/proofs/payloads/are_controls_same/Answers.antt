-- `sameness::payloads::are_controls_same` meets its contract. Assumes nothing.
use Rattle.std.proofs.Common.{◌∙◌, arith, rules}
use Rattle.std.proofs.lemmas.Iterator.{YieldsList-from_range}
use Rattle.std.proofs.lemmas.Iterator.Search.{all_from_yields_List}
use borrow.Author.Tests.{tests}
use Rattle.sameness.specs.Sameness.{same_control}
use Rattle.octets.proofs.Chains.{each_of_range}
use Rattle.sameness.proofs.payloads.are_controls_same.Goals as goal

pub returns : goal.returns
returns c =
    all_from_yields_List (same_control c.args.p.now c.args.q.now) _ _ _ c.all.ensures.ran (YieldsList-from_range 0 c.args.eqs c.args.eqs (cc) (omega arith))
    (λ x b q k. search (rules, tests))
    ∙ each_of_range _ _ _
