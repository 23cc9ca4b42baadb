-- `sameness::payloads::is_same_eq` meets its contract. Assumes nothing.
use Rattle.std.proofs.Common.{eqb, ◌∙◌, arith, rules}
use Rattle.std.proofs.lemmas.Iterator.{YieldsList-from_range}
use Rattle.std.proofs.lemmas.Iterator.Search.{all_from_yields_List}
use borrow.Author.Tests.{tests}
use Rattle.envelope.specs.ControlMask.{data_octet}
use Rattle.sameness.specs.Sameness.{data_octets, same_eq}
use Rattle.octets.proofs.Chains.{each_of_range}
use Rattle.sameness.proofs.payloads.is_same_eq.Goals as goal

pub returns : goal.returns
unfolding same_eq
returns c =
    all_from_yields_List (λ j. eqb (data_octet c.args.p.now c.args.e j) (data_octet c.args.q.now c.args.e j)) _ _ _ c.all.ensures.ran
    (YieldsList-from_range 0 data_octets data_octets (cc) (omega arith)) (λ x b q k. search (rules, tests))
    ∙ each_of_range _ _ _
