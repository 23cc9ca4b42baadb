-- `fits_before` meets its contract: the chain asks each of the other groups for the LLID. Assumes nothing.
use Rattle.std.proofs.Common.{rules, ◌≡◌, ◌∙◌}
use Rattle.std.proofs.lemmas.Iterator.{YieldsList-from_slice}
use Rattle.std.proofs.lemmas.Iterator.Search.{any_from_yields_List}
use borrow.Author.Tests.{tests}
use Rattle.octets.specs.Choice.{both}
use Rattle.ends.specs.Identities.{among, has}
use Rattle.group_protocol.specs.Subscriber.{fits_before, joined_llids}
use Rattle.groups.proofs.Walks.{joined_listed}
use Rattle.groups.proofs.check_subscriber.fits_before.Goals as goal

pub returns : goal.returns
unfolding fits_before has both
returns c =
    let a = c.args in
    let again : c.any-again.result ≡ among a.joined.llid (joined_llids a.others.now) =
    any_from_yields_List _ _ _ _ c.any-again.ensures.ran (YieldsList-from_slice a.others.now (cc)) (λ x b q k. search (rules, tests))
    ∙ joined_listed a.joined.llid a.others.now in
    rw (again, c.has-own.ensures, c.valid_joined-valid.ensures)
