-- `groups::membership::places_below` meets its contract: the chain tests each place that is in use. Assumes nothing.
use Rattle.std.proofs.Common.{rules, get_or, ltb}
use borrow.Author.Tests.{tests}
use Rattle.group_protocol.specs.Members.{places_of}
use Rattle.groups.proofs.Walks.{all_in_use}
use Rattle.groups.proofs.membership.places_below.Goals as goal

pub returns : goal.returns
unfolding places_of
returns c =
    let m = c.args.members in
    all_in_use (λ k. get_or m.places k 0) m.count (cc) (λ place. ltb place c.args.units) c.all.ensures.ran (λ x b q k. search (rules, tests))
