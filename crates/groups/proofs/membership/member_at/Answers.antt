-- `groups::membership::member_at` meets its contract: the chain finds the first place in use that is the unit's. Assumes nothing.
use Rattle.std.proofs.Common.{rules, get_or}
use borrow.Author.Tests.{tests}
use Rattle.group_protocol.specs.Members.{member_at, places_of}
use Rattle.groups.proofs.Walks.{place_in_use}
use Rattle.groups.proofs.membership.member_at.Goals as goal

pub returns : goal.returns
unfolding member_at places_of
returns c =
    let m = c.args.members in
    place_in_use (λ k. get_or m.places k 0) m.count (cc) c.args.place c.position.ensures.ran (λ x b q k. search (rules, tests))
