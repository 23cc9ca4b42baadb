-- `groups::membership::flags_in_range` meets its contract: the chain tests each mark that is in use. Assumes nothing.
use Rattle.std.proofs.Common.{rules, get_or, leb}
use borrow.Author.Tests.{tests}
use Rattle.group_protocol.specs.Members.{marks_of}
use Rattle.groups.proofs.Walks.{all_in_use}
use Rattle.groups.proofs.membership.flags_in_range.Goals as goal

pub returns : goal.returns
unfolding marks_of
returns c =
    let m = c.args.members in
    all_in_use (λ k. get_or m.marks k 0) m.count (cc) (λ mark. leb mark 1) c.all.ensures.ran (λ x b q k. search (rules, tests))
