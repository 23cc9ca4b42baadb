-- `rights::verdict::llids_differ` meets its contract: the test of each set is that of the definition. Assumes nothing.
use Rattle.std.proofs.Common.{refl, rules}
use borrow.Author.Tests.{tests}
use Rattle.octets.proofs.Chains.{each_from_all}
use Rattle.rights.specs.Verdict.{llids_differ}
use Rattle.rights.proofs.Sets.{First}
use Rattle.rights.proofs.verdict.llids_differ.Goals as goal

pub returns : goal.returns
unfolding llids_differ
returns c =
    each_from_all (First c.args.caller c.args.sets.now) c.args.caller.sets _ _ _ refl c.all.ensures.ran (λ x b q k. search (rules, tests))
