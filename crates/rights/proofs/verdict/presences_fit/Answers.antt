-- `rights::verdict::presences_fit` meets its contract: the test of each set is that of the definition. Assumes nothing.
use Rattle.std.proofs.Common.{refl, rules}
use borrow.Author.Tests.{tests}
use Rattle.octets.proofs.Chains.{each_from_all}
use Rattle.records.specs.Settings.{presence_of, presence_fits}
use Rattle.rights.specs.Settings.{set_of}
use Rattle.rights.specs.Verdict.{presences_fit}
use Rattle.rights.proofs.verdict.presences_fit.Goals as goal

pub returns : goal.returns
unfolding presences_fit
returns c =
    let sets = c.args.sets.now in
    each_from_all (λ j. presence_fits (presence_of (set_of sets j))) c.args.caller.sets _ _ _ refl c.all.ensures.ran
    (λ x b q k. search (rules, tests))
