-- `rights::settings::set_for` meets its contract: what is found is the first set of the LLID. Assumes nothing.
use Rattle.std.proofs.Common.{◌∙◌, refl, sym, arith, rules}
use Rattle.std.proofs.lemmas.Iterator.{YieldsList-from_range}
use Rattle.std.proofs.lemmas.Iterator.Search.{find_from_yields_List}
use Rattle.std.proofs.lemmas.Iterator.Adapters.{option_map_id}
use borrow.Author.Tests.{tests}
use Rattle.rights.proofs.Sets.{Of, set_first}
use Rattle.rights.proofs.settings.set_for.Goals as goal

pub returns : goal.returns
returns c =
    let n = c.args.caller.sets in
    let found =
    find_from_yields_List (Of c.args.sets.now c.args.wanted) _ _ c.find.result c.find.ensures.ran (YieldsList-from_range 0 n n refl (omega arith))
    (λ x b q k. search (rules, tests)) in
    c.unwrap_or.ensures ∙ rw (sym (option_map_id c.find.result) ∙ found) (set_first c.args.sets.now c.args.wanted 0 n n (omega arith))
