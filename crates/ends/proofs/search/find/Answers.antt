-- `ends::search::find` meets its contract: the identities of the first units are tried in turn. Assumes nothing.
use Rattle.std.proofs.Common.{◌≡◌, ◌∙◌, take, rules, tests}
use Rattle.std.proofs.lemmas.Iterator.{YieldsList-from_slice, YieldsList-from_take}
use Rattle.std.proofs.lemmas.Iterator.Adapters.{position_from-zero}
use Rattle.std.proofs.lemmas.Iterator.Search.{position_from_yields_List}
use Rattle.octets.proofs.Maps.{map_take}
use Rattle.ends.specs.Identities.{has}
use Rattle.ends.specs.Table.{find_from}
use Rattle.ends.specs.declared.Identity.{Identity}
use Rattle.ends.proofs.Table.{found_number-holds, identity_of}
use Rattle.ends.proofs.Words.{find_position}
use Rattle.ends.proofs.search.find.Goals as goal

pub returns : goal.returns
returns c =
    let a = c.args in
    let us = take a.count a.units in
    let at =
    position_from_yields_List (λ (i : Identity). has i a.llid) _ _ _ c.position.ensures.ran
    (YieldsList-from_take a.count (YieldsList-from_slice c.identities.result (cc)) (cc)) (λ x b q k. search (rules, tests))
    ∙ position_from-zero (λ (i : Identity). has i a.llid) (take a.count c.identities.result) in
    let e : c.position.result ≡ find_from 0 us a.llid =
    rw (← find_position 0 us a.llid) (rw (map_take identity_of a.count a.units) (rw c.identities.ensures at at)) in
    record { value = e; number = found_number-holds _ a.llid _ e }
