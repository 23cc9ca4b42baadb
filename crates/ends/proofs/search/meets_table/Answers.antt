-- `ends::search::meets_table` meets its contract: the identities of the first units are tried in turn. Assumes nothing.
use Rattle.std.proofs.Common.{take, rules, tests}
use Rattle.std.proofs.lemmas.Iterator.{YieldsList-from_slice, YieldsList-from_take}
use Rattle.std.proofs.lemmas.Iterator.Search.{any_from_yields_List}
use Rattle.octets.proofs.Maps.{map_take}
use Rattle.ends.specs.Identities.{llids_of, meets}
use Rattle.ends.specs.declared.Identity.{Identity}
use Rattle.ends.proofs.Table.{identity_of}
use Rattle.ends.proofs.Words.{table_any}
use Rattle.ends.proofs.search.meets_table.Goals as goal

pub returns : goal.returns
returns c =
    let a = c.args in
    let met =
    any_from_yields_List (λ (i : Identity). meets (llids_of a.identity) (llids_of i)) _ _ c.any.result c.any.ensures.ran
    (YieldsList-from_take a.count (YieldsList-from_slice c.identities-table.result (cc)) (cc)) (λ x b q k. search (rules, tests)) in
    rw (table_any (llids_of a.identity) (take a.count a.units), map_take identity_of a.count a.units) (rw c.identities-table.ensures at met)
