-- `groups::check_head::meet_units` meets its contract: the chain asks each registered unit. Assumes nothing.
use Rattle.std.proofs.Common.{rules, take, map, ◌≡◌, sym, ap, ◌∙◌}
use Rattle.std.proofs.lemmas.Iterator.{YieldsList-from_slice}
use Rattle.std.proofs.lemmas.Iterator.Search.{any_from_yields_List}
use borrow.Author.Tests.{tests}
use Rattle.octets.proofs.Maps.{map_take}
use Rattle.ends.specs.Identities.{llids_of, meets}
use Rattle.ends.specs.declared.Identity.{Identity}
use Rattle.ends.specs.declared.UnitRecord.{UnitRecord}
use Rattle.groups.proofs.Walks.{units_listed}
use Rattle.groups.proofs.check_head.meet_units.Goals as goal

pub returns : goal.returns
returns c =
    let a = c.args in
    let used : take a.n c.identities.result ≡ map (λ (u : UnitRecord). u.identity) (take a.n a.units) =
    ap (take a.n) c.identities.ensures ∙ sym (map_take (λ (u : UnitRecord). u.identity) a.n a.units) in
    any_from_yields_List (λ (i : Identity). meets a.list.now (llids_of i)) _ _ _ c.any.ensures.ran
    (YieldsList-from_slice (take a.n c.identities.result) (cc)) (λ x b q k. search (rules, tests))
    ∙ rw used (units_listed a.list.now (take a.n a.units))
