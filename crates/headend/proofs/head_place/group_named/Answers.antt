-- `headend::head_place::group_named` meets its contract: the chain finds the first group in use that has the LLID. Assumes nothing.
use Rattle.std.proofs.Common.{rules, suc, ◌≡◌, ℕ, List, [], ◌∷◌, refl, ◌∙◌, take, add-one, eqb}
use Rattle.std.proofs.lemmas.Iterator.{YieldsList-from_slice, YieldsList-from_take}
use Rattle.std.proofs.lemmas.Iterator.Adapters.{position_from-zero}
use Rattle.std.proofs.lemmas.Iterator.Search.{position_from_yields_List}
use Rattle.std.specs.List.{position_from}
use borrow.Author.Tests.{tests}
use Rattle.ends.proofs.Words.{placed_is}
use Rattle.group_protocol.specs.Head.{find_group, group_from}
use Rattle.group_protocol.specs.declared.GroupRecord.{GroupRecord}
use Rattle.headend.proofs.head_place.group_named.Goals as goal

by_place : (i : ℕ) (gs : List GroupRecord) (llid : ℕ) → position_from (λ (g : GroupRecord). eqb g.llid llid) i gs ≡ group_from i gs llid
unfolding group_from
by_place i [] llid = refl
by_place i (g ∷ gs) llid = rw add-one (placed_is (eqb g.llid llid) i (by_place (suc i) gs llid))

pub returns-clause-value : goal.returns-clause-value
unfolding find_group
returns-clause-value c =
    let h = c.args.head.groups in
    let gs = take h.count h.table in
    position_from_yields_List _ _ _ _ c.position.ensures.ran (YieldsList-from_take h.count (YieldsList-from_slice h.table (cc)) (cc))
    (λ x b q k. search (rules, tests))
    ∙ position_from-zero (λ (g : GroupRecord). eqb g.llid c.args.llid) gs
    ∙ by_place 0 gs c.args.llid
