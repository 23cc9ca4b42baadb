-- `groups::search::groups_meet` meets its contract: the LLIDs that were gathered are the groups'. Assumes nothing.
use Rattle.std.proofs.Common.{rules, ◌≡◌, take, min, length}
use Rattle.std.proofs.lemmas.List.{take_min}
use Rattle.group_protocol.proofs.Llids.{llids_first}
use Rattle.groups.proofs.search.groups_meet.Goals as goal

pub returns : goal.returns
returns c =
    let a = c.args in
    let full : length a.table ≡ 16 = search rules in
    let used : take (min a.count 16) a.table ≡ take a.count a.table = rw full at (take_min a.count a.table) in
    rw (c.has_one.ensures, c.min-used.ensures, c.llids_of.ensures, llids_first, used)
