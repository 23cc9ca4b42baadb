-- `ends::check_olt::judge_table` meets its contract: the first i units are valid, their n LLIDs stand in the list, none twice, and are marked,
-- and `found` is the first of them that has the LLID. Assumes nothing.
use Rattle.std.proofs.Common.{◌≡◌, ◌*◌, ◌≤◌, true, ◌++◌, length, take, drop}
use Rattle.octets.specs.Lists.{all}
use Rattle.ends.specs.Limits.{max_llids, max_table_llids}
use Rattle.ends.specs.Identities.{distinct}
use Rattle.ends.specs.Marks.{Marked}
use Rattle.ends.specs.Table.{find_from, found_or, table_llids}
use Rattle.ends.specs.Validity.{valid_unit}
use Rattle.ends.proofs.check_olt.judge_table.Given as goal

abbrev pub invariant-loop-i : goal.invariant-loop-i
invariant-loop-i l = (l.n ≤ max_llids * l.i) × (length l.list ≡ max_table_llids)
    × (all (valid_unit l.fn.olt.shared.tick) l.unit-items ≡ all (valid_unit l.fn.olt.shared.tick) (drop l.i l.unit-items))
    × (take l.n l.list ++ table_llids (drop l.i l.unit-items) ≡ table_llids l.unit-items)
    × (distinct (take l.n l.list) ≡ true) × Marked (take l.n l.list) l.marks
    × (find_from 0 l.unit-items l.llid ≡ found_or l.found (find_from l.i (drop l.i l.unit-items) l.llid))
