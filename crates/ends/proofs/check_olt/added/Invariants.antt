-- `ends::check_olt::added` meets its contract: the first j of the LLIDs stand behind those before, no LLID twice, and the marks tell of them all.
-- Assumes nothing.
use Rattle.std.proofs.Common.{◌≡◌, ◌+◌, true, ◌++◌, length, take}
use Rattle.ends.specs.Identities.{distinct}
use Rattle.ends.specs.Marks.{Marked}
use Rattle.ends.proofs.check_olt.added.Given as goal

abbrev pub invariant-loop-j : goal.invariant-loop-j
invariant-loop-j l = (length l.list ≡ length l.initial.list) × (length l.marks ≡ length l.initial.marks)
    × (take (l.n + l.j) l.list ≡ take l.n l.initial.list ++ take l.j l.x-items)
    × (distinct (take (l.n + l.j) l.list) ≡ true) × Marked (take (l.n + l.j) l.list) l.marks
