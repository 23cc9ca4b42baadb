-- `ends::search::identities` meets its contract: the first i identities stand where their units do. Assumes nothing.
use Rattle.std.proofs.Common.{◌≡◌, map, length, take}
use Rattle.ends.specs.Limits.{max_units}
use Rattle.ends.specs.declared.UnitRecord.{UnitRecord}
use Rattle.ends.proofs.search.identities.Given as goal

abbrev pub invariant-loop-i : goal.invariant-loop-i
invariant-loop-i l = (length l.r ≡ max_units) × (take l.i l.r ≡ map (λ (u : UnitRecord). u.identity) (take l.i l.fn.units))
