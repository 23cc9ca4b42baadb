-- Laws of the place of a record: where it ends. Assumes nothing.
use mathlib.Core.Path.{◌≡◌}
use mathlib.Core.Bool.{Bool, true, false}
use Prim.Native.Nat.{ℕ, ◌≤◌}
use native.Mathlib.Omega.{arith}
use borrow.Author.Tests.{leb-true, eqb-true}
use Rattle.records.specs.Place.{end_fits}

pub end_within : (last : Bool) (end size : ℕ) → end_fits last end size ≡ true → end ≤ size
unfolding end_fits
end_within true end size e = let q = eqb-true end size e in omega arith
end_within false end size e = leb-true end size e

pub end_at : (last : Bool) (end size : ℕ) → end_fits last end size ≡ true → last ≡ true → end ≡ size
unfolding end_fits
end_at true end size e l = eqb-true end size e
end_at false end size e l = let z : false ≡ true = l in cc
