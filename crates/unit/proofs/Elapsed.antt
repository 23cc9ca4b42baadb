-- A test on the ticks since another tick is one on the sum. Assumes nothing.
use Rattle.std.proofs.Common.{◌≡◌, ℕ, suc, ◌+◌, ◌-◌, ◌<◌, Bool, true, false, ltb, leb, sym, refl, ◌∙◌, add-suc, arith, le-leb, leb-false, leb-true}
use borrow.Author.Tests.{lt-leb}

pub least_since : (a b t : ℕ) → 0 < b → leb b (t - a) ≡ leb (a + b) t
least_since a b t h = by_case (leb b (t - a)) refl where
  by_case : (v : Bool) → leb b (t - a) ≡ v → leb b (t - a) ≡ leb (a + b) t
  by_case true e = e ∙ sym (le-leb (a + b) t (omega (arith, leb-true b (t - a) e)))
  by_case false e = e ∙ sym (lt-leb (a + b) t (omega (arith, leb-false b (t - a) e)))

pub more_since : (a b t : ℕ) → ltb b (t - a) ≡ ltb (a + b) t
more_since a b t = simp add-suc at (least_since a (suc b) t (omega arith))
