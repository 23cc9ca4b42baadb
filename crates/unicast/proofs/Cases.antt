-- Two numbers are one or not, and one is below the other or not. Assumes nothing.
use mathlib.Core.Path.{◌≡◌}
use mathlib.Core.Bool.{Bool, true, false}
use Prim.Native.Nat.{ℕ, ◌<◌, ◌≤◌}
use lib.Dec.{eqb, ltb}
use borrow.Author.Tests.{eqb-true, eqb-false, ltb-true, ltb-false}
use Rattle.octets.proofs.Choice.{pick_holds}

pub same_or_not : {P : Type 0} (m n : ℕ) → (m ≡ n → P) → ((m ≡ n → ⊥) → P) → P
same_or_not {P} m n same other =
    pick_holds (λ (x : Bool). P) (eqb m n) true false (λ e. same (eqb-true m n e)) (λ e. other (eqb-false m n e))

pub below_or_not : {P : Type 0} (m n : ℕ) → (m < n → P) → (n ≤ m → P) → P
below_or_not {P} m n below above =
    pick_holds (λ (x : Bool). P) (ltb m n) true false (λ e. below (ltb-true m n e)) (λ e. above (ltb-false m n e))
