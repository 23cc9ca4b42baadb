-- Laws of a test of each of some numbers. Assumes nothing.
use mathlib.Core.Path.{◌≡◌, refl}
use mathlib.Core.Bool.{Bool, true, false}
use mathlib.Core.Logic.{⊎_elim}
use Prim.Native.Nat.{ℕ, zero, suc, ◌+◌, ◌-◌, ◌≤◌, ◌<◌}
use native.Mathlib.Nat.{eq-or-lt_of_le}
use native.Mathlib.Numerals.{add-one}
use native.Mathlib.Omega.{arith}
use Rattle.octets.specs.Choice.{both}
use Rattle.octets.proofs.Choice.{both_left, both_right, both_true, both_false_left}
use Rattle.octets.specs.Each.{each}

-- it holds of one of them
pub each_at : (i n : ℕ) (p : ℕ → Bool) (k : ℕ) → each i n p ≡ true → i ≤ k → k < i + n → p k ≡ true
unfolding each
each_at i zero p k e l h = absurd (omega arith)
each_at i (suc n) p k e l h =
    ⊎_elim (λ (here : i ≡ k). rw (← here) (both_left _ _ e)) (λ (past : i < k). each_at (suc i) n p k (both_right _ _ e) past (omega arith))
    (eq-or-lt_of_le l)

-- and conversely
pub each_true : (i n : ℕ) (p : ℕ → Bool) → ((k : ℕ) → i ≤ k → k < i + n → p k ≡ true) → each i n p ≡ true
unfolding each
each_true i zero p f = refl
each_true i (suc n) p f = both_true (f i (omega arith) (omega arith)) (each_true (suc i) n p (λ k l h. f k (omega arith) (omega arith)))

---- a loop over the n numbers

pub each_step : (i n : ℕ) (p : ℕ → Bool) → i < n → p i ≡ true → each i (n - i) p ≡ each (i + 1) (n - (i + 1)) p
unfolding each both
each_step i n p h e = let m : n - i ≡ suc (n - suc i) = omega arith in rw (m, add-one, e)

pub each_stop : (i n : ℕ) (p : ℕ → Bool) → i < n → p i ≡ false → each i (n - i) p ≡ false
unfolding each
each_stop i n p h e = let m : n - i ≡ suc (n - suc i) = omega arith in rw m (both_false_left _ e)

pub each_end : (i n : ℕ) (p : ℕ → Bool) → n ≤ i → each i (n - i) p ≡ true
unfolding each
each_end i n p h = let m : n - i ≡ 0 = omega arith in rw m
