-- Laws of a row of which so many places are in use. Assumes nothing.
use Rattle.std.proofs.Common.{◌≡◌, ℕ, ◌+◌, ◌-◌, ◌<◌, Bool, true, false, List, [], ◌∷◌, eqb, refl}
use Rattle.std.specs.List.{list_any}
use Rattle.octets.specs.Lists.{tabulate}
use Rattle.octets.proofs.Steps.{tabulate_step}
use Rattle.ends.specs.Counted.{distinct_by}
use Rattle.ends.specs.Identities.{distinct}
use Rattle.ends.proofs.Words.{among_any, both_and}

pub distinct_by_hit : {A : Type 0} (same : A → A → Bool) (j n : ℕ) (f : ℕ → A) → j < n
    → list_any (λ y. same y (f j)) (tabulate (j + 1) (n - (j + 1)) f) ≡ true → distinct_by same (tabulate j (n - j) f) ≡ false
distinct_by_hit same j n f h e = rw (tabulate_step j n f h, e) refl

pub distinct_by_miss : {A : Type 0} (same : A → A → Bool) (j n : ℕ) (f : ℕ → A) → j < n
    → list_any (λ y. same y (f j)) (tabulate (j + 1) (n - (j + 1)) f) ≡ false
    → distinct_by same (tabulate j (n - j) f) ≡ distinct_by same (tabulate (j + 1) (n - (j + 1)) f)
distinct_by_miss same j n f h e = rw (tabulate_step j n f h, e) refl

-- of numbers
pub distinct_numbers : (l : List ℕ) → distinct l ≡ distinct_by eqb l
unfolding distinct
distinct_numbers [] = refl
distinct_numbers (x ∷ xs) = rw (among_any x xs, distinct_numbers xs, both_and) refl
