-- The first step of a script whose loss alone changes the final A, C or a (02, C-23). Assumes nothing.
use Rattle.std.specs.Prelude.{◌≡◌, Bool, not, List, ℕ, zero, suc, ◌<◌, eqb, Option, Some, None, Result, Ok, Err}
use Rattle.octets.specs.Choice.{both, pick}
use Rattle.refusal.specs.declared.Refusal.{Refusal}
use Rattle.refusal.specs.Number.{number_of}
use Rattle.exercise.specs.declared.Figures.{Figures}
use Rattle.exercise.specs.Script.{steps_in, script_verdict}
use Rattle.exercise.specs.Play.{played, figures_of}
use Rattle.refusal.specs.Verdict.{Verdict, no_refusal}

unfoldable pub same_figures : Figures → Figures → Bool
same_figures x y =
    both (eqb x.active y.active) (both (eqb x.confirmed y.confirmed) (eqb x.unit y.unit))

-- the final A, C and a where step k, counted from 1, is lost; 0 is none
abbrev pub figures_without : List ℕ → ℕ → Figures
figures_without s k = figures_of (played s k)

-- the loss of step k alone changes one of the three
unfoldable pub matters : List ℕ → ℕ → Bool
matters s k = not (same_figures (figures_without s 0) (figures_without s k))

-- a step, counted from 1, none where no single loss matters, or the refusal of the script
abbrev pub Answer : Type 0
Answer = Result (Option ℕ) Refusal

-- the first that matters of the m steps from step i on
unfoldable pub first_from : List ℕ → ℕ → ℕ → Option ℕ
first_from s i zero = None
first_from s i (suc m) = pick (matters s (suc i)) (Some (suc i)) (first_from s (suc i) m)

abbrev pub answer_after : Verdict → Option ℕ → Answer
answer_after (Ok tt) a = Ok a
answer_after (Err r) a = Err r

-- 1, 26, then the first step that matters
unfoldable pub first_loss : List ℕ → Answer
first_loss s = answer_after (script_verdict s) (first_from s 0 (steps_in s))

-- what an answer means, and conversely
pub record Meant (s : List ℕ) : Type 0 where
  -- none exactly if each single loss leaves all three
  pub none : first_loss s ≡ Ok None → (k : ℕ) → k < steps_in s → figures_without s (suc k) ≡ figures_without s 0
  pub harmless : script_verdict s ≡ no_refusal → ((k : ℕ) → k < steps_in s → figures_without s (suc k) ≡ figures_without s 0)
      → first_loss s ≡ Ok None
  -- step k + 1 matters, and no step before it does
  pub first : (k : ℕ) → first_loss s ≡ Ok (Some (suc k)) → (k < steps_in s) × (matters s (suc k) ≡ Bool.true)
  pub before : (k j : ℕ) → first_loss s ≡ Ok (Some (suc k)) → j < k → figures_without s (suc j) ≡ figures_without s 0

-- the code of an answer, and its step, 0 where there is none
abbrev pub answer_number : Answer → ℕ
answer_number (Ok (Some k)) = 0
answer_number (Ok None) = 0
answer_number (Err r) = number_of r

abbrev pub answer_step : Answer → ℕ
answer_step (Ok (Some k)) = k
answer_step (Ok None) = 0
answer_step (Err r) = 0
