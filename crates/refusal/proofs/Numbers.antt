-- Laws of the refusal codes. Assumes nothing.
use Rattle.std.specs.Prelude.{Ok, Err}
use mathlib.Core.Path.{◌≡◌, refl}
use Rattle.std.proofs.Common.{rules}
use Rattle.refusal.specs.declared.Refusal.{Refusal}
use Rattle.refusal.specs.Number.{number_of, verdict_number}
use Rattle.refusal.specs.Verdict.{Verdict, no_refusal}

-- only acceptance has code 0
pub number_accepted : (v : Verdict) → verdict_number v ≡ 0 → v ≡ no_refusal
number_accepted (Ok tt) e = refl
number_accepted (Err r) e = absurd (by_refusal r e) where
  by_refusal : (r : Refusal) → number_of r ≡ 0 → ⊥
  by_refusal r e = search rules
