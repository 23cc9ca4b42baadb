-- The calls that rearrange and restore a payload (02, C-12; 01, When the reader says no: 14). Assumes nothing.
use Rattle.std.specs.Prelude.{Bool, not, List, ℕ, length, Ok, Err}
use Rattle.octets.specs.Output.{WithOutput, with_output}
use Rattle.refusal.specs.declared.Refusal.TheVariants.{BadLength}
use Rattle.refusal.specs.Order.{refuse_if}
use Rattle.envelope.specs.Acceptance.{lengths_fit}
use Rattle.planes.specs.Planes.{rearranged, restored, moved}
use Rattle.refusal.specs.Verdict.{Verdict, no_refusal}

-- 14, for n octets that are no payload and for an output of m octets that has not as many
unfoldable pub length_verdict : ℕ → ℕ → Verdict
length_verdict n m = refuse_if (not (lengths_fit n m)) BadLength no_refusal

-- an accepted call writes, a refused one leaves the output as it was lent
unfoldable pub writing : Verdict → List ℕ → List ℕ → WithOutput Verdict
writing (Ok tt) made out = with_output no_refusal made
writing (Err r) made out = with_output (Err r) out

abbrev pub rearranging : List ℕ → List ℕ → WithOutput Verdict
rearranging p out = writing (length_verdict (length p) (length out)) (rearranged p) out

abbrev pub restoring : List ℕ → List ℕ → WithOutput Verdict
restoring p out = writing (length_verdict (length p) (length out)) (restored p) out

-- either call, the one that restores where `back` is true
abbrev pub moving : Bool → List ℕ → List ℕ → WithOutput Verdict
moving back p out = writing (length_verdict (length p) (length out)) (moved back p) out
