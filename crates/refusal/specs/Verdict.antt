-- What a call that gives nothing else decides: a refusal, or none. Assumes nothing.
use Rattle.std.specs.Prelude.{Result, Ok, ⊤}
use Rattle.refusal.specs.declared.Refusal.{Refusal}

abbrev pub Verdict : Type 0
Verdict = Result ⊤ Refusal

abbrev pub no_refusal : Verdict
no_refusal = Ok tt
