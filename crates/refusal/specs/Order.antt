-- The order of refusals (01, 'When the reader says no': the first that applies, in the order that each call gives). Assumes nothing.
use Rattle.std.specs.Prelude.{Bool, true, false, Ok, Err}
use Rattle.refusal.specs.declared.Refusal.{Refusal}
use Rattle.refusal.specs.Verdict.{Verdict}

-- that refusal where its cause holds, else what follows in the order
unfoldable pub refuse_if : Bool → Refusal → Verdict → Verdict
refuse_if true r v = Err r
refuse_if false r v = v

-- one list of refusals after another
unfoldable pub and_then : Verdict → Verdict → Verdict
and_then (Ok tt) v = v
and_then (Err r) v = Err r
