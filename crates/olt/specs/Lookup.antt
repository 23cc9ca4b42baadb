-- Where the unit stands that a call names, and the verdict on the way there (01, 'When the reader says no': 1 for a lent end, what the
-- call refuses ahead of 2, then 2). Assumes nothing.
use Rattle.std.specs.Prelude.{not, ℕ, Ok, Err, Option, Some, None}
use Rattle.refusal.specs.declared.Refusal.TheVariants.{UnknownLlid}
use Rattle.refusal.specs.Order.{refuse_if, and_then}
use Rattle.protocol.specs.Replies.{on_valid}
use Rattle.ends.specs.Table.{is_registered, find}
use Rattle.ends.specs.Validity.{valid_olt}
use Rattle.ends.specs.declared.Olt.{Olt}
use Rattle.olt.specs.declared.Located.{Located}
use Rattle.refusal.specs.Verdict.{Verdict, no_refusal}

-- place 0 where the call goes no further
unfoldable pub located_after : Verdict → Option ℕ → Located
located_after (Ok tt) (Some i) = record { verdict = no_refusal; place = i }
located_after (Ok tt) None = record { verdict = Err UnknownLlid; place = 0 }
located_after (Err r) f = record { verdict = Err r; place = 0 }

unfoldable pub located_of : Olt → Verdict → ℕ → Located
located_of o ahead llid = located_after (on_valid (valid_olt o) ahead) (find o llid)

-- the refusals in order, as one chain
unfoldable pub locate_order : Olt → Verdict → ℕ → Verdict
locate_order o ahead llid = on_valid (valid_olt o) (and_then ahead (refuse_if (not (is_registered o llid)) UnknownLlid no_refusal))
