-- What a call decides and leaves (01, 'When the reader says no'). Assumes nothing.
use Rattle.std.specs.Prelude.{Bool, not, ℕ, ◌+◌, ltb, Ok, Err}
use Rattle.refusal.specs.declared.Refusal.TheVariants.{OutOfRange, AtEnd}
use Rattle.refusal.specs.Order.{refuse_if}
use Rattle.clock.specs.Ticks.{max_tick}
use Rattle.refusal.specs.Verdict.{Verdict, no_refusal}

-- ahead of each list, and of 14, comes 1, for an end that is not valid (D1)
abbrev pub on_valid : Bool → Verdict → Verdict
on_valid valid v = refuse_if (not valid) OutOfRange v

-- a call that hands over nothing hands over this
pub data Silence : Type 0 where
  silent : Silence

-- a call's verdict, the end that it leaves and what it hands over
pub record Reply (E H : Type 0) : Type 0 where
  pub verdict : Verdict
  pub end : E
  pub handed : H

-- accepted: the next end, and what is handed over; refused: the end as it was, and nothing
unfoldable pub reply : {E H : Type 0} → Verdict → E → H → E → H → Reply E H
reply (Ok tt) lent nothing next handed = record { verdict = no_refusal; end = next; handed = handed }
reply (Err r) lent nothing next handed = record { verdict = Err r; end = lent; handed = nothing }

-- an advance of either end (01, Clock): by 0 too, and up to 2^62 itself (D9)
unfoldable pub advance_verdict : ℕ → ℕ → Verdict
advance_verdict tick n = refuse_if (ltb max_tick (tick + n)) AtEnd no_refusal
