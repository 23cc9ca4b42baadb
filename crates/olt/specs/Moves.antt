-- An advance of the OLT behind a verdict that goes ahead of its own: 1 for a lent end, that verdict, then 17 (01, Clock). Assumes nothing.
use Rattle.std.specs.Prelude.{ℕ}
use Rattle.refusal.specs.Number.{verdict_number}
use Rattle.refusal.specs.Order.{and_then}
use Rattle.ends.specs.Validity.{valid_olt}
use Rattle.ends.specs.declared.Olt.{Olt}
use Rattle.protocol.specs.OltCalls.{olt_advanced}
use Rattle.protocol.specs.Replies.{advance_verdict, on_valid}
use Rattle.unit.specs.Reached.{if_accepted}
use Rattle.olt.specs.declared.OltMoved.{OltMoved}
use Rattle.refusal.specs.Verdict.{Verdict}

abbrev pub move_order : Olt → Verdict → ℕ → Verdict
move_order o ahead n = on_valid (valid_olt o) (and_then ahead (advance_verdict o.shared.tick n))

unfoldable pub moved_of : Olt → Verdict → ℕ → OltMoved
moved_of o ahead n =
    record { olt = if_accepted (move_order o ahead n) (olt_advanced o n) o; number = verdict_number (move_order o ahead n) }
