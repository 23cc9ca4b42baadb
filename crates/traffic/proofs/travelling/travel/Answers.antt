-- `traffic::travelling::travel` meets its contract: of a valid end, the sum does not wrap. Assumes nothing.
use native.Mathlib.Omega.{arith}
use Rattle.ends.proofs.Travels.{shift_in_range}
use Rattle.ends.proofs.Validity.{onu_in_range}
use Rattle.traffic.proofs.travelling.travel.Goals as goal

pub overflow_add-result : goal.overflow_add-result
overflow_add-result c =
    let o = c.args.onu in
    let r = onu_in_range o c.requires in
    omega (arith, r.tick, c.shift.ensures, shift_in_range o.travel.changes r.changes)
