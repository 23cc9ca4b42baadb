-- `unit::calls::acknowledge` meets its contract: 8 where nothing is outstanding, and what is acknowledged goes by its kind. Assumes nothing.
use Rattle.std.proofs.Common.{◌≡◌, refl, ◌∙◌}
use Rattle.refusal.specs.Order.{and_then}
use Rattle.protocol.specs.Lift.{outcome}
use Rattle.protocol.specs.Replies.{Silence, silent}
use Rattle.protocol.specs.UnitCalls.{acknowledge_unit, acknowledge_verdict}
use Rattle.protocol.proofs.UnitCalls.{acknowledge_verdict-holds, acknowledged_channels}
use Rattle.unit.specs.Reached.{if_accepted, reached}
use Rattle.unit.proofs.calls.acknowledge.Goals as goal

only_silent : (x : Silence) → x ≡ silent
only_silent silent = refl

-- the verdict is the definition's
pub returns-in-Err : goal.returns-in-Err
unfolding outcome reached if_accepted acknowledge_verdict
returns-in-Err c =
    let a = c.args in
    let judged : c.and_then-verdict.result ≡ and_then a.way (acknowledge_unit a.acknowledgement a.shared a.unit).verdict =
    c.and_then-verdict.ensures ∙ rw (acknowledge_verdict-holds, c.refuse_if.ensures, c.is_outstanding-outstanding.ensures) in
    rw (← judged, c.in-Err.is, c.refused.ensures)

pub returns-in-Ok : goal.returns-in-Ok
unfolding outcome reached if_accepted acknowledge_verdict
returns-in-Ok c =
    let a = c.args in
    let judged : c.and_then-verdict.result ≡ and_then a.way (acknowledge_unit a.acknowledgement a.shared a.unit).verdict =
    c.and_then-verdict.ensures ∙ rw (acknowledge_verdict-holds, c.refuse_if.ensures, c.is_outstanding-outstanding.ensures) in
    rw (
      ← judged,
      c.in-Ok.is,
      c.acknowledged-next.ensures,
      acknowledged_channels,
      only_silent (acknowledge_unit a.acknowledgement a.shared a.unit).handed,
    )
