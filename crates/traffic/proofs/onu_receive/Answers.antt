-- `traffic::onu_receive` meets its contract: what `receive` decides is the reply, and what is then carried is what the reply leaves. Assumes nothing.
use mathlib.Core.Path.{◌≡◌}
use Rattle.traffic.specs.Passages.{misfit, onu_decided}
use Rattle.traffic.proofs.Receipts.{onu_receive_decided, onu_receive_done}
use Rattle.traffic.proofs.onu_receive.Goals as goal

pub returns : goal.returns
unfolding onu_decided misfit
returns c =
    let a = c.args in
    let d : c.receive-decided.result ≡ onu_decided (onu_receive_decided a.onu a.header a.octets.now a.output.now)
    = rw c.misfit-misfit.ensures at c.receive-decided.ensures in
    rw (c.verdict_number.ensures, d) (onu_receive_done _ _ _ _ _ _ (rw d at c.carry_accepted-work.ensures))
