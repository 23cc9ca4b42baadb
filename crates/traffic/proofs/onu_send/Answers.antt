-- `traffic::onu_send` meets its contract: what `send` decides is the reply, and what is then carried is what the reply leaves. Assumes nothing.
use mathlib.Core.Path.{◌≡◌}
use Rattle.traffic.specs.Passages.{misfit, onu_decided}
use Rattle.traffic.proofs.Sends.{onu_send_decided, onu_send_done}
use Rattle.traffic.proofs.onu_send.Goals as goal

pub returns : goal.returns
unfolding onu_decided misfit
returns c =
    let a = c.args in
    let d : c.send-decided.result ≡ onu_decided (onu_send_decided a.onu a.llid a.channel a.payload.now a.output.now)
    = rw c.misfit-misfit.ensures at c.send-decided.ensures in
    rw (c.verdict_number.ensures, d) (onu_send_done _ _ _ _ _ _ _ (rw d at c.carry_accepted-work.ensures))
