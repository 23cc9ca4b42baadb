-- `sealing::counter_mode::seal_expanded_in_place` meets its contract: a refusal, or what an accepted payload becomes. Assumes nothing.
use Rattle.sealing.proofs.Seal.{sealing_refused}
use mathlib.Core.Path.{sym, ◌∙◌}
use Rattle.sealing.proofs.counter_mode.seal_expanded_in_place.Goals as goal

pub returns-in-Err : goal.returns-in-Err
returns-in-Err c =
    let a = c.args in
    sealing_refused a.keys.octets a.nonce a.payload.now a.payload.now a.enciphered _
    (sym c.seal_verdict.ensures ∙ c.in-Err.is)
