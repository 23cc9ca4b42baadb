-- `headend::at_head::retry` meets its contract: the LLID is a group's, or the call is on the OLT. Assumes nothing.
use mathlib.Core.Path.{◌≡◌, sym, ap, ◌∙◌}
use Rattle.headend.specs.HeadCalls.{head_key_done, head_key_sent, head_retry_of}
use Rattle.headend.proofs.HeadAnswers.{by_nowhere, by_at}
use Rattle.headend.proofs.at_head.retry.Goals as goal
use Rattle.headend.proofs.at_head.retry.Goals.{in-None, in-Some}

pub returns : goal.returns
unfolding head_key_sent head_retry_of
returns c =
    let a = c.args in
    let x = c.match-found.verdict in
    let named = sym c.group_named-found.ensures.value in
    -- what is told, by the LLID
    let told : head_key_sent (record { verdict = x.0; end = a.head; handed = x.1 }) ≡ head_retry_of a.head a.llid =
    elim c.match-found.branch [
      | in-None w ↦ (rw w.verdict-is (w.retry_unit.ensures ∙ by_nowhere _ _ _ (named ∙ w.in-None.is)))
      | in-Some w ↦ (rw w.verdict-is (w.retry_group.ensures ∙ by_at _ _ _ _ (named ∙ w.in-Some.is)))
    ] in
    rw c.verdict_number-number.ensures (ap head_key_done told)
