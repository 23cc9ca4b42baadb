-- `sealing::counter_mode::seal_expanded` meets its contract: a refusal, or what an accepted payload becomes in the output. Assumes nothing.
use Rattle.octets.proofs.Lists.{copied_whole}
use Rattle.envelope.proofs.Acceptance.{accepted, lengths_fit-holds}
use Rattle.envelope.specs.Acceptance.{seal_verdict}
use Rattle.sealing.proofs.Seal.{sealing_refused, sealing_apart}
use lib.ListN.{length}
use mathlib.Core.Path.{◌≡◌, sym, ◌∙◌}
use Rattle.sealing.proofs.counter_mode.seal_expanded.Goals as goal
use Rattle.refusal.specs.Verdict.{no_refusal}

pub carry-requires : goal.carry-requires
carry-requires c =
    let a = c.args in
    -- the call was accepted
    let judged : seal_verdict (length a.input.now) (length a.output.now) a.nonce ≡ no_refusal = sym c.seal_verdict.ensures ∙ c.in-Ok.is in
    let same : length a.output.now ≡ length a.input.now = (lengths_fit-holds _ _ (accepted _ _ _ judged).0).same in
    -- the output has the input
    let whole = c.copy.ensures ∙ copied_whole a.input.now a.output.now same in
    rw whole (rw same at judged)

pub returns-in-Err : goal.returns-in-Err
returns-in-Err c =
    let a = c.args in
    sealing_refused a.keys.octets a.nonce a.input.now a.output.now a.enciphered _
    (sym c.seal_verdict.ensures ∙ c.in-Err.is)

pub returns-in-Ok : goal.returns-in-Ok
returns-in-Ok c =
    let a = c.args in
    let judged : seal_verdict (length a.input.now) (length a.output.now) a.nonce ≡ no_refusal = sym c.seal_verdict.ensures ∙ c.in-Ok.is in
    let same : length a.output.now ≡ length a.input.now = (lengths_fit-holds _ _ (accepted _ _ _ judged).0).same in
    let whole = c.copy.ensures ∙ copied_whole a.input.now a.output.now same in
    rw whole at c.carry.ensures
    ∙ sealing_apart a.enciphered a.keys.octets a.nonce a.input.now a.output.now judged
