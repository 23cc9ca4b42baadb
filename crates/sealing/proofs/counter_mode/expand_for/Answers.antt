-- `sealing::counter_mode::expand_for` meets its contract: an accepted call's lengths and nonce fit, so its key is expanded. Assumes nothing.
use Rattle.envelope.proofs.Acceptance.{accepted}
use mathlib.Core.Bool.{true, false}
use mathlib.Core.Path.{◌≡◌, ◌∙◌}
use Rattle.sealing.proofs.counter_mode.expand_for.Goals as goal

pub returns : goal.returns
returns c e v =
    let fit = accepted _ _ _ v in
    let lengths = c.lengths_fit.ensures ∙ fit.0 in
    let nonce = c.nonce_fits.ensures ∙ fit.1 in
    let neither : true ≡ false = rw (e, lengths, nonce) at c.if-enciphered-lengths_fit.false in
    cc
