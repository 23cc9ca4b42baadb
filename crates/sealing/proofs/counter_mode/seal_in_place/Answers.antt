-- `sealing::counter_mode::seal_in_place` meets its contract: the key is expanded wherever it matters. Assumes nothing.
use Rattle.sealing.proofs.Seal.{sealing_key}
use Rattle.cipher.specs.KeyExpansion.{key_expansion}
use mathlib.Core.Path.{◌∙◌}
use Rattle.sealing.proofs.counter_mode.seal_in_place.Goals as goal

pub returns : goal.returns
returns c =
    let a = c.args in
    c.seal_expanded_in_place.ensures
    ∙ sealing_key a.enciphered c.expand_for-keys.result.octets (key_expansion a.key) a.nonce a.payload.now a.payload.now
    c.expand_for-keys.ensures
