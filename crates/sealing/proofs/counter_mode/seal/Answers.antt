-- `sealing::counter_mode::seal` meets its contract: the key is expanded wherever it matters, and the laws hold of every payload. Assumes nothing.
use Rattle.sealing.proofs.Payload.{sealed_laws}
use Rattle.sealing.proofs.Seal.{sealing_key}
use Rattle.cipher.specs.KeyExpansion.{key_expansion}
use mathlib.Core.Path.{◌∙◌}
use Rattle.sealing.proofs.counter_mode.seal.Goals as goal

pub returns : goal.returns
returns c =
    let a = c.args in
    let w = key_expansion a.key in record {
      output_after = c.seal_expanded.ensures
          ∙ sealing_key a.enciphered c.expand_for-keys.result.octets w a.nonce a.input.now a.output.now c.expand_for-keys.ensures;
      sealed_laws = sealed_laws w a.nonce a.input.now;
    }
