-- Laws of the ONU's calls. Assumes nothing.
use Rattle.std.proofs.Common.{◌≡◌, ◌+◌, true, eqb-true}
use Rattle.octets.proofs.Choice.{both_right}
use Rattle.protocol.specs.OnuCalls.{new_key}
use Rattle.ends.specs.declared.OnuKeys.{OnuKeys}
use Rattle.protocol.specs.declared.KeyMessage.{KeyMessage}

-- a new key has the number a + 1
pub new_key_number : (k : OnuKeys) (m : KeyMessage) → new_key k m ≡ true → m.number ≡ k.active + 1
unfolding new_key
new_key_number k m e = eqb-true _ _ (both_right _ _ (both_right _ _ e))
