-- Laws of channel indices: the two directions. Assumes nothing.
use mathlib.Core.Path.{◌≡◌}
use mathlib.Core.Bool.{true}
use Prim.Native.Nat.{ℕ, ◌≤◌}
use borrow.Author.Tests.{leb-true}
use Rattle.octets.proofs.Choice.{both_left, both_right}
use Rattle.envelope.specs.Channels.{downstream, upstream}

pub downstream_below : (channel : ℕ) → downstream channel ≡ true → channel ≤ 1
unfolding downstream
downstream_below channel e = leb-true channel 1 e

pub upstream_between : (channel : ℕ) → upstream channel ≡ true → (128 ≤ channel) × (channel ≤ 129)
unfolding upstream
upstream_between channel e = (leb-true 128 channel (both_left _ _ e), leb-true channel 129 (both_right _ _ e))
