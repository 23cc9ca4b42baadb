-- `gf256::double_octets` meets its contract: the masks bound both products, so the shift to the left is a product and loses no bit, and the law of
-- octets doubled at once is cited at eight. Assumes nothing.
use mathlib.Core.Path.{◌≡◌}
use Prim.Native.Nat.{◌*◌, ◌%◌, ◌^◌}
use native.Mathlib.Omega.{arith}
use lib.Bits.{bit_and, and_le_r}
use Rattle.gf256.proofs.Lanes.{doubled_each}
use Rattle.gf256.proofs.double_octets.Goals as goal

pub returns : goal.returns
returns c =
    let x = c.args.x in
    let kept : bit_and x 0x7f7f7f7f7f7f7f7f * 2 % 2 ^ 64 ≡ bit_and x 0x7f7f7f7f7f7f7f7f * 2 = omega (arith, and_le_r x 0x7f7f7f7f7f7f7f7f) in
    rw kept (doubled_each 8 x)
