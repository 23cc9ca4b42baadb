-- `octets::bit` meets its contract: a bit past the octet is 0, and the mask 1 takes what is left modulo 2. Assumes nothing.
use Prim.Native.Nat.{◌<◌, ◌^◌}
use native.Mathlib.Nat.{div-eq_of_lt, lt_of_lt_of_le}
use lib.Bits.{and_mask}
use lib.Pow.{pow_mono}
use Rattle.octets.specs.Bits.{bit_of}
use Rattle.octets.proofs.bit.Goals as goal

pub returns-then-j-ge8 : goal.returns-then-j-ge8
unfolding bit_of
returns-then-j-ge8 c =
    let small : c.args.x < 2 ^ c.args.j =
    lt_of_lt_of_le c.ranges.x.fits (pow_mono c.if-j-ge8.true) in
    rw (div-eq_of_lt small)

pub returns : goal.returns
unfolding bit_of
returns c = and_mask _ 1
