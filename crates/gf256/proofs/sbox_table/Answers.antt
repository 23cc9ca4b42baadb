-- `gf256::sbox_table` meets its contract: the test of every entry against the inverse and the affine map computes. Assumes nothing.
use mathlib.Core.Path.{refl}
use Rattle.octets.specs.Bits.{bit_of}
use Rattle.octets.specs.Choice.{pick}
use Rattle.gf256.specs.Field.{modulus, x_times, terms, ◌•◌, square, even_power, inverse}
use Rattle.gf256.specs.Substitution.{affine_constant, affine_bit, affine, sbox}
use Rattle.gf256.specs.Table.{table}
use Rattle.gf256.proofs.Field.{inverts}
use Rattle.gf256.proofs.Table.{tabulated}
use Rattle.gf256.proofs.sbox_table.Goals as goal

pub returns : goal.returns
unfolding table sbox affine affine_bit affine_constant inverse even_power square ◌•◌ terms x_times modulus bit_of pick
returns c =
    record { entries = tabulated sbox _ 256 refl tt; inverse = inverts }
