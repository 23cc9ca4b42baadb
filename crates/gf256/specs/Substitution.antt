-- The substitution of one octet (FIPS 197, 5.1.1). Assumes nothing.
use Rattle.std.specs.Prelude.{ℕ, ◌+◌, ◌*◌, ◌%◌, ◌^◌}
use Rattle.octets.specs.Bits.{bit_of}
use Rattle.octets.specs.Lists.{sum}
use Rattle.gf256.specs.Field.{◌⊕◌, inverse}

-- the octet that the affine map adds
unfoldable pub affine_constant : ℕ
affine_constant = 0x63

-- bit i of the image of b
unfoldable pub affine_bit : ℕ → ℕ → ℕ
affine_bit b i =
    bit_of b i ⊕ bit_of b ((i + 4) % 8) ⊕ bit_of b ((i + 5) % 8) ⊕ bit_of b ((i + 6) % 8) ⊕ bit_of b ((i + 7) % 8)
    ⊕ bit_of affine_constant i

unfoldable pub affine : ℕ → ℕ
affine b = sum 0 8 (λ i. affine_bit b i * 2 ^ i)

-- SBOX: the affine map of the inverse
unfoldable pub sbox : ℕ → ℕ
sbox b = affine (inverse b)
