-- Octets as elements of GF(2^8) (FIPS 197, 4): bit i of an octet is the coefficient of x^i. Assumes nothing.
use Rattle.std.specs.Prelude.{◌≡◌, ℕ, zero, suc, ◌+◌, ◌*◌, ◌^◌, ◌<◌, eqb}
use Rattle.std.specs.Int.Bits.{bit_xor}
use Rattle.octets.specs.Bits.{bit_of}
use Rattle.octets.specs.Choice.{pick}

infixl 60 ◌⊕◌
infixl 70 ◌•◌
-- 4.1: the sum of two elements
abbrev pub ◌⊕◌ : ℕ → ℕ → ℕ
a ⊕ b = bit_xor a b

-- 4.2: the polynomial that products are reduced by, x^8 + x^4 + x^3 + x + 1
unfoldable pub modulus : ℕ
modulus = 2 ^ 8 + 2 ^ 4 + 2 ^ 3 + 2 + 1

-- 4.2: b times x, reduced where b has the term x^7
unfoldable pub x_times : ℕ → ℕ
x_times b = pick (eqb (bit_of b 7) 1) (b * 2 ⊕ modulus) (b * 2)

-- b_i c ⊕ b_(i+1) c x ⊕ b_(i+2) c x^2 ⊕ .., n terms, where b_i is bit i of b
unfoldable pub terms : ℕ → ℕ → ℕ → ℕ → ℕ
terms i zero b c = 0
terms i (suc n) b c = (bit_of b i * c) ⊕ terms (suc i) n b (x_times c)

-- 4.2: the product of two elements
unfoldable pub ◌•◌ : ℕ → ℕ → ℕ
b • c = terms 0 8 b c

unfoldable pub square : ℕ → ℕ
square b = b • b

-- b to the power of 2 + 4 + .. + 2^n
unfoldable pub even_power : ℕ → ℕ → ℕ
even_power zero b = 1
even_power (suc n) b = square (b • even_power n b)

-- 4.4: the multiplicative inverse, b^254; 254 is 2 + 4 + .. + 2^7
unfoldable pub inverse : ℕ → ℕ
inverse b = even_power 7 b

-- what makes it one, and how it is carried on to 0 (5.1.1)
pub record Inverts : Type 0 where
  pub zero : inverse 0 ≡ 0
  pub other : (b : ℕ) → 0 < b → b < 256 → b • inverse b ≡ 1
