-- Rows of one state or of two in four words, and what the code does to them (D69). Steps of the code that the papers do not name: that they make up the
-- cipher (FIPS 197, 5.1) is proved. Assumes nothing.
use Rattle.std.specs.Prelude.{◌≡◌, List, ◌++◌, ℕ, zero, suc, ◌+◌, ◌*◌, ◌/◌, ◌%◌, ◌<◌, get_or}
use Rattle.octets.specs.Lists.{tabulate}
use Rattle.gf256.specs.Field.{◌⊕◌, ◌•◌}
use Rattle.gf256.specs.Lanes.{octet_at}
use Rattle.gf256.specs.Substitution.{sbox}
use Rattle.gf256.specs.Table.{sbox_table}
use Rattle.cipher.specs.Cipher.{Nr, state_of, add_round_key, round_key, round, rounds}
use Rattle.cipher.specs.declared.row_words.Block.{Block}
use Rattle.cipher.specs.declared.row_words.Rows.{Rows}

-- p holds of a result if t, the table that is lent for it, is that of the substitutions
pub record BySbox (t : List ℕ) (p : Type 0) : Type 0 where
  pub holds : t ≡ sbox_table → p

-- r has the four octets f 0 to f 3, the first lowest
pub record Four (f : ℕ → ℕ) (r : ℕ) : Type 0 where
  pub below : r < 4294967296
  pub octet : (j : ℕ) → j < 4 → octet_at r j ≡ f j

-- r has the eight octets f 0 to f 7, the first lowest
pub record Eight (f : ℕ → ℕ) (r : ℕ) : Type 0 where
  pub octet : (j : ℕ) → j < 8 → octet_at r j ≡ f j

-- r has the four octets of l and then the four of u
pub record Both (l u r : ℕ) : Type 0 where
  pub low : (j : ℕ) → j < 4 → octet_at r j ≡ octet_at l j
  pub high : (j : ℕ) → j < 4 → octet_at r (4 + j) ≡ octet_at u j

abbrev pub row_of : Rows → ℕ → ℕ
row_of s zero = s.a
row_of s (suc zero) = s.b
row_of s (suc (suc zero)) = s.c
row_of s (suc (suc (suc r))) = s.d

-- state z of those whose rows s has
abbrev pub state : Rows → ℕ → List ℕ
state s z = state_of (λ r c. octet_at (row_of s r) (4 * z + c))

-- r is row k of the states s and t
pub record TwoRows (s t : List ℕ) (k r : ℕ) : Type 0 where
  pub first : (c : ℕ) → c < 4 → octet_at r c ≡ get_or s (k + 4 * c) 0
  pub second : (c : ℕ) → c < 4 → octet_at r (4 + c) ≡ get_or t (k + 4 * c) 0

-- r has the octets j and j + 1 of x
pub record TwoOctets (x j r : ℕ) : Type 0 where
  pub first : r % 256 ≡ octet_at x j
  pub second : r / 256 ≡ octet_at x (j + 1)

-- octet m of the four that p and q have, two each
abbrev pub of_four : ℕ → ℕ → ℕ → ℕ
of_four p q zero = p % 256
of_four p q (suc zero) = p / 256
of_four p q (suc (suc zero)) = q % 256
of_four p q (suc (suc (suc m))) = q / 256

-- r is row k of both states after SubBytes and ShiftRows, where x is row k before
pub record Shifted (k x r : ℕ) : Type 0 where
  pub octet : (z c : ℕ) → z < 2 → c < 4 → octet_at r (4 * z + c) ≡ sbox (octet_at x (4 * z + (c + k) % 4))

-- r has the rows of s after MixColumns and AddRoundKey with k, in each of the eight columns
pub record Mixed (s k r : Rows) : Type 0 where
  pub first : (j : ℕ) → j < 8
      → octet_at r.a j ≡ (2 • octet_at s.a j ⊕ 3 • octet_at s.b j ⊕ octet_at s.c j ⊕ octet_at s.d j) ⊕ octet_at k.a j
  pub second : (j : ℕ) → j < 8
      → octet_at r.b j ≡ (octet_at s.a j ⊕ 2 • octet_at s.b j ⊕ 3 • octet_at s.c j ⊕ octet_at s.d j) ⊕ octet_at k.b j
  pub third : (j : ℕ) → j < 8
      → octet_at r.c j ≡ (octet_at s.a j ⊕ octet_at s.b j ⊕ 2 • octet_at s.c j ⊕ 3 • octet_at s.d j) ⊕ octet_at k.c j
  pub fourth : (j : ℕ) → j < 8
      → octet_at r.d j ≡ (3 • octet_at s.a j ⊕ octet_at s.b j ⊕ octet_at s.c j ⊕ 2 • octet_at s.d j) ⊕ octet_at k.d j

-- r has both states of s after a round, each under its own key of k
pub record Rounded (k s r : Rows) : Type 0 where
  pub states : (z : ℕ) → z < 2 → state r z ≡ round (state k z) (state s z)

-- no row: what a list of rows is said to have past its end
abbrev pub no_rows : Rows
no_rows = record { a = 0; b = 0; c = 0; d = 0 }

-- ks has the round keys below n of the key schedule w, each for two states
pub record PairKeys (w : List ℕ) (n : ℕ) (ks : List Rows) : Type 0 where
  pub key : (m z : ℕ) → m < n → z < 2 → state (get_or ks m no_rows) z ≡ round_key w m

-- r has both states after the rounds 1 to n under the keys ks, where s has them after round 1
pub record Reached (ks : List Rows) (n : ℕ) (s r : Rows) : Type 0 where
  pub states : (w : List ℕ) → PairKeys w Nr ks → (z : ℕ) (e : List ℕ) → z < 2 → state s z ≡ rounds w 1 e → state r z ≡ rounds w n e

-- the first state of s after AddRoundKey with k
unfoldable pub keyed_state : List ℕ → Rows → List ℕ
keyed_state k s = add_round_key k (state s 0)

-- r has the first state of s after AddRoundKey with k and a round up to its own AddRoundKey, whatever key that will have
pub record Keyed (k : List ℕ) (s r : Rows) : Type 0 where
  pub states : (next : List ℕ) → keyed_state next r ≡ round next (keyed_state k s)

-- r has the columns x and y under the octets of k from place p on
pub record LastColumns (k : List ℕ) (p x y r : ℕ) : Type 0 where
  pub first : (j : ℕ) → j < 4 → octet_at r j ≡ octet_at x j ⊕ get_or k (p + j) 0
  pub second : (j : ℕ) → j < 4 → octet_at r (4 + j) ≡ octet_at y j ⊕ get_or k (p + 4 + j) 0

-- the 16 octets of a cipher block
abbrev pub block_octets : Block → List ℕ
block_octets b = tabulate 0 8 (octet_at b.low) ++ tabulate 0 8 (octet_at b.high)
