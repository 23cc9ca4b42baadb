-- Round 1 of two counter blocks of one envelope, and the pair that is enciphered from it. Steps of the code that the papers do not name: that they
-- make up the cipher (FIPS 197, 5.1) is proved. Assumes nothing.
use Rattle.std.specs.Prelude.{◌≡◌, List, ℕ, zero, suc, ◌+◌, ◌*◌, ◌%◌, ◌<◌, eqb}
use Rattle.octets.specs.Choice.{pick}
use Rattle.envelope.specs.CounterBlock.{counter_block}
use Rattle.envelope.specs.declared.Nonce.{Nonce}
use Rattle.gf256.specs.Field.{◌⊕◌}
use Rattle.gf256.specs.Lanes.{octet_at}
use Rattle.gf256.specs.Substitution.{sbox}
use Rattle.cipher.specs.Cipher.{Nr, cell, add_round_key, round_key, round, last_round, cipher}
use Rattle.cipher.specs.RowWords.{PairKeys, state}
use Rattle.cipher.specs.declared.row_words.Rows.{Rows}

-- counter block i as round 1 meets it
abbrev pub entered : List ℕ → Nonce → ℕ → List ℕ
entered w n i = add_round_key (round_key w 0) (counter_block n i)

-- x is row r of any two counter blocks after SubBytes and ShiftRows, with 0 in column k
pub record KeptRow (w : List ℕ) (n : Nonce) (r k x : ℕ) : Type 0 where
  pub octet : (i z c : ℕ) → z < 2 → c < 4 → octet_at x (4 * z + c) ≡ pick (eqb c k) 0 (sbox (cell (entered w n i) r ((c + r) % 4)))

-- the four rows: the index decides an octet of each but the first, whose four columns, 0 to 3, all stay
pub record Kept (w : List ℕ) (n : Nonce) (x : Rows) : Type 0 where
  pub first : KeptRow w n 0 4 x.a
  pub second : KeptRow w n 1 2 x.b
  pub third : KeptRow w n 2 1 x.c
  pub fourth : KeptRow w n 3 0 x.d

-- the first of two, or the second
abbrev pub of_two : ℕ → ℕ → ℕ → ℕ
of_two zero i j = i
of_two (suc z) i j = j

-- x has octet k of the block indices i and j, each under the octet `key` of a round key and substituted, in column k, and 0 elsewhere
pub record IndexOctets (key i j k x : ℕ) : Type 0 where
  pub octet : (z c : ℕ) → z < 2 → c < 4 → octet_at x (4 * z + c) ≡ pick (eqb c k) (sbox (octet_at (of_two z i j) k ⊕ key)) 0

-- x has the counter blocks i and j after round 1, if `kept` is what they share of it; each under its own key of k
pub record FirstRound (w : List ℕ) (k kept : Rows) (i j : ℕ) (x : Rows) : Type 0 where
  pub states : (n : Nonce) → Kept w n kept → (z : ℕ) → z < 2 → state x z ≡ round (state k z) (entered w n (of_two z i j))

-- x has the counter blocks i and j before their last round, if `ks` has the round keys and `kept` what the two share of round 1
pub record BeforeLast (w : List ℕ) (ks : List Rows) (kept : Rows) (i j : ℕ) (x : Rows) : Type 0 where
  pub first : (n : Nonce) → PairKeys w Nr ks → Kept w n kept → last_round (round_key w Nr) (state x 0) ≡ cipher w (counter_block n i)
  pub second : (n : Nonce) → PairKeys w Nr ks → Kept w n kept → last_round (round_key w Nr) (state x 1) ≡ cipher w (counter_block n j)
