-- The key expansion of AES-128 (FIPS 197, 5.2). The key schedule is the list of the octets of its words. Assumes nothing.
use Rattle.std.specs.Prelude.{List, [], ◌∷◌, ◌++◌, ℕ, zero, suc, ◌+◌, ◌-◌, ◌/◌, ◌%◌, eqb}
use Rattle.octets.specs.Choice.{pick}
use Rattle.gf256.specs.Table.{power_of_x}
use Rattle.cipher.specs.Words.{word, xor_words, rot_word, sub_word}

-- the number of words of a key (5, table 3)
abbrev pub Nk : ℕ
Nk = 4

-- the word that a round constant is, with x its power of x
abbrev pub constant_word : ℕ → List ℕ
constant_word x = x ∷ 0 ∷ 0 ∷ 0 ∷ []

-- Rcon[j], for j from 1
abbrev pub rcon : ℕ → List ℕ
rcon j = constant_word (power_of_x (j - 1))

-- what is added to word i - Nk to make word i
abbrev pub temp : List ℕ → ℕ → List ℕ
temp w i =
    pick (eqb (i % Nk) 0) (xor_words (sub_word (rot_word (word w (i - 1)))) (rcon (i / Nk))) (word w (i - 1))

-- word i, from Nk, by the words before it
unfoldable pub next_word : List ℕ → ℕ → List ℕ
next_word w i = xor_words (word w (i - Nk)) (temp w i)

-- the words below Nk + n
unfoldable pub expanded : List ℕ → ℕ → List ℕ
expanded key zero = key
expanded key (suc n) = expanded key n ++ next_word (expanded key n) (Nk + n)

-- the 44 words, four for each round key
unfoldable pub key_expansion : List ℕ → List ℕ
key_expansion key = expanded key 40
