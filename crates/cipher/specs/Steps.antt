-- The key schedule 16 octets at a time: steps of the code that the papers do not name. That they make up the key expansion is proved.
-- Assumes nothing.
use Rattle.std.specs.Prelude.{List, ◌++◌, ℕ, zero, suc}
use Rattle.cipher.specs.KeyExpansion.{constant_word}
use Rattle.cipher.specs.Words.{word, xor_words, rot_word, sub_word}

-- word j of the round key after the round key k, with x the power of x in its round constant
abbrev pub key_word : List ℕ → ℕ → ℕ → List ℕ
key_word k x zero = xor_words (word k 0) (xor_words (sub_word (rot_word (word k 3))) (constant_word x))
key_word k x (suc j) = xor_words (word k (suc j)) (key_word k x j)

-- the round key after k: four words at a time of the key schedule
unfoldable pub next_key : List ℕ → ℕ → List ℕ
next_key k x = key_word k x 0 ++ (key_word k x 1 ++ (key_word k x 2 ++ key_word k x 3))
