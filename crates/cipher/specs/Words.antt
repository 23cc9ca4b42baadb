-- Words: lists of 4 octets (FIPS 197, 3.5), and what the key expansion does to one (5.2). Assumes nothing.
use Rattle.std.specs.Prelude.{List, ℕ, ◌+◌, ◌*◌, ◌%◌, get_or}
use Rattle.octets.specs.Lists.{tabulate}
use Rattle.gf256.specs.Field.{◌⊕◌}
use Rattle.gf256.specs.Substitution.{sbox}

-- word i of a list of octets: column i of a state, word i of a key schedule
abbrev pub word : List ℕ → ℕ → List ℕ
word w i = tabulate 0 4 (λ j. get_or w (4 * i + j) 0)

-- two words added
abbrev pub xor_words : List ℕ → List ℕ → List ℕ
xor_words a b = tabulate 0 4 (λ j. get_or a j 0 ⊕ get_or b j 0)

-- 5.2, RotWord: the octets moved one place to the left, around the end
abbrev pub rot_word : List ℕ → List ℕ
rot_word a = tabulate 0 4 (λ j. get_or a ((j + 1) % 4) 0)

-- 5.2, SubWord: each octet substituted
abbrev pub sub_word : List ℕ → List ℕ
sub_word a = tabulate 0 4 (λ j. sbox (get_or a j 0))
