-- Which records of two blocks pair (02, C-15). A record is its own octets, and record i of a block has i others before it.
-- Assumes nothing.
use Rattle.std.specs.Prelude.{Bool, List, ℕ, zero, suc, ◌-◌, eqb}
use Rattle.octets.specs.Choice.{both, pick}
use Rattle.records.specs.declared.header.Header.{Header}
use Rattle.records.specs.Record.{record_header}
use Rattle.records.specs.Block.{records_in, record_of}
use Rattle.octets.specs.Each.{each}

-- channel index, LLID and clock agree; kind, flags and EPAM play no part (D92)
unfoldable pub keys_agree : Header → Header → Bool
keys_agree g h = both (eqb g.channel h.channel) (both (eqb g.llid h.llid) (eqb g.clock h.clock))

-- records r and s pair
unfoldable pub paired : List ℕ → List ℕ → Bool
paired r s = keys_agree (record_header r) (record_header s)

-- the first of the m records of b from record j on that pairs with r, or j + m where none does
unfoldable pub first_from : List ℕ → List ℕ → ℕ → ℕ → ℕ
first_from r b j zero = j
first_from r b j (suc m) = pick (paired r (record_of b j)) j (first_from r b (suc j) m)

-- the record of b that pairs with r, or the count of records where none does; where no two records of b are alike it is the only one
abbrev pub partner_of : List ℕ → List ℕ → ℕ
partner_of r b = first_from r b 0 (records_in b)

-- record i of a is alone: no record of b pairs with it
unfoldable pub alone : List ℕ → List ℕ → ℕ → Bool
alone a b i = eqb (partner_of (record_of a i) b) (records_in b)

-- no record of b behind record i agrees with it in all three
unfoldable pub unlike_rest : List ℕ → ℕ → Bool
unlike_rest b i = eqb (first_from (record_of b i) b (suc i) (records_in b - suc i)) (records_in b)

-- no two records of b agree in all three
unfoldable pub distinct : List ℕ → Bool
distinct b = each 0 (records_in b) (unlike_rest b)
