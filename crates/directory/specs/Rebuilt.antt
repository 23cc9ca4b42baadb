-- A capture block b with other records in the places of its own. Assumes nothing.
use Rattle.std.specs.Prelude.{List, [], ◌++◌, ℕ, zero, suc, take}
use Rattle.records.specs.Block.{directory_octets, records_in}

-- the m lists from f i on, one after the other
unfoldable pub joined : (ℕ → List ℕ) → ℕ → ℕ → List ℕ
joined f i zero = []
joined f i (suc m) = f i ++ joined f (suc i) m

-- the block b with f i for record i: the directory stays
unfoldable pub rebuilt : (ℕ → List ℕ) → List ℕ → List ℕ
rebuilt f b = take (directory_octets (records_in b)) b ++ joined f 0 (records_in b)
