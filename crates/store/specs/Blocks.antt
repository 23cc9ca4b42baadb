-- A capture block b of the store: something is done to the payload of every record, header and directory stay (02, C-12).
-- Assumes nothing.
use Rattle.std.specs.Prelude.{List, [], ◌++◌, ℕ, zero, suc, take}
use Rattle.planes.specs.Planes.{rearranged, restored}
use Rattle.records.specs.Block.{directory_octets, records_in, record_of}
use Rattle.records.specs.Record.{header_octets, payload_of}

-- the record r with f done to its payload
unfoldable pub with_payload : (List ℕ → List ℕ) → List ℕ → List ℕ
with_payload f r = take header_octets r ++ f (payload_of r)

-- the m records from record i on, each by itself
unfoldable pub records_with : (List ℕ → List ℕ) → List ℕ → ℕ → ℕ → List ℕ
records_with f b i zero = []
records_with f b i (suc m) = with_payload f (record_of b i) ++ records_with f b (suc i) m

-- the directory stays, and the records follow it
unfoldable pub block_with : (List ℕ → List ℕ) → List ℕ → List ℕ
block_with f b = take (directory_octets (records_in b)) b ++ records_with f b 0 (records_in b)

-- the block as it goes to the store, and as it comes back
abbrev pub rearranged_block : List ℕ → List ℕ
rearranged_block b = block_with rearranged b

abbrev pub restored_block : List ℕ → List ℕ
restored_block b = block_with restored b
