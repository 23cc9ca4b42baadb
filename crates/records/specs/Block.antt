-- The octets of a capture block b, and where it keeps its records (01, Capture block). Pair i and record i have i others before
-- them, so 01's pair k and record k are pair and record k - 1 here. Assumes nothing.
use Rattle.std.specs.Prelude.{List, ℕ, zero, suc, ◌+◌, ◌*◌, drop}
use Rattle.octets.specs.BigEndian.{number_at}
use Rattle.octets.specs.Lists.{part}
use Rattle.records.specs.declared.header.Header.{Header}
use Rattle.records.specs.Record.{record_header, record_octets}

-- the most octets of a block; one longer is 15 (D70)
abbrev pub most_octets : ℕ
most_octets = 65536

abbrev pub most_records : ℕ
most_records = 256

-- the count has two octets, and a pair eight: offset (4) and length (4)
abbrev pub count_octets : ℕ
count_octets = 2

abbrev pub pair_octets : ℕ
pair_octets = 8

-- the octets of the count and n pairs, behind which pair n begins
abbrev pub directory_octets : ℕ → ℕ
directory_octets n = count_octets + pair_octets * n

unfoldable pub records_in : List ℕ → ℕ
records_in b = number_at count_octets b 0

unfoldable pub offset_of : List ℕ → ℕ → ℕ
offset_of b i = number_at 4 b (directory_octets i)

unfoldable pub length_of : List ℕ → ℕ → ℕ
length_of b i = number_at 4 b (directory_octets i + 4)

-- where record i ends
unfoldable pub end_of : List ℕ → ℕ → ℕ
end_of b i = offset_of b i + length_of b i

-- where record i is to start: the first behind the directory, each next where the previous ends
unfoldable pub due_of : List ℕ → ℕ → ℕ
due_of b zero = directory_octets (records_in b)
due_of b (suc i) = end_of b i

unfoldable pub record_of : List ℕ → ℕ → List ℕ
record_of b i = part b (offset_of b i) (length_of b i)

-- the header that starts at `from`, and the record there, as long as its EQs say (D75)
unfoldable pub header_from : List ℕ → ℕ → Header
header_from b from = record_header (drop from b)

unfoldable pub record_from : List ℕ → ℕ → List ℕ
record_from b from = part b from (record_octets (header_from b from).eqs)
