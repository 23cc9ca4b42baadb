-- A record, whose own octets are r: its header, and what its length must be (01, Capture block: Record).
-- Assumes nothing.
use Rattle.std.specs.Prelude.{Bool, List, ℕ, ◌+◌, ◌*◌, leb, eqb, length, get_or, drop}
use Rattle.octets.specs.BigEndian.{number_at}
use Rattle.octets.specs.Choice.{both}
use Rattle.octets.specs.Eqs.{eq_octets}
use Rattle.records.specs.declared.header.Header.{Header}

-- the octets ahead of the payload
abbrev pub header_octets : ℕ
header_octets = 16

-- the place of the flags among them
abbrev pub flags_at : ℕ
flags_at = 4

-- octet 0 kind, 1 channel index, 2 and 3 LLID, 4 flags, 5 EPAM, 6 to 11 clock, 12 to 15 EQs
unfoldable pub record_header : List ℕ → Header
record_header r =
    record {
      kind = get_or r 0 0;
      channel = get_or r 1 0;
      llid = number_at 2 r 2;
      flags = get_or r flags_at 0;
      epam = get_or r 5 0;
      clock = number_at 6 r 6;
      eqs = number_at 4 r 12;
    }

unfoldable pub payload_of : List ℕ → List ℕ
payload_of r = drop header_octets r

-- the octets of a record of so many EQs
abbrev pub record_octets : ℕ → ℕ
record_octets eqs = header_octets + eq_octets * eqs

-- the payload is of 9 × EQs, no more and no less
unfoldable pub sized : List ℕ → Bool
sized r = both (leb header_octets (length r)) (eqb (length r) (record_octets (record_header r).eqs))
