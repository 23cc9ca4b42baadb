-- The table of an OLT's units (01, Clock: OLT calls name a unit by any of its LLIDs). Assumes nothing.
use Rattle.std.specs.Prelude.{ℕ, suc, ◌+◌, Bool, List, [], ◌∷◌, ◌++◌, take, slice_index_or, slice_set, Option, Some, None}
use Rattle.octets.specs.Choice.{pick}
use Rattle.refusal.specs.Number.{number_of}
use Rattle.refusal.specs.declared.Refusal.TheVariants.{UnknownLlid}
use Rattle.ends.specs.Identities.{among, llids_of, has}
use Rattle.ends.specs.Records.{with_channels}
use Rattle.ends.specs.declared.Channels.{Channels}
use Rattle.ends.specs.declared.UnitRecord.{UnitRecord}
use Rattle.ends.specs.declared.Olt.{Olt}

-- the units in use are the first `count`
abbrev pub registered : Olt → List UnitRecord
registered o = take o.count o.units

-- the LLIDs of all the units
unfoldable pub table_llids : List UnitRecord → List ℕ
table_llids [] = []
table_llids (u ∷ us) = llids_of u.identity ++ table_llids us

-- a registered unit has the LLID
abbrev pub is_registered : Olt → ℕ → Bool
is_registered o llid = among llid (table_llids (registered o))

-- the first unit that has the LLID, its place counted from i
unfoldable pub find_from : ℕ → List UnitRecord → ℕ → Option ℕ
find_from i [] llid = None
find_from i (u ∷ us) llid = pick (has u.identity llid) (Some i) (find_from (suc i) us llid)

unfoldable pub find : Olt → ℕ → Option ℕ
find o llid = find_from 0 (registered o) llid

-- the first of two that may be found
abbrev pub found_or : Option ℕ → Option ℕ → Option ℕ
found_or (Some i) f = Some i
found_or None f = f

-- the code for what is found
abbrev pub found_number : Option ℕ → ℕ
found_number (Some i) = 0
found_number None = number_of UnknownLlid

-- what stands for a unit past the end of the list
unfoldable pub past_unit : UnitRecord
past_unit =
    record {
      identity = record { mac = 0; llids = []; count = 0 };
      keys =
          record {
            timer = record { interval = 0; count = 0; flag = 0 };
            active = 0;
            offered = 0;
            slots = record { even = []; odd = [] };
            first = record { noted = 0; at = 0 };
          };
      confirmation = record { confirmed = 0; acknowledged = 0 };
      clock = record { trip = 0; captured = 0; tick = 0; sent = 0; acknowledged = 0 };
    }

abbrev pub unit_at : Olt → ℕ → UnitRecord
unit_at o i = slice_index_or o.units i past_unit

unfoldable pub unit_found : Olt → Option ℕ → UnitRecord
unit_found o (Some i) = unit_at o i
unit_found o None = past_unit

-- the unit that a call names by an LLID
abbrev pub unit_named : Olt → ℕ → UnitRecord
unit_named o llid = unit_found o (find o llid)

-- the channels replaced
unfoldable pub with_olt_channels : Olt → Channels → Olt
with_olt_channels o c = record { shared = with_channels o.shared c; count = o.count; units = o.units }

-- one unit and the channels replaced
unfoldable pub with_unit : Olt → ℕ → Channels → UnitRecord → Olt
with_unit o i c u = record { shared = with_channels o.shared c; count = o.count; units = slice_set o.units i u }

-- one unit more, in the first place that is not in use
unfoldable pub with_one_more : Olt → UnitRecord → Olt
with_one_more o u = record { shared = o.shared; count = o.count + 1; units = slice_set o.units o.count u }
