-- When a lent end is valid (01, 'When the reader says no': Ahead of each list comes 1). Beside each line stands the cause of that
-- sentence that it excludes, and there is no other (D2). The types hold the ranges that are not tested here: an LLID is a u16, all codes
-- allowed (D17); A, C, O and a are u32, so key numbers or 0; a key is sixteen u8. A place that is not in use is no field of the end (D6).
-- Assumes nothing.
use Rattle.std.specs.Prelude.{ℕ, ◌+◌, Bool, List, ◌==◌, nat_le, nat_lt, Option, None}
use Rattle.octets.specs.Choice.{both, either, pick}
use Rattle.octets.specs.Lists.{all}
use Rattle.clock.specs.Ticks.{max_tick, clock_turn, local_turn, max_round_trip}
use Rattle.ends.specs.Limits.{max_units, max_key_number}
use Rattle.ends.specs.Flags.{is_up}
use Rattle.ends.specs.Timers.{valid_timer}
use Rattle.ends.specs.Keys.{valid_first}
use Rattle.ends.specs.Travels.{valid_changes}
use Rattle.ends.specs.Occupancy.{valid_channels}
use Rattle.ends.specs.Identities.{distinct, llids_of, valid_mac, valid_identity}
use Rattle.ends.specs.Table.{registered, table_llids, find_from, find}
use Rattle.ends.specs.declared.UnitKeys.{UnitKeys}
use Rattle.ends.specs.declared.UnitClock.{UnitClock}
use Rattle.ends.specs.declared.UnitRecord.{UnitRecord}
use Rattle.ends.specs.declared.Shared.{Shared}
use Rattle.ends.specs.declared.Olt.{Olt}
use Rattle.ends.specs.declared.Judged.{Judged}
use Rattle.ends.specs.declared.OnuKeys.{OnuKeys}
use Rattle.ends.specs.declared.OnuClock.{OnuClock}
use Rattle.ends.specs.declared.Onu.{Onu}

-- C ≤ A ≤ O ≤ C + 1 (D3)
unfoldable pub valid_numbers : ℕ → ℕ → ℕ → Bool
valid_numbers confirmed active offered =
    both (nat_le confirmed active)  -- C above A
    (both (nat_le active offered)  -- O below A
    (nat_le offered (confirmed + 1)))  -- C below A - 1, O above A + 1, or C = A - 1 with O = A + 1, since an offer needs C = A

unfoldable pub valid_keys : ℕ → UnitKeys → Bool
valid_keys tick k =
    both (valid_timer k.timer)  -- interval or flag outside its range; a count that is not below the interval
    (valid_first k.first tick)  -- flag outside its range; a first send later than the tick

unfoldable pub valid_unit_clock : ℕ → UnitClock → Bool
valid_unit_clock tick c =
    both (nat_le c.trip max_round_trip)  -- round trip outside its range
    (both (nat_le c.captured 1)  -- flag outside its range
    (both (either (c.captured == 0) (nat_le c.tick tick))  -- a capture later than the tick
    (both (nat_le c.sent 1) (nat_le c.acknowledged 1))))  -- flags outside their range

unfoldable pub valid_unit : ℕ → UnitRecord → Bool
valid_unit tick u =
    both (valid_identity u.identity)  -- MAC or number of LLIDs outside its range
    (both (valid_keys tick u.keys)
    (both (valid_numbers u.confirmation.confirmed u.keys.active u.keys.offered)  -- A, C or O breaking the rules
    (both (nat_le u.confirmation.acknowledged 1)  -- flag outside its range
    (valid_unit_clock tick u.clock))))

unfoldable pub valid_shared : Shared → Bool
valid_shared s =
    both (valid_mac s.mac)  -- MAC outside its range
    (both (nat_le s.tick max_tick)  -- tick outside its range
    (both (nat_lt s.clock clock_turn)  -- clock outside its range
    (valid_channels s.channels)))  -- a channel's tick outside its range

unfoldable pub valid_olt : Olt → Bool
valid_olt o =
    both (nat_le o.count max_units)  -- number of units outside its range
    (both (valid_shared o.shared)
    (both (all (valid_unit o.shared.tick) (registered o))
    (distinct (table_llids (registered o)))))  -- an LLID twice; a MAC may stand twice (D16)

-- whether an OLT is valid and, if so, where the unit stands that has the LLID
unfoldable pub judged : Bool → Option ℕ → Judged
judged valid f = record { valid = valid; found = pick valid f None }

-- of the units alone
unfoldable pub judged_table : ℕ → List UnitRecord → ℕ → Judged
judged_table tick us llid = judged (both (all (valid_unit tick) us) (distinct (table_llids us))) (find_from 0 us llid)

unfoldable pub judged_of : Olt → ℕ → Judged
judged_of o llid = judged (valid_olt o) (find o llid)

unfoldable pub valid_onu_keys : OnuKeys → Bool
valid_onu_keys k =
    both (nat_le k.held 1)  -- flag outside its range
    (either (k.held == 0) (nat_lt k.active max_key_number))  -- number a + 1 of a held key outside the key numbers (D5)

-- Tx and LocalTime share the field `time`: it is Tx, of 48 bits, once synced, and LocalTime, of 32, before (D10)
unfoldable pub valid_onu_clock : OnuClock → Bool
valid_onu_clock c =
    both (nat_le c.synced 1)  -- flag outside its range
    (both (nat_lt c.rx clock_turn)  -- Rx outside its range, synced or not (D7)
    (pick (is_up c.synced) (nat_lt c.time clock_turn) (nat_lt c.time local_turn)))  -- Tx or LocalTime outside its range

unfoldable pub valid_onu : Onu → Bool
valid_onu o =
    both (valid_identity o.identity)  -- MAC or number of LLIDs outside its range
    (both (distinct (llids_of o.identity))  -- an LLID twice
    (both (valid_mac o.oltmac)  -- the OLT's MAC outside its range
    (both (nat_le o.tick max_tick)  -- tick outside its range
    (both (valid_onu_clock o.clock)
    (both (valid_onu_keys o.keys)
    (both (nat_le o.first.noted 1)  -- flag outside its range; a first send's travel may be anything
    (both (valid_changes o.travel.changes)  -- a sum of changes outside its range (02, C-16)
    (valid_channels o.channels))))))))  -- a channel's tick outside its range
