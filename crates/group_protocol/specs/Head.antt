-- The groups of an OLT, and when a head end is valid (02, C-14: a group takes a unit's place among the sixteen, has one LLID). Assumes
-- nothing.
use Rattle.std.specs.Prelude.{Bool, not, List, [], ◌∷◌, map, ℕ, suc, ◌+◌, leb, eqb, take, get_or, set, replicate, Option, Some, None}
use Rattle.octets.specs.Choice.{both, pick}
use Rattle.octets.specs.Lists.{all}
use Rattle.ends.specs.Limits.{max_units}
use Rattle.ends.specs.Timers.{fresh_timer}
use Rattle.ends.specs.Keys.{no_slots, not_noted}
use Rattle.ends.specs.Identities.{among, distinct, meets}
use Rattle.ends.specs.Records.{new_olt}
use Rattle.ends.specs.Table.{registered, table_llids, with_olt_channels}
use Rattle.ends.specs.Validity.{valid_keys, valid_olt}
use Rattle.ends.specs.declared.Channels.{Channels}
use Rattle.ends.specs.declared.UnitKeys.{UnitKeys}
use Rattle.ends.specs.declared.Olt.{Olt}
use Rattle.group_protocol.specs.Members.{fresh_members, valid_members}
use Rattle.group_protocol.specs.declared.Members.{Members}
use Rattle.group_protocol.specs.declared.GroupRecord.{GroupRecord}
use Rattle.group_protocol.specs.declared.Groups.{Groups}
use Rattle.group_protocol.specs.declared.HeadEnd.{HeadEnd}

---- a group

unfoldable pub with_group_keys : GroupRecord → UnitKeys → GroupRecord
with_group_keys g k = record { keys = k; members = g.members; llid = g.llid }

unfoldable pub with_members : GroupRecord → Members → GroupRecord
with_members g m = record { keys = g.keys; members = m; llid = g.llid }

-- numbers 0, the flag down
unfoldable pub fresh_group : ℕ → ℕ → Members → GroupRecord
fresh_group llid interval members =
    record {
      keys = record { timer = fresh_timer interval; active = 0; offered = 0; slots = no_slots; first = not_noted };
      members = members;
      llid = llid;
    }

-- a place with no group
unfoldable pub no_group : GroupRecord
no_group = fresh_group 0 0 (fresh_members [] 0)

---- the table

-- the groups in use are the first `count`
abbrev pub registered_groups : HeadEnd → List GroupRecord
registered_groups h = take h.groups.count h.groups.table

unfoldable pub group_llids : List GroupRecord → List ℕ
group_llids gs = map (λ (g : GroupRecord). g.llid) gs

-- a registered group has the LLID
abbrev pub is_group : HeadEnd → ℕ → Bool
is_group h llid = among llid (group_llids (registered_groups h))

-- the first group that has the LLID, its place counted from i
unfoldable pub group_from : ℕ → List GroupRecord → ℕ → Option ℕ
group_from i [] llid = None
group_from i (g ∷ gs) llid = pick (eqb g.llid llid) (Some i) (group_from (suc i) gs llid)

unfoldable pub find_group : HeadEnd → ℕ → Option ℕ
find_group h llid = group_from 0 (registered_groups h) llid

-- what stands for a group past the end of the list
unfoldable pub past_group : GroupRecord
past_group =
    record {
      keys =
          record {
            timer = record { interval = 0; count = 0; flag = 0 };
            active = 0;
            offered = 0;
            slots = record { even = []; odd = [] };
            first = record { noted = 0; at = 0 };
          };
      members = record { places = []; marks = []; count = 0 };
      llid = 0;
    }

abbrev pub group_at : HeadEnd → ℕ → GroupRecord
group_at h i = get_or h.groups.table i past_group

-- the places in use: those of the units and those of the groups (D38)
abbrev pub places_taken : HeadEnd → ℕ
places_taken h = h.olt.count + h.groups.count

---- a head end with a part replaced

unfoldable pub with_olt : HeadEnd → Olt → HeadEnd
with_olt h o = record { olt = o; groups = h.groups }

-- one group and the channels replaced
unfoldable pub with_group : HeadEnd → ℕ → Channels → GroupRecord → HeadEnd
with_group h i c g =
    record { olt = with_olt_channels h.olt c; groups = record { count = h.groups.count; table = set h.groups.table i g } }

-- one group more, in the first place that is not in use
unfoldable pub with_one_group_more : HeadEnd → GroupRecord → HeadEnd
with_one_group_more h g =
    record { olt = h.olt; groups = record { count = h.groups.count + 1; table = set h.groups.table h.groups.count g } }

unfoldable pub no_groups : Groups
no_groups = record { count = 0; table = replicate max_units no_group }

unfoldable pub new_head : ℕ → ℕ → HeadEnd
new_head mac clock = record { olt = new_olt mac clock; groups = no_groups }

---- when it is valid. Beside each line stands the cause of 1 that it excludes

-- O is A or A + 1: there is no C
unfoldable pub valid_group_numbers : UnitKeys → Bool
valid_group_numbers k = both (leb k.active k.offered) (leb k.offered (k.active + 1))

-- at that tick, of an OLT with that many units
unfoldable pub valid_group : ℕ → ℕ → GroupRecord → Bool
valid_group tick units g =
    both (valid_members units g.members)
    (both (valid_keys tick g.keys)  -- interval or flag outside its range; a first send later than the tick
    (valid_group_numbers g.keys))  -- A or O breaking the rules

-- the LLIDs of groups are all different, and none is a unit's
unfoldable pub apart_llids : List ℕ → List ℕ → Bool
apart_llids units groups = both (distinct groups) (not (meets groups units))

unfoldable pub valid_groups : HeadEnd → Bool
valid_groups h =
    both (leb (places_taken h) max_units)  -- places of units and groups above sixteen
    (both (all (valid_group h.olt.shared.tick h.olt.count) (registered_groups h))
    (apart_llids (table_llids (registered h.olt)) (group_llids (registered_groups h))))  -- an LLID twice

unfoldable pub valid_head : HeadEnd → Bool
valid_head h = both (valid_olt h.olt) (valid_groups h)
