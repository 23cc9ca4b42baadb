-- What a unit's and a group's answers depend on (02, C-22). Two valid head ends that agree on it answer the same, and leave the same own
-- part; the places may differ. Assumes nothing.
use Rattle.std.specs.Prelude.{◌≡◌, true, List, map, ℕ, ◌<◌, length}
use Rattle.ends.specs.Identities.{has, llids_of}
use Rattle.ends.specs.Table.{registered, unit_at}
use Rattle.ends.specs.declared.UnitKeys.{UnitKeys}
use Rattle.ends.specs.declared.UnitRecord.{UnitRecord}
use Rattle.group_protocol.specs.Head.{group_at, registered_groups, valid_head}
use Rattle.group_protocol.specs.Members.{places_of}
use Rattle.group_protocol.specs.declared.GroupRecord.{GroupRecord}
use Rattle.group_protocol.specs.declared.HeadEnd.{HeadEnd}
use Rattle.orders.specs.Calls.{Call, after, answer_of}
use Rattle.orders.specs.Parties.{llid_of}

---- a unit, at place i of the one and j of the other: its own record, and the OLT's MAC, tick, clock and channels

-- both places are in use
pub record SameUnit (h k : HeadEnd) (i j : ℕ) : Type 0 where
  pub first : i < length (registered h.olt)
  pub second : j < length (registered k.olt)
  pub shared : h.olt.shared ≡ k.olt.shared
  pub own : unit_at h.olt i ≡ unit_at k.olt j

-- calls that name an LLID of it
abbrev pub UnitLocal : Type 0
UnitLocal =
    (h k : HeadEnd) (i j : ℕ) (c : Call) → valid_head h ≡ true → valid_head k ≡ true → SameUnit h k i j
    → has (unit_at h.olt i).identity (llid_of c) ≡ true
    → (answer_of h c ≡ answer_of k c) × SameUnit (after h c) (after k c) i j

---- a group: its own record but for its members' places; and of each member its LLIDs and clock acknowledgement (D51)

pub record GroupPart : Type 0 where
  pub keys : UnitKeys
  pub marks : List ℕ
  pub count : ℕ
  pub llid : ℕ

abbrev pub group_part : GroupRecord → GroupPart
group_part g = record { keys = g.keys; marks = g.members.marks; count = g.members.count; llid = g.llid }

pub record MemberPart : Type 0 where
  pub llids : List ℕ
  pub acknowledged : ℕ

abbrev pub member_part : UnitRecord → MemberPart
member_part u = record { llids = llids_of u.identity; acknowledged = u.clock.acknowledged }

unfoldable pub member_parts : HeadEnd → ℕ → List MemberPart
member_parts h i = map (λ place. member_part (unit_at h.olt place)) (places_of (group_at h i).members)

pub record SameGroup (h k : HeadEnd) (i j : ℕ) : Type 0 where
  pub first : i < length (registered_groups h)
  pub second : j < length (registered_groups k)
  pub shared : h.olt.shared ≡ k.olt.shared
  pub own : group_part (group_at h i) ≡ group_part (group_at k j)
  pub members : member_parts h i ≡ member_parts k j

-- calls that name its LLID
abbrev pub GroupLocal : Type 0
GroupLocal =
    (h k : HeadEnd) (i j : ℕ) (c : Call) → valid_head h ≡ true → valid_head k ≡ true → SameGroup h k i j
    → (group_at h i).llid ≡ llid_of c
    → (answer_of h c ≡ answer_of k c) × SameGroup (after h c) (after k c) i j

-- for a unit and for a group
pub record Locality : Type 0 where
  pub unit : UnitLocal
  pub group : GroupLocal
