-- What validity says of a group, of the groups and of a head end, as facts, and that the facts give it. Assumes nothing.
use mathlib.Core.Path.{◌≡◌}
use mathlib.Core.Bool.{true, false}
use Prim.Native.Nat.{ℕ, ◌+◌, ◌≤◌}
use Rattle.octets.specs.Lists.{all}
use Rattle.ends.specs.Identities.{distinct, meets}
use Rattle.ends.specs.Keys.{valid_first}
use Rattle.ends.specs.Limits.{max_units}
use Rattle.ends.specs.Table.{registered, table_llids}
use Rattle.ends.specs.Timers.{valid_timer}
use Rattle.ends.specs.Validity.{valid_keys, valid_olt}
use Rattle.ends.proofs.Validity.{facts, tests}
use Rattle.group_protocol.specs.Head.{apart_llids, group_llids, places_taken, registered_groups, valid_group, valid_group_numbers, valid_groups, valid_head}
use Rattle.group_protocol.specs.Members.{valid_members}
use Rattle.group_protocol.specs.declared.GroupRecord.{GroupRecord}
use Rattle.group_protocol.specs.declared.HeadEnd.{HeadEnd}

---- a group

pub record GroupInRange (tick units : ℕ) (g : GroupRecord) : Type 0 where
  pub members : valid_members units g.members ≡ true
  pub timer : valid_timer g.keys.timer ≡ true
  pub first : valid_first g.keys.first tick ≡ true
  pub low : g.keys.active ≤ g.keys.offered
  pub high : g.keys.offered ≤ g.keys.active + 1

pub group_in_range : (tick units : ℕ) (g : GroupRecord) → valid_group tick units g ≡ true → GroupInRange tick units g
unfolding valid_group valid_keys valid_group_numbers
group_in_range tick units g e = search facts

pub group_valid : (tick units : ℕ) (g : GroupRecord) → GroupInRange tick units g → valid_group tick units g ≡ true
unfolding valid_group valid_keys valid_group_numbers
group_valid tick units g r = search tests

---- the groups of a head end

pub record GroupsInRange (h : HeadEnd) : Type 0 where
  pub places : places_taken h ≤ max_units
  pub each : all (valid_group h.olt.shared.tick h.olt.count) (registered_groups h) ≡ true
  pub distinct : distinct (group_llids (registered_groups h)) ≡ true
  pub apart : meets (group_llids (registered_groups h)) (table_llids (registered h.olt)) ≡ false

pub groups_in_range : (h : HeadEnd) → valid_groups h ≡ true → GroupsInRange h
unfolding valid_groups apart_llids
groups_in_range h e = search facts

pub groups_valid : (h : HeadEnd) → GroupsInRange h → valid_groups h ≡ true
unfolding valid_groups apart_llids
groups_valid h r = search tests

---- the head end

pub record HeadInRange (h : HeadEnd) : Type 0 where
  pub olt : valid_olt h.olt ≡ true
  pub groups : valid_groups h ≡ true

pub head_in_range : (h : HeadEnd) → valid_head h ≡ true → HeadInRange h
unfolding valid_head
head_in_range h e = search facts

pub head_valid : (h : HeadEnd) → HeadInRange h → valid_head h ≡ true
unfolding valid_head
head_valid h r = search tests
