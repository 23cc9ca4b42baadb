-- In a valid head end a call names whom the LLID belongs to: no group has a unit's, and nobody another's. Assumes nothing.
use Rattle.std.specs.Prelude.{Option, Some, None}
use mathlib.Core.Path.{◌≡◌, refl, sym, ◌∙◌}
use mathlib.Core.Bool.{true}
use Prim.Native.Nat.{ℕ, ◌<◌}
use native.Mathlib.Omega.{arith}
use lib.ListN.{length, length-take}
use Rattle.octets.proofs.Choice.{true_false}
use Rattle.ends.specs.Identities.{has}
use Rattle.ends.specs.Table.{find, registered, unit_at}
use Rattle.ends.proofs.Identities.{meets_apart}
use Rattle.ends.proofs.Table.{find_own, registered_found}
use Rattle.ends.proofs.Validity.{olt_in_range}
use Rattle.group_protocol.specs.Head.{find_group, group_at, group_llids, registered_groups, valid_head}
use Rattle.group_protocol.specs.declared.HeadEnd.{HeadEnd}
use Rattle.group_protocol.proofs.Found.{group_own}
use Rattle.group_protocol.proofs.HeadValidity.{groups_in_range, head_in_range}
use Rattle.group_protocol.proofs.Places.{at_nowhere}
use Rattle.group_protocol.proofs.Llids.{group_found}
use Rattle.group_protocol.specs.Naming.{by_llid}
use Rattle.orders.specs.Calls.{Call}
use Rattle.orders.specs.Parties.{group, llid_of, party_of, unit, unit_party}

---- a unit

-- a group's LLID is no unit's
pub group_no_unit : (h : HeadEnd) (llid i : ℕ) → valid_head h ≡ true → find_group h llid ≡ Some i → find h.olt llid ≡ None
unfolding find_group
group_no_unit h llid i valid f = by_found (find h.olt llid) refl where
  by_found : (g : Option ℕ) → find h.olt llid ≡ g → g ≡ None
  by_found None e = refl
  by_found (Some j) e =
      true_false
      (sym (registered_found h.olt llid j e)
      ∙ meets_apart (group_llids (registered_groups h)) _ llid (groups_in_range h (head_in_range h valid).groups).apart
      (group_found 0 (registered_groups h) llid i f))

pub unit_named-holds : (h : HeadEnd) (c : Call) (i : ℕ) → valid_head h ≡ true → i < length (registered h.olt)
    → has (unit_at h.olt i).identity (llid_of c) ≡ true → party_of h c ≡ unit i
unfolding party_of by_llid unit_party
unit_named-holds h c i valid used e =
    let o = h.olt in
    let found : find o (llid_of c) ≡ Some i =
    find_own o (llid_of c) i (olt_in_range o (head_in_range h valid).olt).distinct
    (record {
      used = omega (arith, length-take o.count o.units);
      place = omega (arith, length-take o.count o.units);
      has = e;
    }) in
    rw (no_group-holds found (find_group h (llid_of c)) refl, found) where
      no_group-holds : find h.olt (llid_of c) ≡ Some i → (f : Option ℕ) → find_group h (llid_of c) ≡ f → find_group h (llid_of c) ≡ None
      no_group-holds found None g = g
      no_group-holds found (Some j) g = at_nowhere i (sym found ∙ group_no_unit h (llid_of c) j valid g)

---- a group

pub group_named : (h : HeadEnd) (c : Call) (i : ℕ) → valid_head h ≡ true → i < length (registered_groups h)
    → (group_at h i).llid ≡ llid_of c → party_of h c ≡ group i
unfolding party_of by_llid
group_named h c i valid used e =
    let found : find_group h (llid_of c) ≡ Some i =
    group_own h (llid_of c) i (groups_in_range h (head_in_range h valid).groups).distinct
    (record {
      used = omega (arith, length-take h.groups.count h.groups.table);
      place = omega (arith, length-take h.groups.count h.groups.table);
      has = e;
    }) in
    rw found
