-- The groups of a head end stay valid: one replaced, one more, and a unit more. Assumes nothing.
use mathlib.Core.Path.{◌≡◌, refl, ◌∙◌, ap}
use mathlib.Core.Bool.{true, false}
use mathlib.Core.List.{[], ◌∷◌, ◌++◌}
use Prim.Native.Nat.{ℕ, ◌+◌, ◌<◌, ◌≤◌}
use native.Mathlib.Numerals.{add-one}
use native.Mathlib.Omega.{arith}
use lib.ListN.{length, take, set}
use lib.Seq.{get_or-take, map-set_same, take-set-lt, take-suc-set}
use Rattle.octets.specs.Lists.{all}
use Rattle.octets.proofs.Choice.{both_true, either_none}
use Rattle.octets.proofs.Tests.{all_append, all_set, all_weaker}
use Rattle.ends.specs.Identities.{distinct, meets, llids_of}
use Rattle.ends.specs.Limits.{max_units, max_llids}
use Rattle.ends.specs.Records.{with_channels, fresh_unit}
use Rattle.ends.specs.Table.{registered, table_llids, is_registered, with_one_more, with_olt_channels}
use Rattle.ends.specs.declared.Channels.{Channels}
use Rattle.ends.specs.declared.Identity.{Identity}
use Rattle.ends.proofs.Identities.{meets_append, distinct_more}
use Rattle.ends.proofs.Table.{more_registered}
use Rattle.protocol.proofs.Registration.{table_append, fresh_llids}
use Rattle.group_protocol.specs.Head.{registered_groups, group_llids, is_group, group_at, past_group, places_taken, with_olt, with_group, with_one_group_more, valid_group, valid_groups}
use Rattle.group_protocol.specs.declared.GroupRecord.{GroupRecord}
use Rattle.group_protocol.specs.declared.HeadEnd.{HeadEnd}
use Rattle.group_protocol.proofs.GroupSteps.{group_later_valid}
use Rattle.group_protocol.proofs.HeadValidity.{groups_in_range, groups_valid}
use Rattle.group_protocol.proofs.Llids.{llids_append, meets_last}

---- one group replaced

pub replaced_groups_valid : (h : HeadEnd) (i : ℕ) (c : Channels) (g : GroupRecord) → i < h.groups.count → g.llid ≡ (group_at h i).llid
    → valid_group h.olt.shared.tick h.olt.count g ≡ true → valid_groups h ≡ true → valid_groups (with_group h i c g) ≡ true
unfolding with_group with_olt_channels with_channels group_llids
replaced_groups_valid h i c g used e v w =
    let r = groups_in_range h w in
    let n = h.groups.count in
    let l = h.groups.table in
    let taken = take-set-lt n l i g used in
    let same : group_llids (set (take n l) i g) ≡ group_llids (take n l) =
    map-set_same (λ (x : GroupRecord). x.llid) (take n l) i g past_group (rw (get_or-take n l i past_group used) e) in
    let each = all_set (valid_group h.olt.shared.tick h.olt.count) (take n l) i g r.each v in
    groups_valid (with_group h i c g)
    (record { places = r.places; each = rw taken each; distinct = rw (taken, same) r.distinct; apart = rw (taken, same) r.apart })

---- one group more

pub more_groups_valid : (h : HeadEnd) (g : GroupRecord) → places_taken h < max_units → h.groups.count < length h.groups.table
    → is_group h g.llid ≡ false → is_registered h.olt g.llid ≡ false → valid_group h.olt.shared.tick h.olt.count g ≡ true
    → valid_groups h ≡ true → valid_groups (with_one_group_more h g) ≡ true
unfolding with_one_group_more group_llids all
more_groups_valid h g room place new other v w =
    let r = groups_in_range h w in
    let n = h.groups.count in
    let l = h.groups.table in
    let grown : take (n + 1) (set l n g) ≡ take n l ++ (g ∷ []) = rw (add-one, take-suc-set l n g place) in
    let llids : group_llids (take (n + 1) (set l n g)) ≡ group_llids (take n l) ++ (g.llid ∷ []) =
    ap group_llids grown ∙ llids_append (take n l) (g ∷ []) in
    groups_valid (with_one_group_more h g)
    (record {
      places = omega (arith, room);
      each = rw grown (all_append (valid_group h.olt.shared.tick h.olt.count) (take n l) (g ∷ []) r.each (both_true v refl));
      distinct = rw llids (distinct_more (group_llids (take n l)) g.llid r.distinct new);
      apart = rw llids (meets_last (group_llids (take n l)) g.llid (table_llids (registered h.olt)) r.apart other);
    })

---- one unit more

pub unit_more_groups_valid : (h : HeadEnd) (i : Identity) (trip interval : ℕ) → places_taken h < max_units → h.olt.count < length h.olt.units
    → i.count ≤ max_llids → meets (group_llids (registered_groups h)) (llids_of i) ≡ false → valid_groups h ≡ true
    → valid_groups (with_olt h (with_one_more h.olt (fresh_unit i trip interval))) ≡ true
unfolding with_olt
unit_more_groups_valid h i trip interval room place few apart w =
    let r = groups_in_range h w in
    let u = fresh_unit i trip interval in
    let llids : table_llids (registered (with_one_more h.olt u)) ≡ table_llids (registered h.olt) ++ llids_of i =
    rw (more_registered h.olt u place, table_append (registered h.olt) (u ∷ []), fresh_llids i trip interval few) in
    groups_valid (with_olt h (with_one_more h.olt u))
    (record {
      places = unfold with_one_more in omega (arith, room);
      each = unfold with_one_more in
          all_weaker (valid_group h.olt.shared.tick h.olt.count) (valid_group h.olt.shared.tick (h.olt.count + 1))
          (λ g v. group_later_valid h.olt.shared.tick h.olt.count g v (h.olt.count + 1) (omega arith)) (registered_groups h) r.each;
      distinct = r.distinct;
      apart = rw (llids, meets_append) (either_none r.apart apart);
    })
