-- A valid head end stays valid as units and groups come and as time passes. Assumes nothing.
use mathlib.Core.Path.{◌≡◌, refl, sym, ap, ap₂, ◌∙◌}
use mathlib.Core.Bool.{true}
use Prim.Native.Nat.{ℕ, ◌+◌, ◌≤◌}
use native.Mathlib.Omega.{arith}
use lib.ListN.{length}
use borrow.Author.Tests.{leb-false, not-false}
use Rattle.octets.specs.Lists.{all}
use Rattle.octets.proofs.Choice.{both_left, both_right, either_false, not_of_true}
use Rattle.octets.proofs.Maps.{map_same, take_first}
use Rattle.octets.proofs.Tests.{all_map}
use Rattle.refusal.specs.declared.Refusal.TheVariants.{OutOfRange}
use Rattle.clock.specs.Ticks.{max_tick}
use Rattle.refusal.proofs.Order.{refuse_accepted, refuse_passed}
use Rattle.ends.specs.Identities.{distinct, meets}
use Rattle.ends.specs.Limits.{max_units}
use Rattle.ends.specs.Records.{fresh_unit}
use Rattle.ends.specs.Table.{registered, table_llids, with_one_more}
use Rattle.ends.specs.Validity.{valid_olt}
use Rattle.ends.specs.declared.Identity.{Identity}
use Rattle.ends.proofs.Identities.{identity_valid}
use Rattle.ends.proofs.Table.{identity_of, llids_same}
use Rattle.ends.proofs.Validity.{olt_in_range}
use Rattle.protocol.specs.OltCalls.{fresh_olt_of, olt_advanced, shared_advanced, valid_registration}
use Rattle.protocol.specs.Replies.{advance_verdict, on_valid, silent}
use Rattle.protocol.specs.UnitCalls.{unit_advanced}
use Rattle.protocol.proofs.OltAdvance.{olt_advanced_valid, unit_identity-holds}
use Rattle.protocol.proofs.OltCalls.{fresh_valid}
use Rattle.protocol.proofs.Registration.{register_valid}
use Rattle.protocol.proofs.Replies.{advance_accepted, reply_accepted, reply_keeps}
use Rattle.group_protocol.specs.GroupCalls.{group_advanced}
use Rattle.group_protocol.specs.Head.{fresh_group, group_llids, no_groups, places_taken, registered_groups, valid_group, valid_groups, valid_head, with_olt, with_one_group_more}
use Rattle.group_protocol.specs.declared.GroupRecord.{GroupRecord}
use Rattle.group_protocol.specs.declared.HeadEnd.{HeadEnd}
use Rattle.group_protocol.specs.declared.Members.{Members}
use Rattle.group_protocol.specs.declared.Roster.{Roster}
use Rattle.group_protocol.proofs.GroupSteps.{advanced_llid, fresh_group_valid, group_advanced_valid}
use Rattle.group_protocol.proofs.HeadGroups.{more_groups_valid, unit_more_groups_valid}
use Rattle.group_protocol.proofs.HeadValidity.{groups_in_range, groups_valid, head_in_range, head_valid}
use Rattle.headend.specs.HeadCalls.{fresh_head_of, group_verdict, groups_advanced, head_advanced, head_advance_of, head_answer, head_register_of, register_group_of, roster_members, unit_verdict, valid_group_registration}
use Rattle.headend.proofs.Registrations.{registered_olt, unit_accepted}
use Rattle.refusal.specs.Verdict.{no_refusal}

---- fresh

pub valid_after_fresh : (mac clock : ℕ) → valid_head (fresh_head_of mac clock).head ≡ true
unfolding fresh_head_of no_groups all group_llids distinct meets
valid_after_fresh mac clock =
    let v = fresh_valid mac clock in
    let few = (olt_in_range (fresh_olt_of mac clock).olt v).count in
    head_valid _ (record { olt = v; groups = groups_valid _ (record { places = omega arith; each = refl; distinct = refl; apart = refl }) })

---- one unit more

unit_registered_valid : (h : HeadEnd) (i : Identity) (trip interval : ℕ) → length h.olt.units ≡ max_units → valid_head h ≡ true
    → on_valid (valid_head h) (unit_verdict h i trip interval) ≡ no_refusal
    → valid_head (with_olt h (with_one_more h.olt (fresh_unit i trip interval))) ≡ true
unfolding unit_verdict valid_registration with_olt
unit_registered_valid h i trip interval len v e =
    let r = head_in_range h v in
    let a = refuse_accepted _ _ _ (refuse_accepted _ _ _ e).1 in
    let b = refuse_accepted _ _ _ a.1 in
    let c = refuse_accepted _ _ _ b.1 in
    let room = leb-false max_units (places_taken h) c.0 in
    let few = (identity_valid i (both_left _ _ (not-false _ a.0))).1 in
    let order = unit_accepted h i trip interval e in
    head_valid _
    (record {
      olt = ap valid_olt (sym (registered_olt h.olt i trip interval order)) ∙ register_valid h.olt i trip interval r.olt;
      groups = unit_more_groups_valid h i trip interval (omega arith) (omega arith) few (either_false _ _ b.0).1 r.groups;
    })

pub valid_after_register : (h : HeadEnd) (i : Identity) (trip interval : ℕ) → length h.olt.units ≡ max_units → valid_head h ≡ true
    → valid_head (head_register_of h i trip interval).head ≡ true
unfolding head_register_of head_answer
valid_after_register h i trip interval len v = reply_keeps (λ (x : HeadEnd). valid_head x ≡ true) _ h silent _ silent v
    (unit_registered_valid h i trip interval len v)

---- one group more

group_registered_valid : (h : HeadEnd) (llid interval : ℕ) → length h.groups.table ≡ max_units → valid_head h ≡ true → (m : Members) → on_valid
    (valid_head h) (group_verdict h llid interval m) ≡ no_refusal
    → valid_head (with_one_group_more h (fresh_group llid interval m)) ≡ true
unfolding group_verdict valid_group_registration with_one_group_more fresh_group
group_registered_valid h llid interval len v m e =
    let r = head_in_range h v in
    let g = fresh_group llid interval m in
    let a = refuse_accepted _ _ _ (refuse_accepted _ _ _ e).1 in
    let b = refuse_accepted _ _ _ a.1 in
    let c = refuse_accepted _ _ _ b.1 in
    let new = either_false _ _ c.0 in
    let room = leb-false max_units (places_taken h) (refuse_accepted _ _ _ c.1).0 in
    let valid = fresh_group_valid h.olt.shared.tick h.olt.count llid interval m (not-false _ b.0) (both_right _ _ (not-false _ a.0)) in
    head_valid _ (record { olt = r.olt; groups = more_groups_valid h g (omega arith) (omega arith) new.1 new.0 valid r.groups })

pub valid_after_register_group : (h : HeadEnd) (llid interval : ℕ) (roster : Roster) → length h.groups.table ≡ max_units → valid_head h ≡ true
    → valid_head (register_group_of h llid interval roster).head ≡ true
unfolding register_group_of head_answer
valid_after_register_group h llid interval roster len v =
    reply_keeps (λ (x : HeadEnd). valid_head x ≡ true) _ h silent _ silent v (group_registered_valid h llid interval len v (roster_members h.olt roster))

---- time

pub advanced_groups_valid : (h : HeadEnd) (n : ℕ) → valid_groups h ≡ true → valid_groups (head_advanced h n) ≡ true
unfolding head_advanced groups_advanced olt_advanced shared_advanced group_llids
advanced_groups_valid h n v =
    let r = groups_in_range h v in
    let groups = take_first (group_advanced n) h.groups.count h.groups.table in
    let llids : group_llids (registered_groups (head_advanced h n)) ≡ group_llids (registered_groups h) =
    ap group_llids groups ∙ map_same (group_advanced n) (λ (g : GroupRecord). g.llid) (advanced_llid n) (registered_groups h) in
    let units : table_llids (registered (olt_advanced h.olt n)) ≡ table_llids (registered h.olt) =
    ap table_llids (take_first (unit_advanced n) h.olt.count h.olt.units)
    ∙ llids_same _ _ (map_same (unit_advanced n) identity_of (unit_identity-holds n) (registered h.olt)) in
    groups_valid (head_advanced h n)
    (record {
      places = r.places;
      each =
          ap (all (valid_group (h.olt.shared.tick + n) h.olt.count)) groups
          ∙ all_map (valid_group h.olt.shared.tick h.olt.count) (valid_group (h.olt.shared.tick + n) h.olt.count) (group_advanced n)
          (λ g w. group_advanced_valid h.olt.shared.tick h.olt.count g w n) (registered_groups h) r.each;
      distinct = ap distinct llids ∙ r.distinct;
      apart = ap₂ meets llids units ∙ r.apart;
    })

head_advanced_valid : (h : HeadEnd) (n : ℕ) → valid_head h ≡ true → h.olt.shared.tick + n ≤ max_tick → valid_head (head_advanced h n) ≡ true
unfolding head_advanced
head_advanced_valid h n v k =
    let r = head_in_range h v in
    head_valid (head_advanced h n) (record { olt = olt_advanced_valid h.olt n k r.olt; groups = advanced_groups_valid h n r.groups })

-- accepted, it moves the groups with the OLT
pub advance_moves : (h : HeadEnd) (n : ℕ) → valid_head h ≡ true → advance_verdict h.olt.shared.tick n ≡ no_refusal
    → head_advance_of h n ≡ record { number = 0; head = head_advanced h n }
unfolding head_advance_of head_answer
advance_moves h n v e = ap head_answer (reply_accepted _ h silent (head_advanced h n) silent (refuse_passed _ OutOfRange _ (not_of_true v) ∙ e))

pub valid_after_advance : (h : HeadEnd) (n : ℕ) → valid_head h ≡ true → valid_head (head_advance_of h n).head ≡ true
unfolding head_advance_of head_answer
valid_after_advance h n v =
    reply_keeps (λ (x : HeadEnd). valid_head x ≡ true) _ h silent _ silent v
    (λ a. head_advanced_valid h n v (advance_accepted h.olt.shared.tick n (refuse_accepted _ _ _ a).1))
