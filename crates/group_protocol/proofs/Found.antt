-- Where a group stands that was found, and that it is found where it stands. Assumes nothing.
use Rattle.std.specs.Prelude.{Some}
use mathlib.Core.Path.{◌≡◌, sym, ◌∙◌, ap}
use mathlib.Core.Bool.{true}
use Prim.Native.Nat.{ℕ, ◌-◌, ◌<◌}
use native.Mathlib.Omega.{arith}
use lib.ListN.{length, get_or, length-map, length-take, get_or-map}
use lib.Seq.{get_or-take}
use Rattle.ends.specs.Identities.{distinct}
use Rattle.group_protocol.specs.Head.{registered_groups, group_llids, find_group, past_group, group_at}
use Rattle.group_protocol.specs.Members.{place_from}
use Rattle.group_protocol.specs.declared.GroupRecord.{GroupRecord}
use Rattle.group_protocol.specs.declared.HeadEnd.{HeadEnd}
use Rattle.group_protocol.proofs.Places.{place_at, place_own}
use Rattle.group_protocol.proofs.Llids.{group_place}

-- a place in use, whose group has the LLID
pub record Stands (h : HeadEnd) (llid i : ℕ) : Type 0 where
  pub used : i < h.groups.count
  pub place : i < length h.groups.table
  pub has : (group_at h i).llid ≡ llid

llid_at-holds : (h : HeadEnd) (i : ℕ) → i < h.groups.count → get_or (group_llids (registered_groups h)) i 0 ≡ (group_at h i).llid
unfolding group_llids past_group
llid_at-holds h i used =
    get_or-map (λ (g : GroupRecord). g.llid) (registered_groups h) i past_group
    ∙ ap (λ (g : GroupRecord). g.llid) (get_or-take h.groups.count h.groups.table i past_group used)

llids_length : (h : HeadEnd) → length (group_llids (registered_groups h)) ≡ length (registered_groups h)
unfolding group_llids
llids_length h = length-map (registered_groups h) (λ (g : GroupRecord). g.llid)

pub group_at-holds : (h : HeadEnd) (llid i : ℕ) → find_group h llid ≡ Some i → Stands h llid i
unfolding find_group
group_at-holds h llid i e =
    let gs = registered_groups h in
    let m = place_at 0 (group_llids gs) llid i (sym (group_place 0 gs llid) ∙ e) in
    let n : i - 0 ≡ i = omega arith in
    let l : i < length gs = omega (arith, m.below, llids_length h) in
    let used : i < h.groups.count = omega (arith, length-take h.groups.count h.groups.table) in
    record {
      used = used;
      place = omega (arith, length-take h.groups.count h.groups.table);
      has = sym (llid_at-holds h i used) ∙ (rw n at m.has);
    }

-- where no two groups have one LLID, each is found where it stands
pub group_own : (h : HeadEnd) (llid i : ℕ) → distinct (group_llids (registered_groups h)) ≡ true → Stands h llid i → find_group h llid ≡ Some i
unfolding find_group
group_own h llid i d s =
    let gs = registered_groups h in
    let below : i < length (group_llids gs) = omega (arith, llids_length h, length-take h.groups.count h.groups.table, s.used, s.place) in
    group_place 0 gs llid
    ∙ ap (place_from 0 (group_llids gs)) (sym (llid_at-holds h i s.used ∙ s.has))
    ∙ place_own 0 (group_llids gs) i 0 d below
    ∙ ap Some (omega arith)
