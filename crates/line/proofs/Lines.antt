-- Who has which LLID: a group's line is that of its place at the OLT, and no LLID is a group's and a unit's. Assumes nothing.
use Rattle.std.specs.Prelude.{Some, None}
use mathlib.Core.Path.{◌≡◌, refl, sym, ◌∙◌, ap}
use mathlib.Core.Bool.{Bool, true, false}
use mathlib.Core.List.{List, [], map}
use Prim.Native.Nat.{ℕ, ◌<◌}
use native.Mathlib.Omega.{arith}
use lib.Dec.{eqb, ltb}
use lib.ListN.{length, get_or, set, length-map, get_or-eq_default}
use lib.Seq.{get_or-set_same, get_or-set_other}
use borrow.Author.Tests.{eqb-true, eqb-false, ltb-true, ltb-false, eq-eqb, ne_eqb}
use Rattle.octets.specs.Choice.{both, pick}
use Rattle.octets.proofs.Choice.{both_left, both_right, pick_true, pick_false, pick_same, true_false}
use Rattle.ends.specs.Identities.{no_identity, has}
use Rattle.ends.specs.Records.{new_onu}
use Rattle.ends.specs.Table.{is_registered}
use Rattle.ends.specs.declared.Onu.{Onu}
use Rattle.ends.proofs.Identities.{meets_apart}
use Rattle.ends.proofs.Table.{registered_found}
use Rattle.group_protocol.specs.Head.{is_group, find_group, valid_groups}
use Rattle.group_protocol.specs.Subscriber.{find_joined, has_joined, valid_memberships}
use Rattle.group_protocol.specs.Subscriber as subscribers
use Rattle.group_protocol.specs.declared.HeadEnd.{HeadEnd}
use Rattle.group_protocol.specs.declared.Subscriber.{Subscriber}
use Rattle.group_protocol.proofs.Found.{Stands, group_at-holds, group_own}
use Rattle.group_protocol.proofs.HeadValidity.{groups_in_range}
use Rattle.group_protocol.proofs.Places.{at_nowhere}
use Rattle.group_protocol.proofs.Subscribers.{alone_valid, memberships_valid}
use Rattle.unicast.specs.Setting.{Setting}
use Rattle.unicast.specs.History.{Lane}
use Rattle.unicast.specs.Run.{lane_at, accepted, noted, named, fresh_lane, no_site}
use Rattle.unicast.proofs.Alive.{Alive, registered_alive}
use Rattle.unicast.proofs.Places.{held_found}
use Rattle.line.specs.History.{GroupLane, Membership}
use Rattle.line.specs.Run.{State, alone, subscriber_at, joined_by, no_subscriber, group_lane_at, no_group_lane, noted_for, lanes}
use Rattle.line.proofs.Alone.{onu_alone}
use Rattle.line.proofs.Places.{map_stays, map_one}
use Rattle.line.proofs.Finding.{group_none, joined_none}
use Rattle.line.proofs.Invariant.{Invariant}

---- what validity says

-- a unit's LLID is no group's
pub registered_no_group : (h : HeadEnd) (llid : ℕ) → valid_groups h ≡ true → is_registered h.olt llid ≡ true → find_group h llid ≡ None
registered_no_group h llid v r = group_none h llid (by_test (is_group h llid) refl) where
  by_test : (t : Bool) → is_group h llid ≡ t → is_group h llid ≡ false
  by_test false e = e
  by_test true e = true_false (sym r ∙ meets_apart _ _ llid (groups_in_range h v).apart e)

-- an LLID of its own is none that the unit joined
own_not_joined : (x : Subscriber) (llid : ℕ) → valid_memberships x ≡ true → has x.onu.identity llid ≡ true → find_joined x llid ≡ None
unfolding has
own_not_joined x llid v h = joined_none x llid (by_test (has_joined x llid) refl) where
  by_test : (t : Bool) → has_joined x llid ≡ t → has_joined x llid ≡ false
  by_test false e = e
  by_test true e = true_false (sym h ∙ meets_apart _ _ llid (memberships_valid x v).apart e)

no_memberships-holds : valid_memberships no_subscriber ≡ true
unfolding no_subscriber subscribers.alone
no_memberships-holds = alone_valid (new_onu no_identity 0 0)

module _ (w : Setting) (s : State) (i : Invariant w s) where
  ---- the line of a group

  pub group_stands : (g : ℕ) → g < length s.history.groups → Stands s.head (group_lane_at s g).llid g
  group_stands g h =
      let r = groups_in_range s.head i.valid in
      record {
        used = omega (arith, i.count);
        place = omega (arith, i.count, i.places, r.places);
        has = (i.group g h).llid;
      }

  pub group_finds : (g : ℕ) → g < length s.history.groups → find_group s.head (group_lane_at s g).llid ≡ Some g
  group_finds g h = group_own s.head (group_lane_at s g).llid g (groups_in_range s.head i.valid).distinct (group_stands g h)

  pub found_line : (llid g : ℕ) → find_group s.head llid ≡ Some g → (g < length s.history.groups) × ((group_lane_at s g).llid ≡ llid)
  found_line llid g e =
      let r = group_at-holds s.head llid g e in
      let known : g < length s.history.groups = omega (arith, r.used, i.count) in
      (known, sym (i.group g known).llid ∙ r.has)

  pub line_once : (g h : ℕ) → g < length s.history.groups → h < length s.history.groups → (group_lane_at s g).llid ≡ (group_lane_at s h).llid
      → g ≡ h
  line_once g h p q e =
      let z : Some g ≡ Some h = sym (group_finds g p) ∙ ap (find_group s.head) e ∙ group_finds h q in
      cc

  -- what is noted for an LLID that no group has
  pub noted_none : (number llid : ℕ) (f : GroupLane → GroupLane) → find_group s.head llid ≡ None
      → noted_for number llid f s.history.groups ≡ s.history.groups
  unfolding noted_for
  noted_none number llid f n =
      map_stays _ s.history.groups no_group_lane
      (λ g h.
      ap (λ (x : GroupLane). pick (accepted number) x (group_lane_at s g))
      (pick_false _ _ (ne_eqb _ _ (λ e. at_nowhere g (sym (group_finds g h) ∙ ap (find_group s.head) e ∙ n))))
      ∙ pick_same (accepted number) (group_lane_at s g))

  -- for that of group g
  pub noted_at-holds : (number llid g : ℕ) (f : GroupLane → GroupLane) → number ≡ 0 → find_group s.head llid ≡ Some g
      → noted_for number llid f s.history.groups ≡ set s.history.groups g (f (group_lane_at s g))
  unfolding noted_for
  noted_at-holds number llid g f z e =
      let line = found_line llid g e in
      map_one _ s.history.groups g no_group_lane line.0
      (λ k h n.
      ap (λ (x : GroupLane). pick (accepted number) x (group_lane_at s k))
      (pick_false _ _ (ne_eqb _ _ (λ q. n (line_once k g h line.0 (q ∙ sym line.1)))))
      ∙ pick_same (accepted number) (group_lane_at s k))
      ∙ ap (set s.history.groups g) (pick_true _ _ (eq-eqb number 0 z) ∙ pick_true _ _ (eq-eqb _ _ line.1))

  ---- the LLIDs of units

  pub unit_llid-holds : (u llid : ℕ) → (lane_at (alone s) u).entry.registered ≡ true → has (lane_at (alone s) u).site.identity llid ≡ true
      → is_registered s.head.olt llid ≡ true
  unfolding alone
  unit_llid-holds u llid r h =
      let a = registered_alive w (alone s) u i.units r in
      registered_found s.head.olt llid _
      (held_found w (alone s) (lane_at (alone s) u).entry.place u llid i.units (record { known = a.known; registered = r; place = refl }) h)

  pub unit_no_group : (u llid : ℕ) → (lane_at (alone s) u).entry.registered ≡ true → has (lane_at (alone s) u).site.identity llid ≡ true
      → find_group s.head llid ≡ None
  unit_no_group u llid r h = registered_no_group s.head llid i.valid (unit_llid-holds u llid r h)

  -- a group's LLID is no registered unit's, so that the units' lines note nothing for it
  pub not_named : (llid g u : ℕ) → find_group s.head llid ≡ Some g
      → both (lane_at (alone s) u).entry.registered (has (lane_at (alone s) u).site.identity llid) ≡ false
  not_named llid g u e = by_test (both (lane_at (alone s) u).entry.registered (has (lane_at (alone s) u).site.identity llid)) refl where
    by_test : (t : Bool) → both (lane_at (alone s) u).entry.registered (has (lane_at (alone s) u).site.identity llid) ≡ t
        → both (lane_at (alone s) u).entry.registered (has (lane_at (alone s) u).site.identity llid) ≡ false
    by_test false p = p
    by_test true p = at_nowhere g (sym e ∙ unit_no_group u llid (both_left _ _ p) (both_right _ _ p))

  pub units_unnamed : (llid g number : ℕ) (f : Lane → Lane) → find_group s.head llid ≡ Some g
      → map (noted number (named llid f)) (alone s).history.lanes ≡ (alone s).history.lanes
  unfolding noted named
  units_unnamed llid g number f e =
      map_stays _ (alone s).history.lanes (fresh_lane no_site)
      (λ u h.
      ap (λ (x : Lane). pick (accepted number) x (lane_at (alone s) u)) (pick_false _ _ (not_named llid g u e))
      ∙ pick_same (accepted number) (lane_at (alone s) u))

  ---- the units

  pub subscribers_paired : length s.subscribers ≡ length (lanes s)
  unfolding alone
  subscribers_paired = sym (length-map s.subscribers (λ (x : Subscriber). x.onu)) ∙ i.units.paired

  -- by whether it is the unit that is replaced
  pub by_unit : (u v : ℕ) (x : Subscriber) (ms : List Membership) (P : Subscriber → List Membership → Type 0) → v < length (lanes s)
      → (v ≡ u → P x ms) → ((v ≡ u → ⊥) → P (subscriber_at s v) (joined_by s v))
      → P (get_or (set s.subscribers u x) v no_subscriber) (get_or (set s.history.joined u ms) v [])
  by_unit u v x ms P h own other = by_test (eqb v u) refl where
    by_test : (t : Bool) → eqb v u ≡ t → P (get_or (set s.subscribers u x) v no_subscriber) (get_or (set s.history.joined u ms) v [])
    by_test true e =
        let z : v ≡ u = eqb-true v u e in
        let below : u < length (lanes s) = omega (arith, h, z) in
        rw (
          z,
          get_or-set_same s.subscribers u x no_subscriber (omega (arith, below, subscribers_paired)),
          get_or-set_same s.history.joined u ms [] (omega (arith, below, i.paired)),
        ) (own z)
    by_test false e =
        let n = eqb-false v u e in
        rw (get_or-set_other s.subscribers u v x no_subscriber n, get_or-set_other s.history.joined u v ms [] n) (other n)

  -- past the end stands a unit that joined nothing
  pub memberships_right : (u : ℕ) → valid_memberships (subscriber_at s u) ≡ true
  memberships_right u = by_place (ltb u (length (lanes s))) refl where
    by_place : (t : Bool) → ltb u (length (lanes s)) ≡ t → valid_memberships (subscriber_at s u) ≡ true
    by_place true p = (i.joins u (ltb-true u (length (lanes s)) p)).valid
    by_place false p =
        ap valid_memberships (get_or-eq_default s.subscribers no_subscriber (omega (arith, ltb-false u (length (lanes s)) p, subscribers_paired)))
        ∙ no_memberships-holds

  -- none of a unit's own LLIDs is one that it joined
  pub own_nowhere : (u llid : ℕ) → Alive w (alone s) u → has (lane_at (alone s) u).site.identity llid ≡ true
      → find_joined (subscriber_at s u) llid ≡ None
  own_nowhere u llid a h =
      own_not_joined (subscriber_at s u) llid (memberships_right u)
      (ap (λ (o : Onu). has o.identity llid) (sym (onu_alone s u)) ∙ a.common.llids llid ∙ h)
