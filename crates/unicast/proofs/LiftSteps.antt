-- What a call on the OLT makes of the lanes keeps the invariant: one that replaces the record of one unit, and one that is lifted from
-- a unit to the OLT. Assumes nothing.
use Rattle.std.specs.Prelude.{Err, Some}
use mathlib.Core.Path.{◌≡◌, refl, sym, ◌∙◌, ap, subst}
use mathlib.Core.Bool.{Bool, true, false}
use mathlib.Core.List.{List, map}
use Prim.Native.Nat.{ℕ, ◌+◌, ◌<◌, ◌≤◌}
use native.Mathlib.Omega.{arith}
use lib.Dec.{eqb}
use lib.ListN.{length, set, length-map, length-set}
use lib.Seq.{get_or-set_same, get_or-set_other}
use borrow.Author.Tests.{ne_eqb}
use Rattle.octets.specs.Choice.{both, pick}
use Rattle.octets.proofs.Choice.{pick_holds, both_true, pick_true, pick_false, pick_same, true_false}
use Rattle.octets.proofs.Maps.{map_fixed, map_always}
use Rattle.refusal.specs.Number.{verdict_number}
use Rattle.ends.specs.Identities.{has}
use Rattle.ends.specs.Occupancy.{free_from}
use Rattle.ends.specs.Records.{with_channels}
use Rattle.ends.specs.Table.{find, unit_at, with_unit}
use Rattle.ends.specs.Validity.{valid_olt}
use Rattle.protocol.specs.Lift.{Outcome, lift}
use Rattle.ends.specs.declared.Channels.{Channels}
use Rattle.ends.specs.declared.Olt.{Olt}
use Rattle.ends.specs.declared.Onu.{Onu}
use Rattle.ends.specs.declared.Shared.{Shared}
use Rattle.ends.specs.declared.UnitRecord.{UnitRecord}
use Rattle.refusal.proofs.Order.{refused_accepts}
use Rattle.refusal.proofs.Numbers.{number_accepted}
use Rattle.ends.proofs.Table.{find_at, with_unit-holds, with_other, with_beside}
use Rattle.ends.proofs.Validity.{olt_in_range}
use Rattle.protocol.proofs.Lift.{Lifted, Ends, accepted, refused, lift_ends}
use Rattle.unicast.specs.Setting.{Setting}
use Rattle.unicast.specs.History.{Entry, Lane}
use Rattle.unicast.specs.Run.{State, lane_at, onu_at, no_site, fresh_lane, noted, named, with_lanes, at_olt}
use Rattle.unicast.specs.Bounds.{longest}
use Rattle.unicast.proofs.Cases.{same_or_not}
use Rattle.unicast.proofs.Invariant.{Joined, Common, LaneRight, Invariant}
use Rattle.unicast.proofs.Frames.{common_moved, lane_joined, lane_kept}
use Rattle.unicast.proofs.SendDownSteps.{channels_keep, channels_at_tick}
use Rattle.unicast.proofs.Places.{lane_of, KeysApart, keys_stay, Held, held_once, joined_at-holds, found_has, named_held, set_keeps}
use Rattle.refusal.specs.Verdict.{Verdict, no_refusal}

---- the record of one unit replaced

-- what a call that replaces the record in place p, and the channels, makes of the lanes
pub record Replaces (w : Setting) (s : State) (p : ℕ) (c : Channels) (x : UnitRecord) (lanes : List Lane) : Type 0 where
  pub valid : valid_olt (with_unit s.olt p c x) ≡ true
  pub used : p < s.olt.count
  pub place : p < length s.olt.units
  pub rises : (k : ℕ) → free_from s.olt.shared.channels k ≤ free_from c k
  pub frees : (k : ℕ) → free_from c k ≤ s.history.now + longest
  pub paired : length lanes ≡ length s.history.lanes
  pub site : (u : ℕ) → (lane_of lanes u).site ≡ (lane_at s u).site
  pub path : (u : ℕ) → (lane_of lanes u).path ≡ (lane_at s u).path
  pub entry : (u : ℕ) → (lane_of lanes u).entry ≡ (lane_at s u).entry
  pub own : (u : ℕ) → Held s p u → Joined w (with_channels s.olt.shared c) s.history.now (lane_of lanes u) x (onu_at s u)
  pub others : (u : ℕ) → (Held s p u → ⊥) → lane_of lanes u ≡ lane_at s u
  pub keys : KeysApart lanes

-- the lane of the record replaced
pub lane_own : (w : Setting) (t : Olt) (p : ℕ) (c : Channels) (x : UnitRecord) (now : ℕ) (l : Lane) (o : Onu) → l.entry.registered ≡ true
    → l.entry.place ≡ p → p < t.count → p < length t.units → Common w now l o → Joined w (with_channels t.shared c) now l x o
    → LaneRight w (with_unit t p c x) now l o
unfolding with_unit
lane_own w t p c x now l o e f h k common j =
    let same : unit_at (with_unit t p c x) l.entry.place ≡ x = ap (unit_at (with_unit t p c x)) f ∙ with_unit-holds t p c x k in
    lane_joined w (with_unit t p c x) now l o e common (omega (arith, f, h), rw same j)

-- and any other
pub lane_other : (w : Setting) (t : Olt) (p : ℕ) (c : Channels) (x : UnitRecord) (now : ℕ) (l : Lane) (o : Onu)
    → (l.entry.registered ≡ true → l.entry.place ≡ p → ⊥) → ((k : ℕ) → free_from t.shared.channels k ≤ free_from c k)
    → LaneRight w t now l o → LaneRight w (with_unit t p c x) now l o
unfolding with_unit
lane_other w t p c x now l o n rises =
    let place = l.entry.place in
    lane_kept w t (with_unit t p c x) now l o
    (λ e s. (s.0, rw (with_other t p place c x (n e)) (channels_keep w t.shared now l (unit_at t place) o c rises s.1)))

module _ (w : Setting) (s : State) (p : ℕ) (c : Channels) (x : UnitRecord) (lanes : List Lane) (i : Invariant w s) (r : Replaces w s p c x lanes) where
  replaced_lane : (u : ℕ) → u < length s.history.lanes
      → LaneRight w (with_unit s.olt p c x) s.history.now (lane_of lanes u) (onu_at s u)
  replaced_lane u h =
      let stays : (Held s p u → ⊥) → LaneRight w (with_unit s.olt p c x) s.history.now (lane_of lanes u) (onu_at s u) =
      λ n.
      rw (r.others u n)
      (lane_other w s.olt p c x s.history.now (lane_at s u) (onu_at s u) (λ a b. n (record { known = h; registered = a; place = b })) r.rises
      (i.lane u h)) in
      pick_holds (λ (t : Bool). LaneRight w (with_unit s.olt p c x) s.history.now (lane_of lanes u) (onu_at s u)) (lane_at s u).entry.registered
      true false
      (λ e.
      same_or_not (lane_at s u).entry.place p
      (λ place.
      lane_own w s.olt p c x s.history.now (lane_of lanes u) (onu_at s u) (ap (λ (y : Entry). y.registered) (r.entry u) ∙ e)
      (ap (λ (y : Entry). y.place) (r.entry u) ∙ place) r.used r.place
      (common_moved w s.history.now (lane_at s u) (lane_of lanes u) (onu_at s u) (sym (r.site u)) (sym (r.path u)) (i.lane u h).common)
      (r.own u (record { known = h; registered = e; place = place })))
      (λ other. stays (λ a. other a.place)))
      (λ e. stays (λ a. true_false (sym a.registered ∙ e)))

  pub replaced_right : Invariant w (record { olt = with_unit s.olt p c x; onus = s.onus; history = with_lanes s.history lanes })
  unfolding with_lanes with_unit
  replaced_right =
      record {
        valid = r.valid;
        places = (with_beside s.olt p c x).places ∙ i.places;
        count = i.count;
        shared = channels_at_tick w s.history.now s.olt.shared c r.frees i.shared;
        paired = i.paired ∙ sym r.paired;
        lane = λ u h. replaced_lane u (rw r.paired at h);
        apart = λ u v g h a b e.
            i.apart u v (rw r.paired at g) (rw r.paired at h) (rw (r.entry u) at a) (rw (r.entry v) at b) (rw (r.entry u, r.entry v) at e);
        keys = r.keys;
      }

---- of which the lane is told

-- what a call on the unit in place p makes of the lanes, of which that unit's is told
pub told_for : (w : Setting) (s : State) (p u : ℕ) (c : Channels) (x : UnitRecord) (l : Lane) → Invariant w s → Held s p u
    → valid_olt (with_unit s.olt p c x) ≡ true → ((k : ℕ) → free_from s.olt.shared.channels k ≤ free_from c k)
    → ((k : ℕ) → free_from c k ≤ s.history.now + longest)
    → l.site ≡ (lane_at s u).site → l.path ≡ (lane_at s u).path → l.entry ≡ (lane_at s u).entry → l.keys.offers ≡ (lane_at s u).keys.offers
    → Joined w (with_channels s.olt.shared c) s.history.now l x (onu_at s u) → Replaces w s p c x (set s.history.lanes u l)
told_for w s p u c x l i h valid rises frees site path entry offers j =
    let ls = s.history.lanes in
    let used = (joined_at-holds w s p u i h).0 in
    record {
      valid = valid;
      used = used;
      place = omega (arith, used, (olt_in_range s.olt i.valid).count, i.places);
      rises = rises;
      frees = frees;
      paired = length-set ls u l;
      site = set_keeps (λ (y : Lane). y.site) ls u l site;
      path = set_keeps (λ (y : Lane). y.path) ls u l path;
      entry = set_keeps (λ (y : Lane). y.entry) ls u l entry;
      own = λ v k.
          let same = held_once w s p v u i k h in
          rw (same, get_or-set_same ls u l (fresh_lane no_site) h.known) j;
      others = λ v n. get_or-set_other ls u v l (fresh_lane no_site) (λ e. n (subst (Held s p) (sym e) h));
      keys = keys_stay ls (set ls u l) (set_keeps (λ (y : Lane). y.keys.offers) ls u l offers) i.keys;
    }

---- a call lifted from a unit

-- the lane named, and any other
pub named_own : (llid : ℕ) (f : Lane → Lane) (l : Lane) → l.entry.registered ≡ true → has l.site.identity llid ≡ true
    → named llid f l ≡ f l
unfolding named
named_own llid f l e h = pick_true (f l) l (both_true e h)

pub named_keeps : {A : Type 0} (g : Lane → A) (llid : ℕ) (f : Lane → Lane) (l : Lane) → g (f l) ≡ g l → g (named llid f l) ≡ g l
unfolding named
named_keeps g llid f l e =
    pick_holds (λ (m : Lane). g m ≡ g l) (both l.entry.registered (has l.site.identity llid)) (f l) l (λ h. e) (λ h. refl)

named_fresh : (llid : ℕ) (f : Lane → Lane) → named llid f (fresh_lane no_site) ≡ fresh_lane no_site
unfolding named fresh_lane pick both
named_fresh llid f = refl

pub named_at : (llid : ℕ) (f : Lane → Lane) (ls : List Lane) (u : ℕ) → lane_of (map (named llid f) ls) u ≡ named llid f (lane_of ls u)
named_at llid f ls u = map_always (named llid f) ls u (fresh_lane no_site) (named_fresh llid f)

noted_fresh : (number llid : ℕ) (f : Lane → Lane) → noted number (named llid f) (fresh_lane no_site) ≡ fresh_lane no_site
unfolding noted named fresh_lane both pick
noted_fresh number llid f = pick_same (eqb number 0) (fresh_lane no_site)

-- a lane after a call that names a unit
pub noted_at-holds : (s : State) (o : Olt) (number llid u : ℕ) (f : Lane → Lane)
    → lane_at (at_olt s o number llid f) u ≡ noted number (named llid f) (lane_at s u)
unfolding at_olt with_lanes
noted_at-holds s o number llid u f =
    map_always (noted number (named llid f)) s.history.lanes u (fresh_lane no_site) (noted_fresh number llid f)

-- what f keeps of each lane, the call keeps
pub named_stays : {A : Type 0} (g : Lane → A) (llid : ℕ) (f : Lane → Lane) (ls : List Lane) → ((l : Lane) → g (f l) ≡ g l) → (u : ℕ)
    → g (lane_of (map (named llid f) ls) u) ≡ g (lane_of ls u)
named_stays g llid f ls e u = ap g (named_at llid f ls u) ∙ named_keeps g llid f (lane_of ls u) (e (lane_of ls u))

pub keys_named : (llid : ℕ) (f : Lane → Lane) (ls : List Lane) → ((l : Lane) → (f l).keys.offers ≡ l.keys.offers) → KeysApart ls
    → KeysApart (map (named llid f) ls)
keys_named llid f ls e k = keys_stay ls (map (named llid f) ls) (named_stays (λ (l : Lane). l.keys.offers) llid f ls e) k

refused_number : (v : Verdict) → (v ≡ no_refusal → ⊥) → eqb (verdict_number v) 0 ≡ false
refused_number v n = ne_eqb (verdict_number v) 0 (λ e. n (number_accepted v e))

-- what a call on a unit makes of the lane of that unit, which is told what it hands over
pub record Tells {H : Type 0} (w : Setting) (s : State) (nothing : H) (ahead : Verdict) (llid : ℕ) (call : Shared → UnitRecord → Outcome H)
    (f : H → Lane → Lane) : Type 0 where
  pub valid : valid_olt (lift s.olt nothing ahead llid call).end ≡ true
  pub rises : (u : UnitRecord) → (call s.olt.shared u).verdict ≡ no_refusal → (k : ℕ)
      → free_from s.olt.shared.channels k ≤ free_from (call s.olt.shared u).channels k
  pub frees : (l : Lifted s.olt nothing ahead llid call) (k : ℕ)
      → free_from (call s.olt.shared (unit_at s.olt l.at)).channels k ≤ s.history.now + longest
  pub site : (x : H) (l : Lane) → (f x l).site ≡ l.site
  pub path : (x : H) (l : Lane) → (f x l).path ≡ l.path
  pub entry : (x : H) (l : Lane) → (f x l).entry ≡ l.entry
  pub keys : (l : Lifted s.olt nothing ahead llid call)
      → KeysApart (map (named llid (f (call s.olt.shared (unit_at s.olt l.at)).handed)) s.history.lanes)

module _ {H : Type 0} (w : Setting) (s : State) (nothing : H) (ahead : Verdict) (llid : ℕ) (call : Shared → UnitRecord → Outcome H)
    (f : H → Lane → Lane) (i : Invariant w s) (t : Tells w s nothing ahead llid call f)
    (own : (l : Lifted s.olt nothing ahead llid call) (u : ℕ) → Held s l.at u → has (lane_at s u).site.identity llid ≡ true
    → Joined w s.olt.shared s.history.now (lane_at s u) (unit_at s.olt l.at) (onu_at s u)
    → let c = call s.olt.shared (unit_at s.olt l.at) in
    Joined w (with_channels s.olt.shared c.channels) s.history.now (f c.handed (lane_at s u)) c.unit (onu_at s u)) where
  -- a lane that is not that of the place found is not named
  not_named : (g : Lane → Lane) (p u : ℕ) → find s.olt llid ≡ Some p → (Held s p u → ⊥) → named llid g (lane_at s u) ≡ lane_at s u
  unfolding named
  not_named g p u e n =
      pick_holds (λ (m : Lane). m ≡ lane_at s u) (both (lane_at s u).entry.registered (has (lane_at s u).site.identity llid)) (g (lane_at s u)) (lane_at s u)
      (λ h. absurd (n (named_held w s p u llid i e h))) (λ h. refl)

  told : (l : Lifted s.olt nothing ahead llid call) → let c = call s.olt.shared (unit_at s.olt l.at) in
      Replaces w s l.at c.channels c.unit (map (named llid (f c.handed)) s.history.lanes)
  told l =
      let r = find_at s.olt llid l.at l.found in
      let x = (call s.olt.shared (unit_at s.olt l.at)).handed in
      record {
        valid = rw l.end at t.valid;
        used = r.used;
        place = r.place;
        rises = t.rises (unit_at s.olt l.at) l.accepts;
        frees = t.frees l;
        paired = length-map s.history.lanes (named llid (f x));
        site = named_stays (λ (y : Lane). y.site) llid (f x) s.history.lanes (t.site x);
        path = named_stays (λ (y : Lane). y.path) llid (f x) s.history.lanes (t.path x);
        entry = named_stays (λ (y : Lane). y.entry) llid (f x) s.history.lanes (t.entry x);
        own = λ u h.
            let e = found_has w s l.at u llid i h l.found in
            rw (named_at llid (f x) s.history.lanes u, named_own llid (f x) (lane_at s u) h.registered e)
            (own l u h e (joined_at-holds w s l.at u i h).1);
        others = λ u n. named_at llid (f x) s.history.lanes u ∙ not_named (f x) l.at u l.found n;
        keys = t.keys l;
      }

  pub call_right : let r = lift s.olt nothing ahead llid call in Invariant w (at_olt s r.end (verdict_number r.verdict) llid (f r.handed))
  unfolding at_olt noted pick with_lanes
  call_right = by_end (lift_ends s.olt nothing ahead llid call) where
    by_end : Ends s.olt nothing ahead llid call → let r = lift s.olt nothing ahead llid call in
        Invariant w (at_olt s r.end (verdict_number r.verdict) llid (f r.handed))
    by_end (accepted l) = rw (l.verdict, l.handed, l.end) (replaced_right w s l.at _ _ _ i (told l))
    by_end (refused r e) =
        rw (
          e,
          map_fixed (noted (verdict_number (Err r)) (named llid (f nothing))) s.history.lanes
              (λ l. pick_false (named llid (f nothing) l) l (refused_number (Err r) (λ z. refused_accepts r z))),
        )
        i
