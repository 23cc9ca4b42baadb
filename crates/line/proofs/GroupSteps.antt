-- A call of the OLT on a group keeps the invariant: it replaces the record of that group, the channels, and what its line notes.
-- Assumes nothing.
use mathlib.Core.Path.{◌≡◌, refl, sym, ◌∙◌, ap, subst}
use mathlib.Core.Bool.{Bool, true, false}
use mathlib.Core.List.{List, [], ◌∷◌, ◌++◌}
use Prim.Native.Nat.{ℕ, ◌+◌, ◌<◌, ◌≤◌}
use lib.Dec.{eqb}
use lib.ListN.{length, get_or, set, length-set}
use lib.Seq.{get_or-set_same, get_or-set_other}
use borrow.Author.Tests.{eqb-true, eqb-false}
use Rattle.octets.specs.Choice.{both}
use Rattle.ends.specs.Identities.{llids_of, meets}
use Rattle.ends.specs.Occupancy.{free_from, valid_channels}
use Rattle.ends.specs.Records.{with_channels}
use Rattle.ends.specs.Table.{with_olt_channels}
use Rattle.ends.specs.declared.Channels.{Channels}
use Rattle.group_protocol.specs.Head.{group_at, past_group, with_group, valid_group}
use Rattle.group_protocol.specs.declared.GroupRecord.{GroupRecord}
use Rattle.group_protocol.proofs.HeadGroups.{replaced_groups_valid}
use Rattle.unicast.specs.Setting.{Setting}
use Rattle.unicast.specs.History.{Lane}
use Rattle.unicast.specs.Run.{lane_at}
use Rattle.unicast.specs.Bounds.{longest}
use Rattle.unicast.proofs.OccupiedSteps.{occupied_right}
use Rattle.line.specs.History.{GroupLane, is_member}
use Rattle.line.specs.Run.{State, alone, subscriber_at, joined_by, no_group_lane, group_lane_at, now, lanes, at_head}
use Rattle.line.specs.Premises.{NewKey}
use Rattle.line.proofs.Invariant.{Recorded, joined_for, Follows, Stranger, Joins, Invariant}
use Rattle.line.proofs.Frames.{recorded_beside}
use Rattle.line.proofs.Lines.{group_stands}
use Rattle.line.proofs.OfferSteps.{key_of_more}
use Rattle.line.proofs.Places.{set_field}
use Rattle.line.proofs.Queues.{Grown}

-- the keys of a group's accepted offers: as they were, or one more that is new
pub data MoreKeys (s : State) (old new : List (List ℕ)) : Type 0 where
  same : new ≡ old → MoreKeys s old new
  more : (key : List ℕ) → NewKey s key → new ≡ old ++ (key ∷ []) → MoreKeys s old new

pub record Replaced (w : Setting) (s : State) (g : ℕ) (c : Channels) (r : GroupRecord) (l : GroupLane) : Type 0 where
  pub known : g < length s.history.groups
  pub rises : (k : ℕ) → free_from s.head.olt.shared.channels k ≤ free_from c k
  pub frees : (k : ℕ) → free_from c k ≤ now s + longest
  pub channels : valid_channels c ≡ true
  pub valid : valid_group s.head.olt.shared.tick s.head.olt.count r ≡ true
  pub grown : Grown (group_lane_at s g) l (group_at s.head g).keys.offered
  pub roster : l.roster ≡ (group_lane_at s g).roster
  pub queues : length l.towards ≡ length (lanes s)
  pub answered : l.answered ≡ (group_lane_at s g).answered
  pub recorded : Recorded w c (now s) l r
  pub follows : (u : ℕ) → u < length (lanes s)
      → Follows l r.keys.active r.keys.offered (is_member l (lane_at (alone s) u)) (joined_by s u)
      (joined_for (subscriber_at s u) l.llid) (get_or l.towards u [])
  pub offers : MoreKeys s (group_lane_at s g).keys.offers l.keys.offers

-- only the roster tells members
pub member_same : (g g' : GroupLane) (l : Lane) → g'.roster ≡ g.roster → is_member g' l ≡ is_member g l
unfolding is_member
member_same g g' l e = ap (λ (x : List ℕ). both l.entry.registered (meets (llids_of l.site.identity) x)) e

module _ (w : Setting) (s : State) (g : ℕ) (c : Channels) (r : GroupRecord) (l : GroupLane) (i : Invariant w s) (p : Replaced w s g c r l) where
  abbrev gs : List GroupLane
  gs = s.history.groups

  abbrev line_at : ℕ → GroupLane
  line_at k = get_or (set gs g l) k no_group_lane

  abbrev record_at : ℕ → GroupRecord
  record_at k = get_or (set s.head.groups.table g r) k past_group

  -- by whether it is the group called
  by_group : (P : GroupLane → GroupRecord → Type 0) (k : ℕ) → k < length gs → (k ≡ g → P l r) → P (group_lane_at s k) (group_at s.head k)
      → P (line_at k) (record_at k)
  by_group P k h own other = by_test (eqb k g) refl where
    by_test : (t : Bool) → eqb k g ≡ t → P (get_or (set s.history.groups g l) k no_group_lane) (get_or (set s.head.groups.table g r) k past_group)
    by_test true e =
        let z : k ≡ g = eqb-true k g e in
        rw (
          z,
          get_or-set_same s.history.groups g l no_group_lane p.known,
          get_or-set_same s.head.groups.table g r past_group (group_stands w s i g p.known).place,
        ) (own z)
    by_test false e =
        let n = eqb-false k g e in
        rw (get_or-set_other s.history.groups g k l no_group_lane n, get_or-set_other s.head.groups.table g k r past_group n) other

  llid_stays : (k : ℕ) → (line_at k).llid ≡ (group_lane_at s k).llid
  llid_stays = set_field (λ (x : GroupLane). x.llid) gs g l no_group_lane p.grown.llid

  answered_stays : (k : ℕ) → (line_at k).answered ≡ (group_lane_at s k).answered
  answered_stays = set_field (λ (x : GroupLane). x.answered) gs g l no_group_lane p.answered

  member_stays : (y : Lane) (k : ℕ) → is_member (line_at k) y ≡ is_member (group_lane_at s k) y
  member_stays y = set_field (λ (x : GroupLane). is_member x y) gs g l no_group_lane (member_same (group_lane_at s g) l y p.roster)

  ---- keys

  -- a key that is listed for a group is listed before the call, or is the one that it gave
  data Listed (k m : ℕ) (x : List ℕ) : Type 0 where
    before : m < length (group_lane_at s k).keys.offers → get_or (group_lane_at s k).keys.offers m [] ≡ x → Listed k m x
    given : k ≡ g → m ≡ length (group_lane_at s g).keys.offers → NewKey s x → Listed k m x

  listed : (k m : ℕ) (x : List ℕ) → m < length (line_at k).keys.offers → get_or (line_at k).keys.offers m [] ≡ x → Listed k m x
  listed k m x h e = by_offers p.offers where
    same_as : l.keys.offers ≡ (group_lane_at s g).keys.offers → Listed k m x
    same_as q =
        let stay = set_field (λ (y : GroupLane). y.keys.offers) s.history.groups g l no_group_lane q k in
        before (rw stay at h) (rw stay at e)

    by_test : (key : List ℕ) → NewKey s key → l.keys.offers ≡ (group_lane_at s g).keys.offers ++ (key ∷ []) → (t : Bool) → eqb k g ≡ t
        → Listed k m x
    by_test key new q true f =
        let z : k ≡ g = eqb-true k g f in
        let is : get_or s.history.groups k no_group_lane ≡ group_lane_at s g = ap (λ (n : ℕ). get_or s.history.groups n no_group_lane) z in
        let grown : (get_or (set s.history.groups g l) k no_group_lane).keys.offers ≡ (group_lane_at s g).keys.offers ++ (key ∷ []) =
        ap (λ (n : ℕ). (get_or (set s.history.groups g l) n no_group_lane).keys.offers) z
        ∙ ap (λ (y : GroupLane). y.keys.offers) (get_or-set_same s.history.groups g l no_group_lane p.known)
        ∙ q in
        key_of_more (Listed k m x) (group_lane_at s g).keys.offers key x m (rw grown at h) (rw grown at e)
        (λ a b. before (rw is a) (rw is b)) (λ a b. given z a (subst (NewKey s) b new))
    by_test key new q false f =
        let stay = get_or-set_other s.history.groups g k l no_group_lane (eqb-false k g f) in
        before (rw stay at h) (rw stay at e)

    by_offers : MoreKeys s (group_lane_at s g).keys.offers l.keys.offers → Listed k m x
    by_offers (same q) = same_as q
    by_offers (more key new q) = by_test key new q (eqb k g) refl

  keys_apart : (k h m n : ℕ) → m < length (line_at k).keys.offers → n < length (line_at h).keys.offers
      → get_or (line_at k).keys.offers m [] ≡ get_or (line_at h).keys.offers n [] → (k ≡ h) × (m ≡ n)
  keys_apart k h m n a b e = by_both (listed k m _ a e) (listed h n _ b refl) where
    x : List ℕ
    x = get_or (get_or (set s.history.groups g l) h no_group_lane).keys.offers n []

    by_both : Listed k m x → Listed h n x → (k ≡ h) × (m ≡ n)
    by_both (before a q) (before b f) = i.keys k h m n a b (q ∙ sym f)
    by_both (before a q) (given z f new) = absurd (new.groups k m a q)
    by_both (given z f new) (before b q) = absurd (new.groups h n b q)
    by_both (given z f new) (given y q also) = (z ∙ sym y, f ∙ sym q)

  keys_mixed : (u k m n : ℕ) → m < length (lane_at (alone s) u).keys.offers → n < length (line_at k).keys.offers
      → get_or (lane_at (alone s) u).keys.offers m [] ≡ get_or (line_at k).keys.offers n [] → ⊥
  keys_mixed u k m n a b e = by_listed (listed k n _ b (sym e)) where
    by_listed : Listed k n (get_or (lane_at (alone s) u).keys.offers m []) → ⊥
    by_listed (before d q) = i.mixed u k m n a d (sym q)
    by_listed (given z f new) = new.units.unused u m a refl

  ---- the whole

  was_stranger : (y : Lane) (llid : ℕ) → Stranger (set gs g l) y llid → Stranger gs y llid
  was_stranger y llid n k q e = sym (member_stays y k) ∙ n k (rw (length-set s.history.groups g l) q) (llid_stays k ∙ e)

  joins_stay : (u : ℕ) → u < length (lanes s) → Joins (set gs g l) (lane_at (alone s) u) (subscriber_at s u) (joined_by s u)
  joins_stay u h =
      let j = i.joins u h in
      record {
        valid = j.valid;
        places = j.places;
        llids = j.llids;
        stranger = λ llid n. j.stranger llid (was_stranger (lane_at (alone s) u) llid n);
        untaken = λ llid n. j.untaken llid (was_stranger (lane_at (alone s) u) llid n);
      }

  pub replaced_right : Invariant w (at_head s (with_group s.head g c r) s.history.units (set gs g l))
  unfolding at_head alone with_group with_olt_channels with_channels
  replaced_right =
      let places = length-set s.history.groups g l in
      record {
        units = occupied_right w (alone s) c i.units p.rises p.frees p.channels;
        valid =
            replaced_groups_valid s.head g c r (group_stands w s i g p.known).used
            (p.recorded.llid ∙ p.grown.llid ∙ sym (i.group g p.known).llid) p.valid i.valid;
        places = length-set s.head.groups.table g r ∙ i.places;
        count = i.count ∙ sym places;
        paired = i.paired;
        queues = λ k h. by_group (λ y z. length y.towards ≡ length (lanes s)) k (rw places at h) (λ e. p.queues) (i.queues k (rw places at h));
        group = λ k h.
            by_group (λ y z. Recorded w c (now s) y z) k (rw places at h) (λ e. p.recorded)
            (recorded_beside w s.head.olt.shared.channels c (now s) _ _ p.rises (i.group k (rw places at h)));
        joins = joins_stay;
        follows = λ u k h q.
            by_group (λ (y : GroupLane) (z : GroupRecord).
            Follows y z.keys.active z.keys.offered (is_member y (lane_at (alone s) u)) (joined_by s u)
            (joined_for (subscriber_at s u) y.llid) (get_or y.towards u []))
            k (rw places at q) (λ e. p.follows u h) (i.follows u k h (rw places at q));
        answered = λ k a h m. rw (llid_stays k) (i.answered k a (rw places at h) (rw (answered_stays k) at m));
        keys = keys_apart;
        mixed = keys_mixed;
      }
