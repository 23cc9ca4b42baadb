-- What arrives of a group at a unit keeps the invariant: it replaces what the unit has of that group, and what the group's line notes.
-- Assumes nothing.
use mathlib.Core.Path.{◌≡◌, refl, sym, ◌∙◌, ap, subst}
use mathlib.Core.Bool.{Bool, true, false}
use mathlib.Core.List.{List, [], Memᴰ}
use Prim.Native.Nat.{ℕ, ◌<◌}
use native.Mathlib.Omega.{arith}
use lib.Dec.{eqb}
use lib.ListN.{length, get_or, set, length-set}
use lib.Seq.{map-set_same, get_or-set_same, get_or-set_other}
use borrow.Author.Tests.{eqb-true, eqb-false}
use Rattle.ends.specs.declared.Onu.{Onu}
use Rattle.group_protocol.specs.Head.{group_at}
use Rattle.group_protocol.specs.declared.Subscriber.{Subscriber}
use Rattle.unicast.specs.Setting.{Setting}
use Rattle.unicast.specs.History.{InFlight, Lane}
use Rattle.unicast.specs.Run.{lane_at}
use Rattle.unicast.proofs.Invariant as units
use Rattle.line.specs.History.{GroupAnswered, GroupArrival, GroupLane, Membership, is_member, has_taken}
use Rattle.line.specs.Run.{State, alone, no_subscriber, subscriber_at, joined_by, no_group_lane, group_lane_at, now, lanes, at_unit}
use Rattle.line.proofs.Invariant.{GroupArrived, Recorded, joined_for, Follows, Stranger, Joins, Invariant}
use Rattle.line.proofs.Frames.{follows_moved, send_moved}
use Rattle.line.proofs.GroupSteps.{member_same}
use Rattle.line.proofs.Lines.{by_unit, line_once}
use Rattle.line.proofs.Places.{set_field, set_holds}
use Rattle.line.proofs.Queues.{Grown}

pub record Moved (w : Setting) (s : State) (u g : ℕ) (x : Subscriber) (ms : List Membership) (l : GroupLane) : Type 0 where
  pub unit : u < length (lanes s)
  pub known : g < length s.history.groups
  pub onu : x.onu ≡ (subscriber_at s u).onu
  -- the line keeps LLID, roster, keys and sends
  pub llid : l.llid ≡ (group_lane_at s g).llid
  pub entry : l.entry ≡ (group_lane_at s g).entry
  pub roster : l.roster ≡ (group_lane_at s g).roster
  pub keys : l.keys ≡ (group_lane_at s g).keys
  pub sent : l.sent ≡ (group_lane_at s g).sent
  pub queues : length l.towards ≡ length (lanes s)
  pub others : (v : ℕ) → (v ≡ u → ⊥) → get_or l.towards v [] ≡ get_or (group_lane_at s g).towards v []
  pub arrived : (a : GroupArrival) → Memᴰ a l.arrived → GroupArrived w l a
  -- the unit keeps what it has of other groups
  pub joins : Joins s.history.groups (lane_at (alone s) u) x ms
  pub apart : (llid : ℕ) → (llid ≡ (group_lane_at s g).llid → ⊥) → joined_for x llid ≡ joined_for (subscriber_at s u) llid
  pub untouched : (llid n : ℕ) → (llid ≡ (group_lane_at s g).llid → ⊥) → has_taken ms llid n ≡ has_taken (joined_by s u) llid n
  pub stays : (llid n : ℕ) → has_taken (joined_by s u) llid n ≡ true → has_taken ms llid n ≡ true
  pub follows : Follows l (group_at s.head g).keys.active (group_at s.head g).keys.offered (is_member l (lane_at (alone s) u)) ms
      (joined_for x l.llid) (get_or l.towards u [])
  pub answered : (a : GroupAnswered) → Memᴰ a l.answered
      → has_taken (get_or (set s.history.joined u ms) a.unit []) (group_lane_at s g).llid a.answer.number ≡ true

-- a unit whose own part stays
pub alone_stays : (s : State) (u : ℕ) (x : Subscriber) (js : List (List Membership)) (gs : List GroupLane) → x.onu ≡ (subscriber_at s u).onu
    → alone (at_unit s u x s.history.units js gs) ≡ alone s
unfolding alone at_unit
alone_stays s u x js gs e =
    ap (λ (os : List Onu). record { olt = s.head.olt; onus = os; history = s.history.units })
    (map-set_same (λ (y : Subscriber). y.onu) s.subscribers u x no_subscriber e)

module _ (w : Setting) (s : State) (u g : ℕ) (x : Subscriber) (ms : List Membership) (l : GroupLane) (i : Invariant w s) (p : Moved w s u g x ms l) where
  abbrev gs : List GroupLane
  gs = s.history.groups

  abbrev after : State
  after = at_unit s u x s.history.units (set s.history.joined u ms) (set gs g l)

  abbrev line_at : ℕ → GroupLane
  line_at k = get_or (set gs g l) k no_group_lane

  ---- lines

  llid_stays : (k : ℕ) → (line_at k).llid ≡ (group_lane_at s k).llid
  llid_stays = set_field (λ (y : GroupLane). y.llid) gs g l no_group_lane p.llid

  keys_stay : (k : ℕ) → (line_at k).keys ≡ (group_lane_at s k).keys
  keys_stay = set_field (λ (y : GroupLane). y.keys) gs g l no_group_lane p.keys

  member_stays : (y : Lane) (k : ℕ) → is_member (line_at k) y ≡ is_member (group_lane_at s k) y
  member_stays y = set_field (λ (z : GroupLane). is_member z y) gs g l no_group_lane (member_same (group_lane_at s g) l y p.roster)

  was_stranger : (y : Lane) (llid : ℕ) → Stranger (set gs g l) y llid → Stranger gs y llid
  was_stranger y llid n k q e = sym (member_stays y k) ∙ n k (rw (length-set s.history.groups g l) q) (llid_stays k ∙ e)

  grown : (top : ℕ) → Grown (group_lane_at s g) l top
  grown top = record { llid = p.llid; sent = λ e m. rw p.sent m; keys = λ n a b. rw p.keys }

  by_group : (P : GroupLane → Type 0) (k : ℕ) → P l → ((k ≡ g → ⊥) → P (group_lane_at s k)) → P (line_at k)
  by_group P k own other = by_test (eqb k g) refl where
    by_test : (t : Bool) → eqb k g ≡ t → P (line_at k)
    by_test true e = rw (eqb-true k g e, get_or-set_same s.history.groups g l no_group_lane p.known) own
    by_test false e = let n = eqb-false k g e in rw (get_or-set_other s.history.groups g k l no_group_lane n) (other n)

  line_recorded : Recorded w s.head.olt.shared.channels (now s) l (group_at s.head g)
  line_recorded =
      let r = i.group g p.known in
      record {
        llid = r.llid ∙ sym p.llid;
        counted = rw p.keys r.counted;
        listed = rw p.keys r.listed;
        mid = r.mid;
        next = r.next;
        stored = rw p.keys r.stored;
        timing = rw (p.keys, p.entry) r.timing;
        sends = λ e m.
            send_moved w _ _ _ _ (group_lane_at s g) l e (group_at s.head g).keys.active (grown (group_at s.head g).keys.active) (omega arith)
            (λ k. omega arith) (r.sends e (rw p.sent at m));
        spaced = rw p.sent r.spaced;
        arrived = p.arrived;
      }

  ---- units

  joins_other : (v : ℕ) → v < length (lanes s) → Joins (set gs g l) (lane_at (alone s) v) (subscriber_at s v) (joined_by s v)
  joins_other v h =
      let j = i.joins v h in
      record {
        valid = j.valid;
        places = j.places;
        llids = j.llids;
        stranger = λ llid n. j.stranger llid (was_stranger (lane_at (alone s) v) llid n);
        untaken = λ llid n. j.untaken llid (was_stranger (lane_at (alone s) v) llid n);
      }

  joins_own : Joins (set gs g l) (lane_at (alone s) u) x ms
  joins_own =
      let j = p.joins in
      record {
        valid = j.valid;
        places = j.places;
        llids = j.llids;
        stranger = λ llid n. j.stranger llid (was_stranger (lane_at (alone s) u) llid n);
        untaken = λ llid n. j.untaken llid (was_stranger (lane_at (alone s) u) llid n);
      }

  ---- a unit and a group

  abbrev Pair : ℕ → ℕ → GroupLane → Subscriber → List Membership → Type 0
  Pair v k y z js =
      Follows y (group_at s.head k).keys.active (group_at s.head k).keys.offered (is_member y (lane_at (alone s) v)) js
      (joined_for z y.llid) (get_or y.towards v [])

  -- the unit, and another group
  other_group : (k : ℕ) → k < length gs → (k ≡ g → ⊥) → Pair u k (group_lane_at s k) x ms
  other_group k h n =
      let f = i.follows u k p.unit h in
      let differs : (group_lane_at s k).llid ≡ (group_lane_at s g).llid → ⊥ = λ e. n (line_once w s i k g h p.known e) in
      rw (p.apart (group_lane_at s k).llid differs)
      (record {
        low = f.low;
        kept = f.kept;
        held = f.held;
        took = λ m t. f.took m (sym (p.untouched (group_lane_at s k).llid m differs) ∙ t);
        queue = f.queue;
        stranger = f.stranger;
      })

  -- another unit, and the group
  other_unit : (v : ℕ) → v < length (lanes s) → (v ≡ u → ⊥) → Pair v g l (subscriber_at s v) (joined_by s v)
  other_unit v h n =
      let z = subscriber_at s v in
      let r = (group_at s.head g).keys in
      subst (λ (xs : List InFlight).
      Follows l r.active r.offered (is_member l (lane_at (alone s) v)) (joined_by s v) (joined_for z l.llid) xs)
      (sym (p.others v n))
      (subst (λ (y : ℕ).
      Follows l r.active r.offered (is_member l (lane_at (alone s) v)) (joined_by s v) (joined_for z y)
      (get_or (group_lane_at s g).towards v []))
      (sym p.llid)
      (follows_moved (group_lane_at s g) l _ _ _ _ _ _ (joined_by s v) _ _ (grown _) (omega arith) (omega arith)
      (λ e. sym (member_same (group_lane_at s g) l (lane_at (alone s) v) p.roster) ∙ e) (i.follows v g h p.known)))

  pairs : (v k : ℕ) → v < length (lanes s) → k < length gs
      → Pair v k (line_at k) (get_or (set s.subscribers u x) v no_subscriber) (get_or (set s.history.joined u ms) v [])
  pairs v k hv hk = by_test (eqb k g) refl where
    own : v ≡ u → Pair v g l x ms
    own e = rw e p.follows

    by_test : (t : Bool) → eqb k g ≡ t
        → Pair v k (line_at k) (get_or (set s.subscribers u x) v no_subscriber) (get_or (set s.history.joined u ms) v [])
    by_test true e =
        rw (eqb-true k g e, get_or-set_same s.history.groups g l no_group_lane p.known)
        (by_unit w s i u v x ms (Pair v g l) hv own (other_unit v hv))
    by_test false e =
        let n = eqb-false k g e in
        rw (get_or-set_other s.history.groups g k l no_group_lane n)
        (by_unit w s i u v x ms (Pair v k (group_lane_at s k)) hv (λ z. rw z (other_group k hk n)) (λ z. i.follows v k hv hk))

  ---- the whole

  taken_stays : (llid n v : ℕ) → has_taken (joined_by s v) llid n ≡ true → has_taken (get_or (set s.history.joined u ms) v []) llid n ≡ true
  taken_stays llid n =
      set_holds (λ (v : ℕ) (js : List Membership). has_taken (joined_by s v) llid n ≡ true → has_taken js llid n ≡ true) s.history.joined u ms []
      (λ v e. e) (p.stays llid n)

  recorded : (k : ℕ) → k < length gs → Recorded w s.head.olt.shared.channels (now s) (line_at k) (group_at s.head k)
  recorded k h = by_test (eqb k g) refl where
    by_test : (t : Bool) → eqb k g ≡ t → Recorded w s.head.olt.shared.channels (now s) (line_at k) (group_at s.head k)
    by_test true e = rw (eqb-true k g e, get_or-set_same s.history.groups g l no_group_lane p.known) line_recorded
    by_test false e = rw (get_or-set_other s.history.groups g k l no_group_lane (eqb-false k g e)) (i.group k h)

  answered : (k : ℕ) (a : GroupAnswered) → k < length gs → Memᴰ a (line_at k).answered
      → has_taken (get_or (set s.history.joined u ms) a.unit []) (line_at k).llid a.answer.number ≡ true
  answered k a h m = by_test (eqb k g) refl where
    by_test : (t : Bool) → eqb k g ≡ t → has_taken (get_or (set s.history.joined u ms) a.unit []) (line_at k).llid a.answer.number ≡ true
    by_test true e =
        let line : line_at k ≡ l = ap line_at (eqb-true k g e) ∙ get_or-set_same s.history.groups g l no_group_lane p.known in
        rw (line, p.llid) (p.answered a (rw line at m))
    by_test false e =
        let line = get_or-set_other s.history.groups g k l no_group_lane (eqb-false k g e) in
        rw line (taken_stays _ _ a.unit (i.answered k a h (rw line at m)))

  pub moved_right : Invariant w after
  unfolding at_unit alone
  moved_right =
      let places = length-set s.history.groups g l in
      record {
        units = subst (units.Invariant w) (sym (alone_stays s u x (set s.history.joined u ms) (set gs g l) p.onu)) i.units;
        valid = i.valid;
        places = i.places;
        count = i.count ∙ sym places;
        paired = length-set s.history.joined u ms ∙ i.paired;
        queues = λ k h. by_group (λ y. length y.towards ≡ length (lanes s)) k p.queues (λ n. i.queues k (rw places at h));
        group = λ k h. recorded k (rw places at h);
        joins = λ v h.
            by_unit w s i u v x ms (Joins (set gs g l) (lane_at (alone s) v)) h (λ e. rw e joins_own) (λ n. joins_other v h);
        follows = λ v k h q. pairs v k h (rw places at q);
        answered = λ k a h m. answered k a (rw places at h) m;
        keys = λ k h m n a b e. i.keys k h m n (rw (keys_stay k) at a) (rw (keys_stay h) at b) (rw (keys_stay k, keys_stay h) at e);
        mixed = λ v k m n a b e. i.mixed v k m n a (rw (keys_stay k) at b) (rw (keys_stay k) at e);
      }
