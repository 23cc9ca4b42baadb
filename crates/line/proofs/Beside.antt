-- A call on the OLT or on a unit that leaves the groups keeps what holds of them. Assumes nothing.
use mathlib.Core.Path.{◌≡◌, refl}
use mathlib.Core.Bool.{true}
use mathlib.Core.List.{[]}
use Prim.Native.Nat.{ℕ, ◌<◌, ◌≤◌}
use native.Mathlib.Omega.{arith}
use lib.ListN.{length, get_or}
use Rattle.ends.specs.Occupancy.{free_from}
use Rattle.ends.specs.declared.Olt.{Olt}
use Rattle.ends.specs.declared.Onu.{Onu}
use Rattle.ends.proofs.Table.{table_same}
use Rattle.group_protocol.specs.Head.{with_olt, valid_groups}
use Rattle.group_protocol.specs.Subscriber.{with_onu, valid_memberships}
use Rattle.group_protocol.specs.declared.HeadEnd.{HeadEnd}
use Rattle.group_protocol.specs.declared.Subscriber.{Subscriber}
use Rattle.unicast.specs.Setting.{Setting}
use Rattle.unicast.specs.Run.{lane_at}
use Rattle.unicast.proofs.Invariant as units
use Rattle.line.specs.History.{is_member}
use Rattle.line.specs.Run.{State, alone, subscriber_at, joined_by, group_lane_at, now, lanes}
use Rattle.line.proofs.Invariant.{Stranger, Joins, Invariant}
use Rattle.line.proofs.Queues.{itself}
use Rattle.line.proofs.Frames.{follows_moved, joined_for_same, member_stays, recorded_beside}
use Rattle.line.proofs.Kept.{OltKept}

---- validity goes by what a call keeps

pub head_kept : (h : HeadEnd) (o : Olt) → OltKept h.olt o → valid_groups h ≡ true → valid_groups (with_olt h o) ≡ true
unfolding valid_groups with_olt
head_kept h o k v = rw (table_same o h.olt k.units, k.units.count, k.tick) v

-- a unit of the same groups and LLIDs
pub record UnitKept (x y : Subscriber) : Type 0 where
  pub memberships : y.memberships ≡ x.memberships
  pub identity : y.onu.identity ≡ x.onu.identity

pub with_onu_kept : (x : Subscriber) (o : Onu) → o.identity ≡ x.onu.identity → UnitKept x (with_onu x o)
unfolding with_onu
with_onu_kept x o k = record { memberships = refl; identity = k }

pub unit_itself : (x : Subscriber) → UnitKept x x
unit_itself x = record { memberships = refl; identity = refl }

pub memberships_kept : (x y : Subscriber) → UnitKept x y → valid_memberships x ≡ true → valid_memberships y ≡ true
unfolding valid_memberships
memberships_kept x y k v = rw (k.memberships, k.identity) v

---- the whole

pub record Beside (s t : State) : Type 0 where
  pub groups : t.head.groups ≡ s.head.groups
  pub valid : valid_groups t.head ≡ true
  pub rises : (k : ℕ) → free_from s.head.olt.shared.channels k ≤ free_from t.head.olt.shared.channels k
  pub ticks : now t ≡ now s
  pub paired : length (lanes t) ≡ length (lanes s)
  pub site : (u : ℕ) → (lane_at (alone t) u).site ≡ (lane_at (alone s) u).site
  pub entry : (u : ℕ) → (lane_at (alone s) u).entry.registered ≡ true → (lane_at (alone t) u).entry.registered ≡ true
  pub unit : (u : ℕ) → UnitKept (subscriber_at s u) (subscriber_at t u)
  pub joined : t.history.joined ≡ s.history.joined
  pub lines : t.history.groups ≡ s.history.groups

module _ (w : Setting) (s t : State) (i : Invariant w s) (b : Beside s t) where
  was_stranger : (u llid : ℕ) → Stranger s.history.groups (lane_at (alone t) u) llid → Stranger s.history.groups (lane_at (alone s) u) llid
  was_stranger u llid n g q e =
      member_stays (group_lane_at s g) (group_lane_at s g) (lane_at (alone s) u) (lane_at (alone t) u) refl (b.site u) (b.entry u) (n g q e)

  joins_beside : (u : ℕ) → u < length (lanes s) → Joins t.history.groups (lane_at (alone t) u) (subscriber_at t u) (joined_by t u)
  unfolding alone
  joins_beside u h =
      let j = i.joins u h in
      let k = b.unit u in
      rw (b.joined, b.lines)
      (record {
        valid = memberships_kept (subscriber_at s u) (subscriber_at t u) k j.valid;
        places = rw k.memberships j.places;
        llids = rw k.memberships j.llids;
        stranger = λ llid n.
            rw (joined_for_same (subscriber_at t u) (subscriber_at s u) llid k.memberships) (j.stranger llid (was_stranger u llid n));
        untaken = λ llid n. j.untaken llid (was_stranger u llid n);
      })

  pub beside_right : units.Invariant w (alone t)
      → ((u g m n : ℕ) → m < length (lane_at (alone t) u).keys.offers → n < length (group_lane_at s g).keys.offers
      → get_or (lane_at (alone t) u).keys.offers m [] ≡ get_or (group_lane_at s g).keys.offers n [] → ⊥)
      → Invariant w t
  unfolding alone
  beside_right v mixed =
      record {
        units = v;
        valid = b.valid;
        places = rw b.groups i.places;
        count = rw (b.groups, b.lines) i.count;
        paired = rw (b.joined, b.paired) i.paired;
        queues = λ g h. rw (b.lines, b.paired) (i.queues g (rw b.lines at h));
        group = λ g h.
            rw (b.lines, b.groups, b.ticks)
            (recorded_beside w s.head.olt.shared.channels t.head.olt.shared.channels (now s) _ _ b.rises (i.group g (rw b.lines at h)));
        joins = λ u h. joins_beside u (rw b.paired at h);
        follows = λ u g h k.
            rw (
              b.lines,
              b.groups,
              b.joined,
              joined_for_same (subscriber_at t u) (subscriber_at s u) (group_lane_at s g).llid (b.unit u).memberships,
            )
            (follows_moved (group_lane_at s g) (group_lane_at s g) _ _ _ _ (is_member (group_lane_at s g) (lane_at (alone s) u))
            (is_member (group_lane_at s g) (lane_at (alone t) u)) (joined_by s u) _ _ (itself (group_lane_at s g) _) (omega arith) (omega arith)
            (member_stays (group_lane_at s g) (group_lane_at s g) (lane_at (alone s) u) (lane_at (alone t) u) refl (b.site u) (b.entry u))
            (i.follows u g (rw b.paired at h) (rw b.lines at k)));
        answered = λ g a h m. rw (b.lines, b.joined) (i.answered g a (rw b.lines at h) (rw b.lines at m));
        keys = λ g h m n p q e. i.keys g h m n (rw b.lines at p) (rw b.lines at q) (rw b.lines at e);
        mixed = λ u g m n p q e. mixed u g m n p (rw b.lines at q) (rw b.lines at e);
      }
