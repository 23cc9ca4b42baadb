-- What stands at a unit when something of a group arrives there: it is a registered member, and the group's LLID is none of its own.
-- Assumes nothing.
use mathlib.Core.Path.{◌≡◌, refl, sym, ◌∙◌, ap}
use mathlib.Core.Bool.{Bool, true, false}
use mathlib.Core.List.{List, [], ◌∷◌}
use Prim.Native.Nat.{ℕ, suc, ◌<◌}
use native.Mathlib.Omega.{arith}
use lib.Dec.{ltb}
use lib.ListN.{length, get_or, drop, length-set, get_or-eq_default}
use lib.Seq.{get_or-set_same, get_or-set_other}
use borrow.Author.Tests.{ltb-true, ltb-false}
use Rattle.octets.proofs.Choice.{both_left}
use Rattle.ends.specs.Identities.{among, has}
use Rattle.ends.specs.Validity.{valid_onu}
use Rattle.ends.specs.declared.Onu.{Onu}
use Rattle.group_protocol.specs.Head.{group_at}
use Rattle.group_protocol.specs.Subscriber.{has_joined}
use Rattle.group_protocol.specs.declared.Subscriber.{Subscriber}
use Rattle.group_protocol.proofs.Places.{at_nowhere}
use Rattle.unicast.specs.Setting.{Setting}
use Rattle.unicast.specs.History.{InFlight, Lane, is_synced}
use Rattle.unicast.specs.Run.{lane_at}
use Rattle.unicast.proofs.Alive.{Alive, registered_alive}
use Rattle.unicast.proofs.Frames.{clock_some}
use Rattle.line.specs.History.{GroupLane, Membership, is_member, is_joined, group_with, group_taken}
use Rattle.line.specs.Run.{State, alone, subscriber_at, joined_by, group_lane_at, no_group_lane, group_in_flight_at, lanes}
use Rattle.line.specs.Premises.{DueOfGroup}
use Rattle.line.proofs.Alone.{onu_alone}
use Rattle.line.proofs.AnswerSteps.{known_line}
use Rattle.line.proofs.Invariant.{Under, joined_for, Follows, Joins, Invariant}
use Rattle.line.proofs.Lines.{group_finds, unit_no_group}
use Rattle.line.proofs.Queues.{under_taken}

-- a unit's own LLIDs and those of groups are apart
pub no_own : (w : Setting) (s : State) (u g : ℕ) → Invariant w s → g < length s.history.groups → (lane_at (alone s) u).entry.registered ≡ true
    → has (subscriber_at s u).onu.identity (group_lane_at s g).llid ≡ false
no_own w s u g i known r = by_test (has (subscriber_at s u).onu.identity (group_lane_at s g).llid) refl where
  a : Alive w (alone s) u
  a = registered_alive w (alone s) u i.units r

  by_test : (t : Bool) → has (subscriber_at s u).onu.identity (group_lane_at s g).llid ≡ t
      → has (subscriber_at s u).onu.identity (group_lane_at s g).llid ≡ false
  by_test false e = e
  by_test true e =
      let h : has (lane_at (alone s) u).site.identity (group_lane_at s g).llid ≡ true =
      sym (a.common.llids (group_lane_at s g).llid) ∙ ap (λ (o : Onu). has o.identity (group_lane_at s g).llid) (onu_alone s u) ∙ e in
      at_nowhere g (sym (group_finds w s i g known) ∙ unit_no_group w s i u (group_lane_at s g).llid r h)

-- the list and the unit's record agree on what was joined
pub joined_listed : (gs : List GroupLane) (l : Lane) (x : Subscriber) (ms : List Membership) (llid : ℕ) → Joins gs l x ms
    → is_joined ms llid ≡ has_joined x llid
unfolding is_joined
joined_listed gs l x ms llid j = ap (λ (ls : List ℕ). among llid ls) j.llids

module _ (w : Setting) (s : State) (u g k : ℕ) (out : List ℕ) (i : Invariant w s) (d : DueOfGroup s u g k out) where
  abbrev queue : List InFlight
  queue = get_or (group_lane_at s g).towards u []

  pub known : g < length s.history.groups
  unfolding no_group_lane
  known = known_line s g (λ e. omega (arith, d.some, ap (λ (x : GroupLane). length (get_or x.towards u [])) e))

  pub unit_known : u < length (lanes s)
  unit_known = by_length (ltb u (length (group_lane_at s g).towards)) refl where
    by_length : (t : Bool) → ltb u (length (group_lane_at s g).towards) ≡ t → u < length (lanes s)
    by_length true e = omega (arith, ltb-true u (length (group_lane_at s g).towards) e, i.queues g known)
    by_length false e =
        let none = get_or-eq_default (group_lane_at s g).towards [] (ltb-false u (length (group_lane_at s g).towards) e) in
        absurd (omega (arith, d.some, ap length none))

  pub follows : Follows (group_lane_at s g) (group_at s.head g).keys.active (group_at s.head g).keys.offered
      (is_member (group_lane_at s g) (lane_at (alone s) u)) (joined_by s u)
      (joined_for (subscriber_at s u) (group_lane_at s g).llid) queue
  follows = i.follows u g unit_known known

  pub member : is_member (group_lane_at s g) (lane_at (alone s) u) ≡ true
  member = by_test (is_member (group_lane_at s g) (lane_at (alone s) u)) refl where
    by_test : (t : Bool) → is_member (group_lane_at s g) (lane_at (alone s) u) ≡ t → is_member (group_lane_at s g) (lane_at (alone s) u) ≡ true
    by_test true e = e
    by_test false e = absurd (omega (arith, d.some, ap length (follows.stranger e)))

  pub alive : Alive w (alone s) u
  unfolding is_member
  alive = registered_alive w (alone s) u i.units (both_left _ _ member)

  pub valid_onu-holds : valid_onu (subscriber_at s u).onu ≡ true
  valid_onu-holds = ap valid_onu (sym (onu_alone s u)) ∙ alive.common.valid

  -- the list tells whether the unit is synced
  pub synced_up : is_synced (lane_at (alone s) u) ≡ true → (subscriber_at s u).onu.clock.synced ≡ 1
  synced_up t =
      ap (λ (y : Onu). y.clock.synced) (sym (onu_alone s u))
      ∙ clock_some (lane_at (alone s) u).transit.answered (λ y m kind. (alive.joined.answers.each y m).0 kind) t

  pub strange : has (subscriber_at s u).onu.identity (group_lane_at s g).llid ≡ false
  strange = no_own w s u g i known alive.registered

  -- it, and what follows it
  pub taken : Under (group_lane_at s g) (joined_for (subscriber_at s u) (group_lane_at s g).llid).keys.active (group_at s.head g).keys.active
      (group_at s.head g).keys.offered (group_in_flight_at s u g k ∷ drop (suc k) queue)
  taken = under_taken (group_lane_at s g) _ _ _ queue k _ (group_in_flight_at s u g k) d.some refl follows.queue

-- the queue after it
pub taken_own : (s : State) (u g k : ℕ) → u < length (group_lane_at s g).towards
    → get_or (group_taken u k (group_lane_at s g)).towards u [] ≡ drop (suc k) (get_or (group_lane_at s g).towards u [])
unfolding group_taken group_with
taken_own s u g k h = get_or-set_same (group_lane_at s g).towards u _ [] h

pub taken_others : (s : State) (u g k v : ℕ) → (v ≡ u → ⊥)
    → get_or (group_taken u k (group_lane_at s g)).towards v [] ≡ get_or (group_lane_at s g).towards v []
unfolding group_taken group_with
taken_others s u g k v n = get_or-set_other (group_lane_at s g).towards u v _ [] n

pub taken_length : (s : State) (u g k : ℕ) → length (group_taken u k (group_lane_at s g)).towards ≡ length (group_lane_at s g).towards
unfolding group_taken group_with
taken_length s u g k = length-set (group_lane_at s g).towards u _
