-- A joined member that is synced takes the message of the group's last key, whatever it missed. Assumes nothing.
use Rattle.std.specs.Prelude.{Option, Some, None}
use mathlib.Core.Path.{◌≡◌, refl, sym, ◌∙◌, ap}
use mathlib.Core.Bool.{Bool, true, false}
use mathlib.Core.List.{List}
use Prim.Native.Nat.{ℕ, ◌+◌, ◌≤◌}
use native.Mathlib.Omega.{arith}
use lib.Dec.{eqb, leb, ltb}
use borrow.Author.Tests.{eqb-true, eqb-false, eq-eqb, le-leb, lt-ltb}
use Rattle.octets.specs.Choice.{both, either, pick}
use Rattle.octets.proofs.Choice.{both_true, either_left, either_right, not_of_true, true_false}
use Rattle.octets.proofs.Lists.{same_refl}
use Rattle.refusal.specs.declared.Refusal.TheVariants.{OutOfRange, ClockNotSet, NothingOutstanding}
use Rattle.refusal.proofs.Order.{refuse_passed}
use Rattle.ends.specs.Flags.{is_up}
use Rattle.ends.specs.Keys.{key_in}
use Rattle.ends.specs.Limits.{max_key_number}
use Rattle.protocol.specs.declared.KeyMessage.{KeyMessage}
use Rattle.protocol.proofs.Replies.{reply_accepted}
use Rattle.group_protocol.specs.Head.{group_at}
use Rattle.group_protocol.specs.JoinedCalls.{no_answer, holds, held_again, highest_held, new_number, joined_message_verdict, message_joined, group_answer, joined_after_message}
use Rattle.group_protocol.specs.Subscriber.{find_joined, joined_at, with_joined, valid_subscriber}
use Rattle.group_protocol.specs.declared.Joined.{Joined}
use Rattle.group_protocol.specs.declared.Subscriber.{Subscriber}
use Rattle.group_protocol.specs.Naming.{by_llid}
use Rattle.subscriber.specs.SubscriberCalls.{subscriber_acknowledged, put_joined, joined_lift, subscriber_key_message_of}
use Rattle.unicast.specs.Setting.{Setting}
use Rattle.unicast.specs.History.{InFlight, key_message, key_of, is_synced}
use Rattle.unicast.specs.Run.{lane_at}
use Rattle.line.specs.History.{GroupLane, Membership, is_joined}
use Rattle.line.specs.Run.{State, alone, subscriber_at, joined_by, group_lane_at, group_in_flight_at}
use Rattle.line.specs.Premises.{DueOfGroup}
use Rattle.line.proofs.Arriving.{joined_listed, unit_known, follows, valid_onu-holds, synced_up, taken}
use Rattle.line.proofs.Finding.{joined_nowhere}
use Rattle.line.proofs.Invariant.{Follows, Invariant}
use Rattle.line.proofs.Lines.{memberships_right}
use Rattle.line.proofs.Taken.{joined_for_at}
use Rattle.refusal.specs.Verdict.{no_refusal}

-- the last key is new to it, or is held
module _ (l : GroupLane) (active offered : ℕ) (member : Bool) (ms : List Membership) (j : Joined) (xs : List InFlight) (m : KeyMessage)
    (f : Follows l active offered member ms j xs) (ahead : offered ≡ active + 1) (last : m.number ≡ offered)
    (key : m.key ≡ key_of l.keys m.number) (most : m.number ≤ max_key_number) where
  new_by : (t k : Bool) → is_up j.keys.held ≡ t → is_up j.kept ≡ k → (t ≡ true → j.keys.active + 1 ≡ m.number → ⊥)
      → both (leb m.number max_key_number) (ltb (pick t (j.keys.active + 1) (pick k j.keys.active 0)) m.number) ≡ true
  unfolding pick
  new_by true k e h n =
      let held = f.held (eqb-true j.keys.held 1 e) in
      both_true (le-leb m.number max_key_number most)
      (lt-ltb (j.keys.active + 1) m.number (omega (arith, held.most, last, n refl)))
  new_by false true e h n =
      both_true (le-leb m.number max_key_number most) (lt-ltb j.keys.active m.number (omega (arith, f.low, last, ahead)))
  new_by false false e h n = both_true (le-leb m.number max_key_number most) (lt-ltb 0 m.number (omega (arith, last, ahead)))

  held_by : is_up j.keys.held ≡ true → j.keys.active + 1 ≡ m.number → held_again j m ≡ true
  unfolding held_again holds
  held_by e same_number =
      let held = f.held (eqb-true j.keys.held 1 e) in
      let stored : key_in j.keys.slots m.number ≡ m.key = rw same_number at held.key ∙ sym key in
      both_true (either_left _ (both_true e (eq-eqb m.number (j.keys.active + 1) (sym same_number)))) (rw stored (same_refl m.key))

  pub last_fits : either (new_number j m) (held_again j m) ≡ true
  unfolding new_number highest_held
  last_fits = by_held (is_up j.keys.held) (eqb (j.keys.active + 1) m.number) refl refl where
    by_held : (t n : Bool) → is_up j.keys.held ≡ t → eqb (j.keys.active + 1) m.number ≡ n → either (new_number j m) (held_again j m) ≡ true
    by_held true true e h = either_right _ (held_by e (eqb-true _ _ h))
    by_held true false e h = either_left _ (new_by _ _ refl refl (λ a b. eqb-false _ _ h b))
    by_held false n e h = either_left _ (new_by _ _ refl refl (λ a b. true_false (sym a ∙ e)))

-- a group's key message has its LLID
pub message_llid : (w : Setting) (s : State) (u g k : ℕ) (out : List ℕ) (i : Invariant w s) (d : DueOfGroup s u g k out) (m : KeyMessage) (t : ℕ)
    → group_in_flight_at s u g k ≡ key_message m t → m.llid ≡ (group_lane_at s g).llid
message_llid w s u g k out i d m t is = (rw is at (taken w s u g k out i d)).0.llid

module _ (w : Setting) (s : State) (u g k : ℕ) (out : List ℕ) (i : Invariant w s) (d : DueOfGroup s u g k out) (m : KeyMessage) (t : ℕ)
    (is : group_in_flight_at s u g k ≡ key_message m t) (joined : is_joined (joined_by s u) (group_lane_at s g).llid ≡ true)
    (synced : is_synced (lane_at (alone s) u) ≡ true) (ahead : (group_at s.head g).keys.offered ≡ (group_at s.head g).keys.active + 1)
    (last : m.number ≡ (group_at s.head g).keys.offered) (most : m.number ≤ max_key_number) where
  abbrev x : Subscriber
  x = subscriber_at s u

  abbrev lane : GroupLane
  lane = group_lane_at s g

  accepts : (j : ℕ) → find_joined x lane.llid ≡ Some j → joined_message_verdict x.onu.clock (joined_at x j) m ≡ no_refusal
  unfolding joined_message_verdict
  accepts j found =
      let f = rw (joined_for_at x lane.llid j found) at (follows w s u g k out i d) in
      let under = rw is at (taken w s u g k out i d) in
      refuse_passed _ ClockNotSet _ (not_of_true (eq-eqb x.onu.clock.synced 1 (synced_up w s u g k out i d synced)))
      ∙ refuse_passed _ NothingOutstanding _ (not_of_true (last_fits lane _ _ _ (joined_by s u) (joined_at x j) _ m f ahead last under.0.key most))

  accepted_at : (j : ℕ) → find_joined x lane.llid ≡ Some j → (subscriber_key_message_of x m).number ≡ 0
  unfolding subscriber_key_message_of by_llid subscriber_acknowledged joined_lift put_joined message_joined valid_subscriber
  accepted_at j found =
      let here : find_joined x m.llid ≡ Some j = ap (find_joined x) (message_llid w s u g k out i d m t is) ∙ found in
      let a = refuse_passed _ OutOfRange _ (not_of_true (both_true (valid_onu-holds w s u g k out i d) (memberships_right w s i u))) ∙ accepts j found in
      rw (
        here,
        reply_accepted _ x no_answer (with_joined x j (joined_after_message (joined_at x j) m)) (group_answer x.onu.identity m.number) a,
      )

  pub message_accepted : (subscriber_key_message_of x m).number ≡ 0
  message_accepted = by_found (find_joined x lane.llid) refl where
    by_found : (f : Option ℕ) → find_joined x lane.llid ≡ f → (subscriber_key_message_of x m).number ≡ 0
    by_found (Some j) found = accepted_at j found
    by_found None none =
        true_false
        (sym joined ∙ joined_listed _ _ x (joined_by s u) lane.llid (i.joins u (unit_known w s u g k out i d)) ∙ joined_nowhere x lane.llid none)
