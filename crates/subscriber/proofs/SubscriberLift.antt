-- Laws of the lift from a call on one joined group to the subscriber's, and of what stands in a subscriber. Assumes nothing.
use Rattle.std.specs.Prelude.{Ok, Err, Some}
use mathlib.Core.Path.{◌≡◌, refl}
use mathlib.Core.Bool.{true, false}
use Prim.Native.Nat.{ℕ, ◌<◌}
use borrow.Author.Tests.{leb-false}
use Rattle.octets.proofs.Choice.{either_false, not_of_true, not_of_false}
use Rattle.refusal.specs.declared.Refusal.TheVariants.{OutOfRange}
use Rattle.refusal.proofs.Order.{refuse_accepted, refuse_passed, refuse_stopped}
use Rattle.unit.specs.Reached.{if_accepted}
use Rattle.ends.specs.Identities.{among, has, llids_of}
use Rattle.ends.specs.declared.Onu.{Onu}
use Rattle.protocol.specs.Replies.{reply, on_valid}
use Rattle.group_protocol.specs.Limits.{max_joined}
use Rattle.group_protocol.specs.Subscriber.{has_joined, find_joined, joined_at, with_joined, valid_subscriber}
use Rattle.group_protocol.specs.JoinedCalls.{JoinedOutcome}
use Rattle.group_protocol.specs.declared.Joined.{Joined}
use Rattle.group_protocol.specs.declared.Subscriber.{Subscriber}
use Rattle.group_protocol.proofs.Subscribers.{found_valid, valid_joins, with_itself}
use Rattle.groups.specs.Reached.{reached_joined}
use Rattle.subscriber.specs.SubscriberCalls.{join_verdict, joined_lift, put_joined}
use Rattle.refusal.specs.Verdict.{Verdict, no_refusal}

-- a join that is accepted finds room
pub join_room : (s : Subscriber) (llid : ℕ) → on_valid (valid_subscriber s) (join_verdict s llid) ≡ no_refusal → s.memberships.count < max_joined
unfolding join_verdict
join_room s llid e =
    let a = refuse_accepted _ _ _ e in
    let b = refuse_accepted _ _ _ a.1 in
    leb-false max_joined s.memberships.count (refuse_accepted _ _ _ b.1).0

-- and an LLID that the unit does not hold
pub join_new : (s : Subscriber) (llid : ℕ) → on_valid (valid_subscriber s) (join_verdict s llid) ≡ no_refusal
    → (among llid (llids_of s.onu.identity) ≡ false) × (has_joined s llid ≡ false)
unfolding join_verdict has
join_new s llid e = either_false _ _ (refuse_accepted _ _ _ (refuse_accepted _ _ _ e).1).0

module _ {H : Type 0} (s : Subscriber) (nothing : H) (call : Onu → Joined → JoinedOutcome H) (i : ℕ) where
  -- 1 for a lent end that is not valid
  pub lift_invalid : valid_subscriber s ≡ false → joined_lift s nothing call i ≡ record { verdict = Err OutOfRange; end = s; handed = nothing }
  unfolding joined_lift put_joined reply
  lift_invalid e = rw (refuse_stopped _ OutOfRange (call s.onu (joined_at s i)).verdict (not_of_false e))

  -- else what the group decides, as the code answers
  pub lift_reached : (llid : ℕ) → valid_subscriber s ≡ true → find_joined s llid ≡ Some i
      → let d = reached_joined nothing (joined_at s i) (call s.onu (joined_at s i)) in
      joined_lift s nothing call i ≡ record { verdict = d.verdict; end = with_joined s i d.joined; handed = d.handed }
  unfolding joined_lift put_joined reached_joined reply if_accepted
  lift_reached llid v e =
      let c = call s.onu (joined_at s i) in
      rw (
        refuse_passed _ OutOfRange c.verdict (not_of_true v),
        refuse_passed _ OutOfRange c.verdict (not_of_true (found_valid s llid i (valid_joins s v) e)),
      )
      (by_verdict-holds c.verdict c.joined c.handed) where
        by_verdict-holds : (v : Verdict) (j : Joined) (h : H)
            → reply v s nothing (with_joined s i j) h
            ≡ record { verdict = v; end = with_joined s i (if_accepted v j (joined_at s i)); handed = if_accepted v h nothing }
        by_verdict-holds (Ok tt) j h = refl
        by_verdict-holds (Err r) j h = rw (with_itself s i)
