-- What a unit's call on a group that it joined leaves: refused, the unit as it was; accepted, that group. Assumes nothing.
use Rattle.std.specs.Prelude.{Ok, Err}
use mathlib.Core.Path.{◌≡◌, refl}
use mathlib.Core.Bool.{true}
use Prim.Native.Nat.{ℕ}
use borrow.Author.Tests.{not-false}
use Rattle.refusal.specs.declared.Refusal.{Refusal}
use Rattle.refusal.proofs.Order.{refuse_accepted}
use Rattle.ends.specs.declared.Onu.{Onu}
use Rattle.protocol.specs.Replies.{on_valid}
use Rattle.protocol.proofs.Replies.{reply_accepted, reply_refused}
use Rattle.group_protocol.specs.JoinedCalls.{JoinedOutcome}
use Rattle.group_protocol.specs.Subscriber.{joined_at, with_joined, valid_subscriber}
use Rattle.group_protocol.specs.declared.Joined.{Joined}
use Rattle.group_protocol.specs.declared.Subscriber.{Subscriber}
use Rattle.subscriber.specs.SubscriberCalls.{put_joined, joined_lift}
use Rattle.refusal.specs.Verdict.{Verdict, no_refusal}

module _ {H : Type 0} (x : Subscriber) (nothing : H) (call : Onu → Joined → JoinedOutcome H) (i : ℕ) where
  pub record Lifted : Type 0 where
    pub valid : valid_subscriber x ≡ true
    pub accepts : (call x.onu (joined_at x i)).verdict ≡ no_refusal
    pub is : joined_lift x nothing call i ≡ record {
      verdict = no_refusal;
      end = with_joined x i (call x.onu (joined_at x i)).joined;
      handed = (call x.onu (joined_at x i)).handed;
    }

  pub data Ends : Type 0 where
    accepted : Lifted → Ends
    refused : (r : Refusal) → joined_lift x nothing call i ≡ record { verdict = Err r; end = x; handed = nothing } → Ends

  pub lift_ends : Ends
  unfolding joined_lift put_joined
  lift_ends = by_verdict-holds (on_valid (valid_subscriber x) (call x.onu (joined_at x i)).verdict) refl where
    by_verdict-holds : (v : Verdict) → on_valid (valid_subscriber x) (call x.onu (joined_at x i)).verdict ≡ v → Ends
    by_verdict-holds (Ok tt) e =
        let a = refuse_accepted _ _ _ e in
        accepted (record { valid = not-false _ a.0; accepts = a.1; is = reply_accepted _ x nothing _ _ e })
    by_verdict-holds (Err r) e = refused r (reply_refused _ x nothing _ _ r e)
