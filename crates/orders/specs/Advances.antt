-- Advances add up at both ends, with groups and path changes in the records (02, C-22). Assumes nothing.
use Rattle.std.specs.Prelude.{◌≡◌, ℕ, ◌+◌}
use Rattle.group_protocol.specs.declared.HeadEnd.{HeadEnd}
use Rattle.group_protocol.specs.declared.Subscriber.{Subscriber}
use Rattle.headend.specs.HeadCalls.{head_advance_of}
use Rattle.subscriber.specs.SubscriberCalls.{subscriber_advance_of}

-- wherever the sum is accepted
pub record Advances : Type 0 where
  pub head : (h : HeadEnd) (m n : ℕ) → (head_advance_of h (m + n)).number ≡ 0
      → head_advance_of (head_advance_of h m).head n ≡ head_advance_of h (m + n)
  pub subscriber : (s : Subscriber) (m n : ℕ) → (subscriber_advance_of s (m + n)).number ≡ 0
      → subscriber_advance_of (subscriber_advance_of s m).subscriber n ≡ subscriber_advance_of s (m + n)
