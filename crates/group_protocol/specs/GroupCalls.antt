-- The calls of the OLT on one group (02, C-14). A group has no C: an offer needs O = A, and a switch waits for the timer alone. Assumes
-- nothing.
use Rattle.std.specs.Prelude.{Bool, true, false, not, List, ℕ, ◌+◌, leb, ltb, eqb, Option, Some, None}
use Rattle.octets.specs.Choice.{both, pick}
use Rattle.octets.specs.Lists.{all, same}
use Rattle.refusal.specs.declared.Refusal.TheVariants.{UnknownLlid, ClockNotSet, OfferPending, SameKey, NothingOutstanding, AtEnd}
use Rattle.refusal.specs.Order.{refuse_if}
use Rattle.ends.specs.Limits.{max_key_number}
use Rattle.ends.specs.Flags.{is_up}
use Rattle.ends.specs.Timers.{timer_advanced}
use Rattle.ends.specs.Keys.{key_in, only_key}
use Rattle.ends.specs.Occupancy.{taken, occupied}
use Rattle.ends.specs.Records.{with_timer, with_slots}
use Rattle.ends.specs.Table.{find, unit_at}
use Rattle.ends.specs.declared.Channels.{Channels}
use Rattle.ends.specs.declared.UnitKeys.{UnitKeys}
use Rattle.ends.specs.declared.Shared.{Shared}
use Rattle.ends.specs.declared.Olt.{Olt}
use Rattle.protocol.specs.Messages.{clock_kind, key_kind}
use Rattle.protocol.specs.Replies.{Silence, silent}
use Rattle.protocol.specs.UnitCalls.{keys_offered, key_message_of, retry_verdict}
use Rattle.protocol.specs.UnitTraffic.{keys_after_send}
use Rattle.protocol.specs.Headers.{clock_channel_key, sending_of}
use Rattle.protocol.specs.declared.KeyMessage.{KeyMessage}
use Rattle.protocol.specs.declared.KeyChoice.{KeyChoice}
use Rattle.protocol.specs.declared.KeyChoice.TheVariants.{Clear, Current, Next, Barred}
use Rattle.protocol.specs.declared.Sending.{Sending}
use Rattle.group_protocol.specs.Members.{places_of, member_at, unmarked, marked}
use Rattle.group_protocol.specs.Head.{with_group_keys, with_members}
use Rattle.group_protocol.specs.declared.Members.{Members}
use Rattle.group_protocol.specs.declared.GroupRecord.{GroupRecord}
use Rattle.group_protocol.specs.declared.Answer.{Answer}
use Rattle.refusal.specs.Verdict.{Verdict, no_refusal}

-- a call on one group: its verdict and, where that accepts, the group and the channels after it and what it hands over
pub record GroupOutcome (H : Type 0) : Type 0 where
  pub verdict : Verdict
  pub group : GroupRecord
  pub channels : Channels
  pub handed : H

-- a call that leaves the channels
unfoldable pub group_outcome : {H : Type 0} → Shared → Verdict → GroupRecord → H → GroupOutcome H
group_outcome s v g handed = record { verdict = v; group = g; channels = s.channels; handed = handed }

-- an advance moves a group's timer
unfoldable pub group_advanced : ℕ → GroupRecord → GroupRecord
group_advanced n g = with_group_keys g (with_timer g.keys (timer_advanced g.keys.timer n))

---- offer: 5, 6, 7, 17

-- every member's clock is acknowledged
unfoldable pub members_set : Olt → Members → Bool
members_set o m = all (λ place. is_up (unit_at o place).clock.acknowledged) (places_of m)

unfoldable pub group_offer_verdict : Bool → UnitKeys → List ℕ → Verdict
group_offer_verdict set k key =
    refuse_if (not set) ClockNotSet
    (refuse_if (ltb k.active k.offered) OfferPending
    (refuse_if (both (leb 1 k.active) (same key (key_in k.slots k.active))) SameKey
    (refuse_if (leb max_key_number k.active) AtEnd no_refusal)))

-- a new offer clears all marks
unfoldable pub group_offered : GroupRecord → List ℕ → GroupRecord
group_offered g key = with_members (with_group_keys g (keys_offered g.keys key)) (unmarked g.members)

-- set says that every member's clock is acknowledged
unfoldable pub offer_group : ℕ → List ℕ → Bool → Shared → GroupRecord → GroupOutcome KeyMessage
offer_group llid key set s g =
    group_outcome s (group_offer_verdict set g.keys key) (group_offered g key) (key_message_of llid (keys_offered g.keys key))

---- retry: 8

unfoldable pub retry_group : ℕ → Shared → GroupRecord → GroupOutcome KeyMessage
retry_group llid s g = group_outcome s (retry_verdict g.keys) g (key_message_of llid g.keys)

---- acknowledgement: 2 for the clock kind, as every clock call on a group's LLID, then 8

-- which member the unit is that was found
unfoldable pub member_found : Members → Option ℕ → Option ℕ
member_found m None = None
member_found m (Some place) = member_at m place

-- the member that the answer names, by any LLID of its unit
unfoldable pub member_named : Olt → Members → Answer → Option ℕ
member_named o m a = pick (is_up a.named) (member_found m (find o a.unit)) None

-- it is of the key kind, and its number is O, which is 1 or more
unfoldable pub answers_offer : UnitKeys → Answer → Bool
answers_offer k a = both (eqb a.kind key_kind) (both (leb 1 a.number) (eqb a.number k.offered))

unfoldable pub is_found : Option ℕ → Bool
is_found None = false
is_found (Some j) = true

unfoldable pub group_acknowledge_verdict : Answer → Option ℕ → UnitKeys → Verdict
group_acknowledge_verdict a member k =
    refuse_if (eqb a.kind clock_kind) UnknownLlid
    (refuse_if (not (both (is_found member) (answers_offer k a))) NothingOutstanding no_refusal)

-- the member has acknowledged
unfoldable pub group_marked : GroupRecord → Option ℕ → GroupRecord
group_marked g None = g
group_marked g (Some j) = with_members g (marked g.members j)

-- marks the member that it names
unfoldable pub acknowledge_group : Answer → Option ℕ → Shared → GroupRecord → GroupOutcome Silence
acknowledge_group a member s g = group_outcome s (group_acknowledge_verdict a member g.keys) (group_marked g member) silent

---- send: 12, 13

-- the next accepted send switches, acknowledged or not
unfoldable pub group_switches : UnitKeys → Bool
group_switches k = both (is_up k.timer.flag) (eqb k.offered (k.active + 1))

-- key O where it switches, else key A, clear while A = 0
unfoldable pub group_send_choice : UnitKeys → KeyChoice
group_send_choice k = pick (group_switches k) (Next k.offered) (pick (eqb k.active 0) Clear (Current k.active))

-- at the switch the old key is wiped
unfoldable pub wiped_at_switch : KeyChoice → UnitKeys → UnitKeys
wiped_at_switch Clear k = k
wiped_at_switch (Current n) k = k
wiped_at_switch (Next n) k = with_slots k (only_key k.slots k.active)
wiped_at_switch (Barred r) k = k

-- as a unit's keys, but for the wiping
unfoldable pub group_keys_after_send : KeyChoice → UnitKeys → ℕ → UnitKeys
group_keys_after_send choice k tick = wiped_at_switch choice (keys_after_send choice k tick)

-- as to a unit, but for 5: a group's send waits for no member's clock (D46)
unfoldable pub send_group : ℕ → ℕ → ℕ → Shared → GroupRecord → GroupOutcome Sending
send_group llid channel eqs s g =
    record {
      verdict = clock_channel_key true (taken s.channels channel s.tick) (group_send_choice g.keys) g.keys.first s.tick;
      group = with_group_keys g (group_keys_after_send (group_send_choice g.keys) g.keys s.tick);
      channels = occupied s.channels channel s.tick eqs;
      handed = sending_of (group_send_choice g.keys) g.keys.slots s.mac s.clock channel llid;
    }
