-- Head ends with two units and two groups, made by the calls themselves, and what the laws say of them: calls that may change places, and
-- calls that may not (02, C-22). Assumes nothing.
use Rattle.std.specs.Prelude.{◌≡◌, true, false, List, [], ◌∷◌, ℕ, replicate}
use Rattle.refusal.specs.Number.{number_of}
use Rattle.refusal.specs.declared.Refusal.TheVariants.{ChannelTaken, ClockNotSet, NothingOutstanding, UnknownLlid}
use Rattle.ends.specs.declared.Identity.{Identity}
use Rattle.protocol.specs.Messages.{clock_kind}
use Rattle.group_protocol.specs.Head.{valid_head}
use Rattle.group_protocol.specs.declared.Answer.{Answer}
use Rattle.group_protocol.specs.declared.HeadEnd.{HeadEnd}
use Rattle.group_protocol.specs.declared.Roster.{Roster}
use Rattle.group_protocol.specs.declared.Subscriber.{Subscriber}
use Rattle.headend.specs.HeadCalls.{fresh_head_of, head_advance_of, head_register_of, register_group_of}
use Rattle.subscriber.specs.SubscriberCalls.{fresh_subscriber_of, join_of, subscriber_advance_of, subscriber_new_time_of}
use Rattle.orders.specs.Calls.{Call, acknowledge, after, answer_of, capture, clock_send, measure, offer, retry, send, told_number}
use Rattle.orders.specs.EitherOrder.{Commute}
use Rattle.orders.specs.Locality.{SameGroup, SameUnit}
use Rattle.orders.specs.Parties.{excepted, party_of, same_party}

---- the head ends

abbrev pub olt_mac : ℕ
olt_mac = 0x020000000001

abbrev pub first_clock : ℕ
first_clock = 0x41

-- a new key each so many ticks
abbrev pub interval : ℕ
interval = 1000

abbrev pub first_unit : Identity
first_unit = record { mac = 0x020000000002; llids = 5 ∷ 0 ∷ 0 ∷ 0 ∷ []; count = 1 }

abbrev pub second_unit : Identity
second_unit = record { mac = 0x020000000003; llids = 6 ∷ 0 ∷ 0 ∷ 0 ∷ []; count = 1 }

-- the first unit is the one member of both groups
abbrev pub members : Roster
members = record { llids = 5 ∷ 0 ∷ 0 ∷ 0 ∷ 0 ∷ 0 ∷ 0 ∷ 0 ∷ []; count = 1 }

abbrev pub clock_answer : Answer
clock_answer = record { kind = clock_kind; named = 0; unit = 0; number = 0 }

abbrev pub with_units : Identity → Identity → HeadEnd
with_units i j = (head_register_of (head_register_of (fresh_head_of olt_mac first_clock).head i 0 interval).head j 0 interval).head

abbrev pub with_groups : HeadEnd → HeadEnd
with_groups h = (register_group_of (register_group_of h 7 interval members).head 8 interval members).head

-- the first unit's clock is acknowledged
abbrev pub with_clock : HeadEnd → HeadEnd
with_clock h = after (after (after h (capture 5)) (clock_send 5)) (acknowledge 5 clock_answer)

unfoldable pub example : HeadEnd
example = with_clock (with_groups (with_units first_unit second_unit))

-- the units have each other's places
unfoldable pub swapped : HeadEnd
swapped = with_clock (with_groups (with_units second_unit first_unit))

-- a unit that joined a group, and whose path changed
unfoldable pub subscriber : Subscriber
subscriber = (subscriber_new_time_of (join_of (fresh_subscriber_of first_unit olt_mac first_clock).subscriber 7).subscriber 0x60).subscriber

---- the calls

abbrev pub octets : ℕ → List ℕ
octets n = replicate n 0

-- one EQ to the first unit, on channel 0
abbrev pub to_first : Call
to_first = send 5 0x00 (octets 9) (octets 9)

-- two EQs to the second, on channel 1 and on channel 0
abbrev pub to_second : Call
to_second = send 6 0x01 (octets 18) (octets 18)

abbrev pub to_second_same_channel : Call
to_second_same_channel = send 6 0x00 (octets 18) (octets 18)

abbrev pub offer_to : ℕ → Call
offer_to llid = offer llid (replicate 16 1)

---- what is shown

abbrev pub number_at : HeadEnd → Call → ℕ
number_at h c = told_number (answer_of h c)

-- two calls with these codes that may change places
pub record MayChange (x y : Call) (numberX numberY : ℕ) : Type 0 where
  pub different : same_party (party_of example x) (party_of example y) ≡ false
  pub allowed : excepted example x y ≡ false
  pub first : number_at example x ≡ numberX
  pub second : number_at example y ≡ numberY
  pub either_order : Commute example x y

-- two that are accepted alone and may not: after the other, their codes are these
pub record MayNot (x y : Call) (numberY numberX : ℕ) : Type 0 where
  pub different : same_party (party_of example x) (party_of example y) ≡ false
  pub excepted : excepted example x y ≡ true
  pub first : number_at example x ≡ 0
  pub second : number_at example y ≡ 0
  pub after_first : number_at (after example x) y ≡ numberY
  pub after_second : number_at (after example y) x ≡ numberX

pub record Shown : Type 0 where
  pub valid : valid_head example ≡ true
  pub two_channels : MayChange to_first to_second 0 0
  pub two_groups : MayChange (offer_to 7) (offer_to 8) 0 0
  pub group_and_other : MayChange (offer_to 7) (measure 6 40) 0 0
  pub refused : MayChange to_first (retry 6) 0 (number_of NothingOutstanding)
  pub nobody : MayChange to_first (capture 9) 0 (number_of UnknownLlid)
  pub one_channel : MayNot to_first to_second_same_channel (number_of ChannelTaken) (number_of ChannelTaken)
  pub group_and_member : MayNot (measure 5 40) (offer_to 7) (number_of ClockNotSet) 0
  -- of two sends on one channel the first says how long it is taken
  pub taken_by_first : (after (after example to_first) to_second_same_channel).olt.shared.channels.zero ≡ 2
  pub taken_by_second : (after (after example to_second_same_channel) to_first).olt.shared.channels.zero ≡ 3
  -- in other places a unit and a group answer the same
  pub unit_elsewhere : SameUnit example swapped 0 1
  pub unit_answers : answer_of example to_first ≡ answer_of swapped to_first
  pub group_elsewhere : SameGroup example swapped 0 0
  pub group_answers : answer_of example (offer_to 7) ≡ answer_of swapped (offer_to 7)
  -- advances add up
  pub head_advances : head_advance_of (head_advance_of example 3).head 4 ≡ head_advance_of example 7
  pub unit_advances : subscriber_advance_of (subscriber_advance_of subscriber 3).subscriber 4 ≡ subscriber_advance_of subscriber 7
