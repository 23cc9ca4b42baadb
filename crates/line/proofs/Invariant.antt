-- The invariant of a line with groups: that of the units, and what holds of the groups at the OLT and at each unit after every list of
-- events. The level of what is under way of a group is the number in use when it left: n - 1 for the message of key n, the number of an
-- envelope; it never falls. Assumes nothing.
use mathlib.Core.Path.{◌≡◌}
use mathlib.Core.Bool.{Bool, true, false}
use mathlib.Core.List.{List, [], ◌∷◌, map, Memᴰ}
use Prim.Native.Nat.{ℕ, ◌+◌, ◌-◌, ◌<◌, ◌≤◌}
use lib.Dec.{ltb}
use lib.ListN.{length, get_or}
use Rattle.octets.specs.Choice.{either}
use Rattle.refusal.specs.Number.{number_of}
use Rattle.refusal.specs.declared.Refusal.TheVariants.{ClockNotSet}
use Rattle.envelope.specs.Acceptance.{lengths_fit}
use Rattle.envelope.specs.Channels.{downstream}
use Rattle.ends.specs.Keys.{key_in}
use Rattle.ends.specs.Limits.{max_units}
use Rattle.ends.specs.declared.Channels.{Channels}
use Rattle.ends.specs.declared.FirstSend.{FirstSend}
use Rattle.protocol.specs.declared.KeyMessage.{KeyMessage}
use Rattle.group_protocol.specs.Limits.{max_joined}
use Rattle.group_protocol.specs.Head.{group_at, valid_groups}
use Rattle.group_protocol.specs.Subscriber.{fresh_joined, joined_llids, joined_groups, find_joined, joined_at, valid_memberships}
use Rattle.group_protocol.specs.JoinedCalls.{holds}
use Rattle.group_protocol.specs.declared.GroupRecord.{GroupRecord}
use Rattle.group_protocol.specs.declared.Joined.{Joined}
use Rattle.group_protocol.specs.declared.Subscriber.{Subscriber}
use Rattle.group_protocol.specs.Naming.{by_llid}
use Rattle.unicast.specs.Setting.{Setting}
use Rattle.unicast.specs.History.{downward, Envelope, InFlight, clock_message, key_message, envelope, Arrival, Lane, key_of}
use Rattle.unicast.specs.Run.{no_site, lane_at}
use Rattle.unicast.specs.Claim.{SentRight, ArrivedRight}
use Rattle.unicast.proofs.Invariant.{Timing, Spent, count_down, Spaced}
use Rattle.unicast.proofs.Invariant as units
use Rattle.line.specs.History.{GroupAnswered, GroupArrival, GroupLane, Membership, no_path, is_member, has_taken}
use Rattle.line.specs.Run.{State, alone, subscriber_at, joined_by, no_group_lane, group_lane_at, now, lanes}

---- a group at the OLT

-- its line as that of a unit: its keys, and what was sent under them
abbrev pub lane_of : GroupLane → Lane
lane_of g =
    record {
      site = no_site;
      path = no_path;
      entry = g.entry;
      captured = 0;
      keys = g.keys;
      transit = record { towards = []; from = []; answered = [] };
      past = record { sent = g.sent; arrived = [] };
    }

-- an envelope that was sent to it, with the channels, the first send under the key in use and its number as they stand
pub record GroupSend (w : Setting) (channels : Channels) (first : FirstSend) (active : ℕ) (g : GroupLane) (e : Envelope) : Type 0 where
  pub direction : e.direction ≡ downward
  pub llid : e.llid ≡ g.llid
  pub down : downstream e.channel ≡ true
  pub fits : lengths_fit (length e.payload) (length e.payload) ≡ true
  pub spent : Spent channels first active 0 0 (count_down e) e
  pub right : SentRight w (lane_of g) e

abbrev pub arrival_in : GroupArrival → Arrival
arrival_in r =
    record { envelope = r.envelope; number = r.number; count = r.count; runs = r.runs; output = r.output; passage = r.passage }

pub record GroupArrived (w : Setting) (g : GroupLane) (r : GroupArrival) : Type 0 where
  pub sent : Memᴰ r.envelope g.sent
  pub clear : r.joined ≡ true → r.envelope.number ≡ 0 → ArrivedRight w (lane_of g) (arrival_in r)
  pub sealed : r.took ≡ true → r.synced ≡ true → 1 ≤ r.envelope.number → ArrivedRight w (lane_of g) (arrival_in r)
  pub unsynced : r.joined ≡ true → r.synced ≡ false → 1 ≤ r.envelope.number → r.number ≡ number_of ClockNotSet

-- with the OLT's record of it
pub record Recorded (w : Setting) (channels : Channels) (now : ℕ) (g : GroupLane) (r : GroupRecord) : Type 0 where
  pub llid : r.llid ≡ g.llid
  pub counted : r.keys.active ≡ g.keys.switches
  pub listed : r.keys.offered ≡ length g.keys.offers
  pub mid : r.keys.active ≤ r.keys.offered
  pub next : r.keys.offered ≤ r.keys.active + 1
  pub stored : (n : ℕ) → 1 ≤ n → r.keys.active ≤ n → n ≤ r.keys.offered → key_in r.keys.slots n ≡ key_of g.keys n
  pub timing : Timing g.entry g.keys now r.keys.timer
  pub sends : (e : Envelope) → Memᴰ e g.sent → GroupSend w channels r.keys.first r.keys.active g e
  pub spaced : Spaced g.sent
  pub arrived : (a : GroupArrival) → Memᴰ a g.arrived → GroupArrived w g a

---- what is under way of a group to a unit

pub record KeyUnder (g : GroupLane) (lo hi top : ℕ) (m : KeyMessage) : Type 0 where
  pub above : lo < m.number
  pub level : m.number ≤ hi + 1
  pub most : m.number ≤ top
  pub key : m.key ≡ key_of g.keys m.number
  pub llid : m.llid ≡ g.llid

pub record EnvelopeUnder (g : GroupLane) (lo hi : ℕ) (e : Envelope) : Type 0 where
  pub above : lo ≤ e.number
  pub most : e.number ≤ hi
  pub sent : Memᴰ e g.sent

-- levels never fall: they lie in [lo, hi], and no key is above top
abbrev pub Under : GroupLane → ℕ → ℕ → ℕ → List InFlight → Type 0
Under g lo hi top [] = Prim.Unit {0}
Under g lo hi top (clock_message m c t ∷ xs) = ⊥
Under g lo hi top (key_message m t ∷ xs) = KeyUnder g lo hi top m × Under g (m.number - 1) hi top xs
Under g lo hi top (envelope e ∷ xs) = EnvelopeUnder g lo hi e × Under g e.number hi top xs

---- a group at a unit

-- what the unit has of the LLID: of one that it has not joined, what it has of one just joined
unfoldable pub joined_for : Subscriber → ℕ → Joined
joined_for x llid = by_llid (find_joined x llid) (fresh_joined llid) (joined_at x)

-- the key of that number is stored, and is the one that was offered
pub record KeyHeld (g : GroupLane) (offered : ℕ) (j : Joined) (n : ℕ) : Type 0 where
  pub some : 1 ≤ n
  pub most : n ≤ offered
  pub key : key_in j.keys.slots n ≡ key_of g.keys n

-- a unit and a group of which A and O are those at the OLT; what the unit took it has, or had before a
pub record Follows (g : GroupLane) (active offered : ℕ) (member : Bool) (ms : List Membership) (j : Joined) (xs : List InFlight) : Type 0 where
  pub low : j.keys.active ≤ active
  pub kept : j.kept ≡ 1 → KeyHeld g offered j j.keys.active
  pub held : j.keys.held ≡ 1 → KeyHeld g offered j (j.keys.active + 1)
  pub took : (n : ℕ) → has_taken ms g.llid n ≡ true → either (ltb n j.keys.active) (holds j n) ≡ true
  pub queue : Under g j.keys.active active offered xs
  pub stranger : member ≡ false → xs ≡ []

-- nothing has been taken
pub record Empty (j : Joined) : Type 0 where
  pub active : j.keys.active ≡ 0
  pub held : j.keys.held ≡ 0
  pub kept : j.kept ≡ 0

-- no group of that LLID has the unit as a member
abbrev pub Stranger : List GroupLane → Lane → ℕ → Type 0
Stranger gs l llid = (g : ℕ) → g < length gs → (get_or gs g no_group_lane).llid ≡ llid → is_member (get_or gs g no_group_lane) l ≡ false

pub record Joins (gs : List GroupLane) (l : Lane) (x : Subscriber) (ms : List Membership) : Type 0 where
  pub valid : valid_memberships x ≡ true
  pub places : length x.memberships.table ≡ max_joined
  pub llids : map (λ (m : Membership). m.llid) ms ≡ joined_llids (joined_groups x)
  pub stranger : (llid : ℕ) → Stranger gs l llid → Empty (joined_for x llid)
  pub untaken : (llid : ℕ) → Stranger gs l llid → (n : ℕ) → has_taken ms llid n ≡ false

---- the whole

pub record Invariant (w : Setting) (s : State) : Type 0 where
  pub units : units.Invariant w (alone s)
  pub valid : valid_groups s.head ≡ true
  pub places : length s.head.groups.table ≡ max_units
  pub count : s.head.groups.count ≡ length s.history.groups
  pub paired : length s.history.joined ≡ length (lanes s)
  pub queues : (g : ℕ) → g < length s.history.groups → length (group_lane_at s g).towards ≡ length (lanes s)
  pub group : (g : ℕ) → g < length s.history.groups → Recorded w s.head.olt.shared.channels (now s) (group_lane_at s g) (group_at s.head g)
  pub joins : (u : ℕ) → u < length (lanes s) → Joins s.history.groups (lane_at (alone s) u) (subscriber_at s u) (joined_by s u)
  pub follows : (u g : ℕ) → u < length (lanes s) → g < length s.history.groups
      → Follows (group_lane_at s g) (group_at s.head g).keys.active (group_at s.head g).keys.offered
      (is_member (group_lane_at s g) (lane_at (alone s) u)) (joined_by s u)
      (joined_for (subscriber_at s u) (group_lane_at s g).llid) (get_or (group_lane_at s g).towards u [])
  -- what a unit answered for it has taken
  pub answered : (g : ℕ) (a : GroupAnswered) → g < length s.history.groups → Memᴰ a (group_lane_at s g).answered
      → has_taken (joined_by s a.unit) (group_lane_at s g).llid a.answer.number ≡ true
  -- all keys different
  pub keys : (g h m n : ℕ) → m < length (group_lane_at s g).keys.offers → n < length (group_lane_at s h).keys.offers
      → get_or (group_lane_at s g).keys.offers m [] ≡ get_or (group_lane_at s h).keys.offers n [] → (g ≡ h) × (m ≡ n)
  pub mixed : (u g m n : ℕ) → m < length (lane_at (alone s) u).keys.offers → n < length (group_lane_at s g).keys.offers
      → get_or (lane_at (alone s) u).keys.offers m [] ≡ get_or (group_lane_at s g).keys.offers n [] → ⊥
