-- The invariant: what holds of the ends and the history after every list of events. One record for each subject, over just the
-- fields that it speaks of, so that a call that leaves these leaves the record: a step says what it changes, and `search` finds the rest
-- in what held before. Assumes nothing.
use mathlib.Core.Path.{◌≡◌}
use mathlib.Core.Bool.{Bool, true, false}
use mathlib.Core.List.{List, [], ◌∷◌, map, Memᴰ}
use mathlib.Core.Logic.{◌⊎◌}
use Prim.Native.Nat.{ℕ, ◌+◌, ◌-◌, ◌%◌, ◌<◌, ◌≤◌}
use lib.ListN.{length, get_or}
use Rattle.clock.specs.Ticks.{clock_turn, local_turn, ticks_per_second, key_life, max_round_trip}
use Rattle.clock.specs.Stamping.{captured_at}
use Rattle.clock.specs.Aligned.{Aligned}
use Rattle.clock.specs.declared.Stamps.{Stamps}
use Rattle.envelope.specs.Acceptance.{lengths_fit}
use Rattle.ends.specs.Identities.{has}
use Rattle.ends.specs.Keys.{key_in}
use Rattle.ends.specs.Limits.{max_changes}
use Rattle.ends.specs.Travels.{travel_of}
use Rattle.protocol.specs.Messages.{clock_kind, key_kind}
use Rattle.envelope.specs.Channels.{downstream, upstream}
use Rattle.ends.specs.Occupancy.{free_from}
use Rattle.ends.specs.Table.{unit_at}
use Rattle.ends.specs.Validity.{valid_olt, valid_onu}
use Rattle.ends.specs.declared.Channels.{Channels}
use Rattle.ends.specs.declared.FirstSend.{FirstSend}
use Rattle.ends.specs.declared.Identity.{Identity}
use Rattle.protocol.specs.declared.KeyMessage.{KeyMessage}
use Rattle.ends.specs.declared.Olt.{Olt}
use Rattle.ends.specs.declared.Onu.{Onu}
use Rattle.ends.specs.declared.OnuClock.{OnuClock}
use Rattle.ends.specs.declared.OnuKeys.{OnuKeys}
use Rattle.ends.specs.declared.Shared.{Shared}
use Rattle.ends.specs.declared.Slots.{Slots}
use Rattle.ends.specs.declared.Timer.{Timer}
use Rattle.ends.specs.declared.Travel.{Travel}
use Rattle.ends.specs.declared.UnitRecord.{UnitRecord}
use Rattle.ends.specs.declared.UnitClock.{UnitClock}
use Rattle.unicast.specs.Setting.{Delays, Setting}
use Rattle.unicast.specs.History.{Direction, downward, upward, Envelope, InFlight, clock_message, key_message, envelope, left_at, Answered, Arrival, Entry, Keys, Transit, Lane, key_of, due, clock_answered}
use Rattle.unicast.specs.Run.{State, lane_at, onu_at, no_envelope}
use Rattle.unicast.specs.Claim.{SentRight, ArrivedRight}
use Rattle.unicast.specs.Bounds.{highest, longest}

-- a test as a flag
abbrev pub flag_of : Bool → ℕ
flag_of true = 1
flag_of false = 0

-- the highest number that a unit holds a key for
abbrev pub reach_of : OnuKeys → ℕ
reach_of k = k.active + k.held

---- one registered unit: numbers and keys

-- C ≤ a ≤ A ≤ reach ≤ O ≤ C + 1, and an acknowledged offer is held
pub record Numbers (k : Keys) (active offered confirmed acknowledged : ℕ) (o : OnuKeys) : Type 0 where
  pub counted : active ≡ k.switches
  pub listed : offered ≡ length k.offers
  pub last : o.active ≡ k.number
  pub marked : acknowledged ≡ flag_of k.acknowledged
  pub flag : o.held ≤ 1
  pub low : confirmed ≤ o.active
  pub mid : o.active ≤ active
  pub high : active ≤ reach_of o
  pub top : reach_of o ≤ offered
  pub next : offered ≤ confirmed + 1
  pub taken : k.acknowledged ≡ true → offered ≤ reach_of o

-- every stored key is the key of its number
pub record Stored (k : Keys) (confirmed offered : ℕ) (slots : Slots) (o : OnuKeys) : Type 0 where
  pub olt : (n : ℕ) → 1 ≤ n → confirmed ≤ n → n ≤ offered → key_in slots n ≡ key_of k n
  pub onu : (n : ℕ) → 1 ≤ n → o.active ≤ n → n ≤ reach_of o → key_in o.slots n ≡ key_of k n

---- timer and clocks

pub record Timing (r : Entry) (k : Keys) (now : ℕ) (t : Timer) : Type 0 where
  pub interval : t.interval ≡ r.interval
  pub some : 1 ≤ r.interval
  pub since : r.since ≤ k.switched
  pub switched : k.switched ≤ now
  pub count : t.count ≡ (now - r.since) % r.interval
  pub flag : t.flag ≡ flag_of (due r k now)

-- first is the OLT's first clock
pub record Clocks (first now : ℕ) (p : Delays) (captured : ℕ) (c : UnitClock) (o : OnuClock) : Type 0 where
  pub trip : c.trip ≡ p.up + p.down
  pub capture : c.captured ≡ 1 → (c.tick ≡ captured) × (captured ≤ now)
  pub flag : o.synced ≤ 1
  pub unsynced : o.synced ≡ 0 → o.time ≡ (first + now + p.up) % local_turn
  pub synced : o.synced ≡ 1 → Aligned (first + now) p.up p.down (record { rx = o.rx; tx = o.time })
  pub acknowledged : c.acknowledged ≡ 1 → o.synced ≡ 1

-- a unit is synced exactly if it has answered a clock message of its present path; it holds the keys that it answered for
pub record Answers (now : ℕ) (k : OnuKeys) (o : OnuClock) (answered : List Answered) : Type 0 where
  pub each : (x : Answered) → Memᴰ x answered
      → (x.acknowledgement.kind ≡ clock_kind → o.synced ≡ 1) × (x.acknowledgement.kind ≡ key_kind → x.acknowledgement.number ≤ reach_of k)
  pub set : o.synced ≡ 1 → clock_answered answered ≡ true

---- what is under way

-- a sealed envelope is on its way to a synced unit, and what a unit sent left by its present path
pub record UnderWay (p : Delays) (synced : ℕ) (t : Transit) : Type 0 where
  pub sealed : (e : Envelope) → Memᴰ (envelope e) t.towards → 1 ≤ e.number → synced ≡ 1
  pub present : (e : Envelope) → Memᴰ e t.from → e.up ≡ p.up

pub record ClockRight (first : ℕ) (p : Delays) (m : Stamps) (c t : ℕ) : Type 0 where
  pub stamps : m ≡ captured_at ((first + c) % clock_turn) (p.up + p.down)
  pub before : c ≤ t
  pub young : t ≤ c + ticks_per_second

pub record KeyRight (k : Keys) (i : Identity) (lo top : ℕ) (m : KeyMessage) : Type 0 where
  pub above : lo < m.number
  pub most : m.number ≤ top
  pub key : m.key ≡ key_of k m.number
  pub named : has i m.llid ≡ true

-- an envelope under way was sent that way, and its number lies between lo and hi
pub record Under (i : Identity) (past : List Envelope) (direction : Direction) (lo hi : ℕ) (e : Envelope) : Type 0 where
  pub above : lo ≤ e.number
  pub most : e.number ≤ hi
  pub sent : Memᴰ e past
  pub that_way : e.direction ≡ direction
  pub named : has i e.llid ≡ true

-- towards a unit: numbers never fall, envelopes in [lo, hi], keys above lo and at most top
abbrev pub Towards : ℕ → Delays → Lane → ℕ → ℕ → ℕ → List InFlight → Type 0
Towards first p l lo hi top [] = Prim.Unit {0}
Towards first p l lo hi top (clock_message m c t ∷ xs) = ClockRight first p m c t × Towards first p l lo hi top xs
Towards first p l lo hi top (key_message m t ∷ xs) = KeyRight l.keys l.site.identity lo top m × Towards first p l lo hi top xs
Towards first p l lo hi top (envelope e ∷ xs) =
    Under l.site.identity l.past.sent downward lo hi e × Towards first p l e.number hi top xs

-- from a unit: numbers never fall
abbrev pub From : Lane → ℕ → ℕ → List Envelope → Type 0
From l lo hi [] = Prim.Unit {0}
From l lo hi (e ∷ es) = Under l.site.identity l.past.sent upward lo hi e × From l e.number hi es

---- counter blocks

-- a first send is not later than now, by the end's own count: ticks at the OLT, travel at a unit
abbrev pub Begun : FirstSend → ℕ → Type 0
Begun f now = f.noted ≡ 1 → f.at ≤ now

-- of a unit: a change of LocalTime may bring travel back before it, and then it lies below the bar; it ended below what is spent
pub record BegunUp (f : FirstSend) (now : ℕ) (t : Travel) : Type 0 where
  pub begun : f.noted ≡ 1 → (f.at ≤ now) ⊎ (f.at < t.bar)
  pub ended : f.noted ≡ 1 → f.at < t.spent

-- how far a send's clock is from the OLT's first: ticks, and at a unit its delay up. Both ends count the same but for a constant
abbrev pub count_down : Envelope → ℕ
count_down e = e.left

abbrev pub count_up : Envelope → ℕ
count_up e = e.left + e.up

-- a send of that way at that count, which with base is its sender's own count with ahead: its channel was free, and under the key in
-- use it was not before the first send
pub record Spent (channels : Channels) (first : FirstSend) (current ahead base count : ℕ) (e : Envelope) : Type 0 where
  pub most : e.number ≤ current
  pub passed : e.left < free_from channels e.channel
  pub noted : 1 ≤ e.number → e.number ≡ current → (first.noted ≡ 1) × (first.at + ahead ≤ count + base)

-- a sealed send of a unit ended below what is spent, and one of before the last change of LocalTime below the bar
pub record Guarded (ahead up : ℕ) (t : Travel) (e : Envelope) : Type 0 where
  pub spent : 1 ≤ e.number → count_up e + max_changes < t.spent + ahead
  pub barred : 1 ≤ e.number → (e.up ≡ up) ⊎ (count_up e + max_changes < t.bar + ahead)

-- two sends of that way under one number on one channel index: the later one has the higher count, within a key's life
abbrev pub Apart : (Envelope → ℕ) → Direction → Envelope → Envelope → Type 0
Apart count direction x y =
    x.direction ≡ direction → y.direction ≡ direction → 1 ≤ x.number → x.number ≡ y.number → x.channel ≡ y.channel
    → (count x < count y) × (count y < count x + key_life)

pub record Spaced (sent : List Envelope) : Type 0 where
  pub down : (i j : ℕ) → i < j → j < length sent → Apart count_down downward (get_or sent i no_envelope) (get_or sent j no_envelope)
  pub up : (i j : ℕ) → i < j → j < length sent → Apart count_up upward (get_or sent i no_envelope) (get_or sent j no_envelope)

-- what holds of a send down, and of one up
abbrev pub SpentDown : Channels → FirstSend → ℕ → Envelope → Type 0
SpentDown c f active e = e.direction ≡ downward → (downstream e.channel ≡ true) × Spent c f active 0 0 (count_down e) e

abbrev pub SpentUp : Channels → FirstSend → ℕ → ℕ → ℕ → Travel → Envelope → Type 0
SpentUp c f active ahead up t e =
    e.direction ≡ upward → (upstream e.channel ≡ true) × Spent c f active ahead max_changes (count_up e) e × Guarded ahead up t e

pub record Spending (l : Lane) (down : Channels) (u : UnitRecord) (o : Onu) : Type 0 where
  pub downs : (e : Envelope) → Memᴰ e l.past.sent → SpentDown down u.keys.first u.keys.active e
  pub ups : (e : Envelope) → Memᴰ e l.past.sent
      → SpentUp o.channels o.first o.keys.active l.site.up l.path.up o.travel e
  pub spaced : Spaced l.past.sent

---- what has been

pub record Passing (w : Setting) (l : Lane) (confirmed active : ℕ) : Type 0 where
  pub sent : (e : Envelope) → Memᴰ e l.past.sent → SentRight w l e
  pub named : (e : Envelope) → Memᴰ e l.past.sent → has l.site.identity e.llid ≡ true
  pub fits : (e : Envelope) → Memᴰ e l.past.sent → lengths_fit (length e.payload) (length e.payload) ≡ true
  pub arrived : (r : Arrival) → Memᴰ r l.past.arrived → ArrivedRight w l r
  pub down : (r : Arrival) → Memᴰ r l.past.arrived → r.envelope.direction ≡ downward → r.envelope.number ≤ active
  pub up : (r : Arrival) → Memᴰ r l.past.arrived → r.envelope.direction ≡ upward → r.envelope.number ≤ confirmed

---- what lets the line go on

-- an envelope of that number was sent up
pub record SentUnder (sent : List Envelope) (number : ℕ) : Type 0 where
  pub envelope : Envelope
  pub among : Memᴰ envelope sent
  pub that_way : envelope.direction ≡ upward
  pub numbered : envelope.number ≡ number

-- first sends are not before the last switch: the OLT's by its ticks, a unit's under the number of the switch by its travel, of which its
-- envelopes' delays up are no less than least
pub record FirstSends (switches switched ahead : ℕ) (sent : List Envelope) (down up : FirstSend) (active : ℕ) : Type 0 where
  pub olt : down.noted ≡ 1 → switched ≤ down.at
  pub onu : (least : ℕ) → ((e : Envelope) → Memᴰ e sent → e.direction ≡ upward → least ≤ e.up) → up.noted ≡ 1
      → active ≡ switches
      → switched + least + max_changes ≤ up.at + ahead
  pub some : up.noted ≡ 1 → SentUnder sent active

-- a unit's channels are free once its last envelope has ended, and its guard is passed once the last by the longest way up has
pub record Freed (ahead : ℕ) (sent : List Envelope) (c : Channels) (t : Travel) : Type 0 where
  pub free : (last k : ℕ) → ((e : Envelope) → Memᴰ e sent → e.direction ≡ upward → e.left ≤ last) → free_from c k ≤ last + longest
  pub spent : (last most : ℕ) → ((e : Envelope) → Memᴰ e sent → e.direction ≡ upward → (e.left ≤ last) × (e.up ≤ most))
      → 1 ≤ t.spent
      → t.spent + ahead ≤ last + most + longest + max_changes
  pub bar : t.bar ≤ t.spent

-- a clock message that is under way or answered was sent by the present path, and no answer is later than now
pub record Asked (now sent : ℕ) (t : Transit) : Type 0 where
  pub under : (x : InFlight) → Memᴰ x t.towards → (m : Stamps) (c left : ℕ) → x ≡ clock_message m c left → sent ≡ 1
  pub answered : (x : Answered) → Memᴰ x t.answered → (x.acknowledgement.kind ≡ clock_kind → sent ≡ 1) × (x.tick ≤ now)

-- ticks that never fall, from lo to hi
abbrev pub Rising : ℕ → ℕ → List ℕ → Type 0
Rising lo hi [] = lo ≤ hi
Rising lo hi (t ∷ ts) = (lo ≤ t) × Rising t hi ts

-- what is under way left in order
pub record InOrder (now : ℕ) (t : Transit) : Type 0 where
  pub towards : Rising 0 now (map left_at t.towards)
  pub from : Rising 0 now (map (λ (e : Envelope). e.left) t.from)

---- a lane

-- a unit that is not registered: nothing has happened to it but advances
pub record Idle (now : ℕ) (l : Lane) (o : Onu) : Type 0 where
  pub unsynced : o.clock.synced ≡ 0
  pub time : o.clock.time ≡ (l.site.time + now) % local_turn
  pub active : o.keys.active ≡ 0
  pub held : o.keys.held ≡ 0
  pub offers : l.keys.offers ≡ []
  pub acknowledged : l.keys.acknowledged ≡ false
  pub switches : l.keys.switches ≡ 0
  pub number : l.keys.number ≡ 0
  pub towards : l.transit.towards ≡ []
  pub from : l.transit.from ≡ []
  pub answered : l.transit.answered ≡ []
  pub sent : l.past.sent ≡ []
  pub arrived : l.past.arrived ≡ []
  pub noted : o.first.noted ≡ 0
  pub spent : o.travel.spent ≡ 0
  pub bar : o.travel.bar ≡ 0
  pub channels : (k : ℕ) → free_from o.channels k ≡ 0

-- a registered unit, with the OLT's record of it
pub record Joined (w : Setting) (sh : Shared) (now : ℕ) (l : Lane) (u : UnitRecord) (o : Onu) : Type 0 where
  pub mac : u.identity.mac ≡ l.site.identity.mac
  pub llids : (x : ℕ) → has u.identity x ≡ has l.site.identity x
  pub oltmac : l.site.oltmac ≡ w.mac
  pub numbers : Numbers l.keys u.keys.active u.keys.offered u.confirmation.confirmed u.confirmation.acknowledged o.keys
  pub stored : Stored l.keys u.confirmation.confirmed u.keys.offered u.keys.slots o.keys
  pub timing : Timing l.entry l.keys now u.keys.timer
  pub clocks : Clocks w.first now l.path l.captured u.clock o.clock
  pub answers : Answers now o.keys o.clock l.transit.answered
  pub under_way : UnderWay l.path o.clock.synced l.transit
  pub towards : Towards w.first l.path l o.keys.active u.keys.active u.keys.offered l.transit.towards
  pub from : From l u.confirmation.confirmed o.keys.active l.transit.from
  pub spending : Spending l sh.channels u o
  pub passing : Passing w l u.confirmation.confirmed o.keys.active
  pub firsts : FirstSends l.keys.switches l.keys.switched l.site.up l.past.sent u.keys.first o.first o.keys.active
  pub freed : Freed l.site.up l.past.sent o.channels o.travel
  pub heard : u.confirmation.confirmed ≡ highest upward l.past.arrived
  pub told : l.keys.number ≡ highest downward l.past.arrived
  pub gone : (e : Envelope) → Memᴰ e l.past.sent → e.left ≤ now
  pub near : l.path.up + l.path.down ≤ max_round_trip
  pub ups : (e : Envelope) → Memᴰ e l.past.sent → e.up ≤ max_round_trip
  pub asked : Asked now u.clock.sent l.transit
  pub order : InOrder now l.transit

-- a unit at the OLT's tick; its travel follows its delay up, and is counted from the least that changes of LocalTime may add up to
pub record Common (w : Setting) (now : ℕ) (l : Lane) (o : Onu) : Type 0 where
  pub valid : valid_onu o ≡ true
  pub tick : o.tick ≡ now
  pub mac : o.identity.mac ≡ l.site.identity.mac
  pub llids : (x : ℕ) → has o.identity x ≡ has l.site.identity x
  pub oltmac : o.oltmac ≡ l.site.oltmac
  pub travel : travel_of o + l.site.up ≡ now + l.path.up + max_changes
  pub first : BegunUp o.first (travel_of o) o.travel

-- by whether it is registered
abbrev pub Standing : Bool → Setting → Olt → ℕ → Lane → Onu → Type 0
Standing false w t now l o = Idle now l o
Standing true w t now l o = (l.entry.place < t.count) × Joined w t.shared now l (unit_at t l.entry.place) o

pub record LaneRight (w : Setting) (t : Olt) (now : ℕ) (l : Lane) (o : Onu) : Type 0 where
  pub common : Common w now l o
  pub standing : Standing l.entry.registered w t now l o

-- the OLT's part at a tick
pub record AtTick (w : Setting) (now : ℕ) (sh : Shared) : Type 0 where
  pub mac : sh.mac ≡ w.mac
  pub tick : sh.tick ≡ now
  pub clock : sh.clock ≡ (w.first + now) % clock_turn
  pub free : (k : ℕ) → free_from sh.channels k ≤ now + longest

---- the whole

pub record Invariant (w : Setting) (s : State) : Type 0 where
  pub valid : valid_olt s.olt ≡ true
  pub places : length s.olt.units ≡ 16
  pub count : s.olt.count ≡ s.history.registrations
  pub shared : AtTick w s.history.now s.olt.shared
  pub paired : length s.onus ≡ length s.history.lanes
  pub lane : (u : ℕ) → u < length s.history.lanes → LaneRight w s.olt s.history.now (lane_at s u) (onu_at s u)
  -- no two registered units have one place
  pub apart : (u v : ℕ) → u < length s.history.lanes → v < length s.history.lanes
      → (lane_at s u).entry.registered ≡ true → (lane_at s v).entry.registered ≡ true
      → (lane_at s u).entry.place ≡ (lane_at s v).entry.place → u ≡ v
  -- all keys different
  pub keys : (u v m n : ℕ) → m < length (lane_at s u).keys.offers → n < length (lane_at s v).keys.offers
      → get_or (lane_at s u).keys.offers m [] ≡ get_or (lane_at s v).keys.offers n [] → (u ≡ v) × (m ≡ n)
