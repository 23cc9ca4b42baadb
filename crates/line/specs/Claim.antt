-- What holds on the whole list, groups and path changes included (demand 3 of 01; 02, C-14, C-16). Assumes nothing.
use Rattle.std.specs.Prelude.{◌≡◌, true, false, ℕ, ◌≤◌, ◌<◌, length}
use mathlib.Core.List.{List, Memᴰ}
use Rattle.octets.specs.Output.{with_output}
use Rattle.refusal.specs.Number.{number_of}
use Rattle.refusal.specs.declared.Refusal.{Refusal}
use Rattle.refusal.specs.declared.Refusal.TheVariants.{ClockNotSet}
use Rattle.envelope.specs.declared.Nonce.{Nonce}
use Rattle.envelope.specs.CounterBlock.{counter_block}
use Rattle.cipher.specs.KeyExpansion.{key_expansion}
use Rattle.sealing.specs.Seal.{carried, count_carried, runs_carried}
use Rattle.protocol.specs.Headers.{choice_enciphered, envelope_header}
use Rattle.protocol.specs.declared.Passage.{Passage}
use Rattle.traffic.specs.Passages.{misfit, passage_nonce}
use Rattle.group_protocol.specs.declared.Subscriber.{Subscriber}
use Rattle.subscriber.specs.declared.SubscriberReceived.{SubscriberReceived}
use Rattle.unicast.specs.Setting.{Setting, clock_down}
use Rattle.unicast.specs.History.{Envelope, envelope, is_synced, key_of, Keys}
use Rattle.unicast.specs.Run.{lane_at, sent_at}
use Rattle.unicast.specs.Claim.{is_sealed, nonce_for, index_turn, overheard_for}
use Rattle.unicast.specs.Premises.{Overhears}
use Rattle.unicast.specs.Claim as units
use Rattle.line.specs.History.{GroupArrival, GroupLane, GroupAnswered, is_joined, has_taken}
use Rattle.line.specs.Events.{arrive_group}
use Rattle.line.specs.Run.{State, alone, subscriber_at, joined_by, group_lane_at, group_sent_at, group_in_flight_at, receiving, group_receipt, step}
use Rattle.line.specs.Premises.{DueOfGroup, OverhearsGroup}

-- what tells the counter blocks of a group's envelope from another's: the OLT's MAC and clock
abbrev pub group_nonce : Setting → Envelope → Nonce
group_nonce w e = record { channel = e.channel; mac = w.mac; clock = clock_down w.first e.left }

-- what an end sealed or opened a group's envelope with, on that channel: 0 went in clear, n ≥ 1 under the group's key n
pub record GroupPassageRight (w : Setting) (g : GroupLane) (e : Envelope) (channel : ℕ) (q : Passage) : Type 0 where
  pub enciphered : choice_enciphered q.choice ≡ is_sealed e
  pub key : 1 ≤ e.number → q.key ≡ key_of g.keys e.number
  pub nonce : 1 ≤ e.number → passage_nonce channel q ≡ group_nonce w e

-- (5) an accepted send to a group sealed under its key and counter block, and handed over header, octets, count and runs
pub record GroupSentRight (w : Setting) (g : GroupLane) (e : Envelope) : Type 0 where
  pub passage : GroupPassageRight w g e e.channel e.passage
  pub header : e.header ≡ envelope_header e.number e.channel e.llid (clock_down w.first e.left)
  pub octets : e.octets ≡ carried (is_sealed e) (key_expansion (key_of g.keys e.number)) (group_nonce w e) e.payload
  pub count : e.count ≡ count_carried (is_sealed e) e.payload
  pub runs : e.runs ≡ runs_carried (is_sealed e) e.payload

-- a receipt that gave the envelope back
pub record GroupOpened (w : Setting) (g : GroupLane) (r : GroupArrival) : Type 0 where
  pub accepted : r.number ≡ 0
  pub passage : GroupPassageRight w g r.envelope r.envelope.header.channel r.passage
  pub payload : r.output ≡ r.envelope.payload
  pub count : r.count ≡ r.envelope.count
  pub runs : r.runs ≡ r.envelope.runs

-- (6) an envelope of the group that arrived at a unit which had joined it was accepted if it was clear, or if the unit was synced and had
-- accepted its key's message since: opened under that key and counter block, it gave back payload, count and runs. A sealed one was refused
-- 5 by a unit that was not synced (02, C-16). Nothing else is claimed for a member under a key that it missed
pub record GroupArrivedRight (w : Setting) (g : GroupLane) (r : GroupArrival) : Type 0 where
  pub sent : Memᴰ r.envelope g.sent
  pub clear : r.joined ≡ true → r.envelope.number ≡ 0 → GroupOpened w g r
  pub sealed : r.took ≡ true → r.synced ≡ true → 1 ≤ r.envelope.number → GroupOpened w g r
  pub unsynced : r.joined ≡ true → r.synced ≡ false → 1 ≤ r.envelope.number → r.number ≡ number_of ClockNotSet

---- (2) of units and groups together

pub data Sender : Type 0 where
  -- the line of a unit, both ways, or of a group
  unit : ℕ → Sender
  group : ℕ → Sender

abbrev pub sent_by : State → Sender → List Envelope
sent_by s (unit u) = (lane_at (alone s) u).past.sent
sent_by s (group g) = (group_lane_at s g).sent

abbrev pub sent_by_at : State → Sender → ℕ → Envelope
sent_by_at s (unit u) i = sent_at (alone s) u i
sent_by_at s (group g) i = group_sent_at s g i

abbrev pub keys_of : State → Sender → Keys
keys_of s (unit u) = (lane_at (alone s) u).keys
keys_of s (group g) = (group_lane_at s g).keys

abbrev pub nonce_by : Setting → State → Sender → Envelope → Nonce
nonce_by w s (unit u) e = nonce_for w (lane_at (alone s) u).site e
nonce_by w s (group g) e = group_nonce w e

-- two sealed envelopes that share key and counter block are one, and so are the two block indices
abbrev pub BlocksApart : Setting → State → Type 0
BlocksApart w s =
    (x y : Sender) (i j a b : ℕ) → i < length (sent_by s x) → j < length (sent_by s y)
    → 1 ≤ (sent_by_at s x i).number → 1 ≤ (sent_by_at s y j).number
    → key_of (keys_of s x) (sent_by_at s x i).number ≡ key_of (keys_of s y) (sent_by_at s y j).number
    → a < index_turn → b < index_turn
    → counter_block (nonce_by w s x (sent_by_at s x i)) a ≡ counter_block (nonce_by w s y (sent_by_at s y j)) b
    → (x ≡ y) × ((i ≡ j) × (a ≡ b))

---- what a unit refuses

unfoldable pub not_received : Subscriber → Refusal → SubscriberReceived
not_received x r = record { number = number_of r; subscriber = x; count = 0; runs = 0 }

-- unit and buffer are as they were
abbrev pub RefusedFor : Refusal → State → ℕ → Envelope → List ℕ → Type 0
RefusedFor r s u e out = receiving s u e out ≡ with_output (not_received (subscriber_at s u) r) out

---- (4) what is overheard

-- by a unit that has not joined the LLID: refused, 14 for its buffer, else 2 downstream and 1 upstream
abbrev pub RefusedThere : State → ℕ → Envelope → List ℕ → Type 0
RefusedThere s u e out = RefusedFor (overheard_for (misfit e.octets out) e.direction) s u e out

-- by one that has joined it, and for which it is not meant: the unit is left as it was
abbrev pub LeftThere : State → ℕ → Envelope → List ℕ → Type 0
LeftThere s u e out = (receiving s u e out).answer.subscriber ≡ subscriber_at s u

pub record OverheardRight (s : State) (u : ℕ) (e : Envelope) (out : List ℕ) : Type 0 where
  pub refused : is_joined (joined_by s u) e.llid ≡ false → RefusedThere s u e out
  pub left : LeftThere s u e out

---- the whole

pub record Claim (w : Setting) (s : State) : Type 0 where
  -- (0), (1) and (3) of the units, as without groups
  pub units : units.Claim w (alone s)
  pub blocks : BlocksApart w s
  pub overheard : (u v k : ℕ) (out : List ℕ) → Overhears (alone s) u v k → OverheardRight s u (sent_at (alone s) v k) out
  pub overheard_of_group : (u g k : ℕ) (out : List ℕ) → OverhearsGroup s u g k → OverheardRight s u (group_sent_at s g k) out
  pub group_sent : (g : ℕ) (e : Envelope) → Memᴰ e (group_lane_at s g).sent → GroupSentRight w (group_lane_at s g) e
  pub group_arrived : (g : ℕ) (r : GroupArrival) → Memᴰ r (group_lane_at s g).arrived → GroupArrivedRight w (group_lane_at s g) r
  -- a sealed envelope of a group that arrives at a unit which has joined it and is not synced is refused 5 (02, C-16)
  pub unsynced : (u g k : ℕ) (out : List ℕ) (e : Envelope) → DueOfGroup s u g k out → group_in_flight_at s u g k ≡ envelope e
      → is_joined (joined_by s u) e.llid ≡ true → is_synced (lane_at (alone s) u) ≡ false → 1 ≤ e.number → RefusedFor ClockNotSet s u e out
  -- a unit whose acknowledgement of key n went out has accepted that key's message since it joined: so the next acknowledged key brings a
  -- member back, once it is synced, whatever it missed
  pub answered : (g : ℕ) (a : GroupAnswered) → Memᴰ a (group_lane_at s g).answered
      → has_taken (joined_by s a.unit) (group_lane_at s g).llid a.answer.number ≡ true
  pub back : (u g k : ℕ) (out : List ℕ) (e : Envelope) (a : GroupAnswered) → DueOfGroup s u g k out → group_in_flight_at s u g k ≡ envelope e
      → Memᴰ a (group_lane_at s g).answered → a.unit ≡ u → a.answer.number ≡ e.number → is_synced (lane_at (alone s) u) ≡ true
      → 1 ≤ e.number → GroupOpened w (group_lane_at s g) (group_receipt s u e out)
  -- what arrives of a group leaves the OLT, the units and their own lines: their numbers too
  pub untouched : (u g k : ℕ) (out : List ℕ) → DueOfGroup s u g k out → alone (step s (arrive_group u g k out)) ≡ alone s
