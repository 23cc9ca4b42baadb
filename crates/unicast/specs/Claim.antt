-- What holds on the whole list (demand 3 of 01; 01, The line). That the line goes on is in crate progress (D61). Assumes nothing.
use Rattle.std.specs.Prelude.{◌≡◌, Bool, true, false, ℕ, ◌<◌, ◌≤◌, ◌^◌, leb, length}
use mathlib.Core.List.{List, Memᴰ}
use Rattle.octets.specs.Output.{with_output}
use Rattle.refusal.specs.declared.Refusal.{Refusal}
use Rattle.refusal.specs.declared.Refusal.TheVariants.{OutOfRange, UnknownLlid, BadLength}
use Rattle.envelope.specs.CounterBlock.{counter_block}
use Rattle.envelope.specs.declared.Nonce.{Nonce}
use Rattle.cipher.specs.KeyExpansion.{key_expansion}
use Rattle.sealing.specs.Seal.{carried, count_carried, runs_carried}
use Rattle.protocol.specs.Headers.{choice_enciphered, envelope_header}
use Rattle.ends.specs.Identities.{has}
use Rattle.ends.specs.Keys.{key_in}
use Rattle.ends.specs.Table.{unit_at}
use Rattle.ends.specs.declared.Onu.{Onu}
use Rattle.protocol.specs.declared.Passage.{Passage}
use Rattle.ends.specs.declared.UnitRecord.{UnitRecord}
use Rattle.traffic.specs.Passages.{misfit, passage_nonce}
use Rattle.traffic.specs.Receipts.{onu_not_received}
use Rattle.unicast.specs.Setting.{Site, Setting, clock_down, clock_up}
use Rattle.unicast.specs.History.{Direction, downward, upward, Envelope, Arrival, Lane, key_of}
use Rattle.unicast.specs.Run.{State, lane_at, onu_at, sent_at, overhearing}
use Rattle.unicast.specs.Premises.{Overhears}

-- the sender's MAC and clock
abbrev pub sender_mac : Setting → Site → Direction → ℕ
sender_mac w s downward = w.mac
sender_mac w s upward = s.identity.mac

-- of a send at that tick, when the unit's delay up was that
abbrev pub sender_clock : Setting → ℕ → Direction → ℕ → ℕ
sender_clock w up downward tick = clock_down w.first tick
sender_clock w up upward tick = clock_up w.first up tick

-- what tells an envelope's counter blocks from another's
abbrev pub nonce_for : Setting → Site → Envelope → Nonce
nonce_for w s e =
    record { channel = e.channel; mac = sender_mac w s e.direction; clock = sender_clock w e.up e.direction e.left }

-- number 0 is clear; n ≥ 1 is sealed with key n
abbrev pub is_sealed : Envelope → Bool
is_sealed e = leb 1 e.number

-- what an end sealed or opened an envelope with, on that channel: 0 went in clear, n ≥ 1 under key n and its sender's MAC and clock
pub record PassageRight (w : Setting) (l : Lane) (e : Envelope) (channel : ℕ) (q : Passage) : Type 0 where
  pub enciphered : choice_enciphered q.choice ≡ is_sealed e
  pub key : 1 ≤ e.number → q.key ≡ key_of l.keys e.number
  pub nonce : 1 ≤ e.number → passage_nonce channel q ≡ nonce_for w l.site e

-- (0) an accepted send sealed under its key and counter block, and handed over the header, octets and count that the definitions
-- give for them
pub record SentRight (w : Setting) (l : Lane) (e : Envelope) : Type 0 where
  pub passage : PassageRight w l e e.channel e.passage
  pub header : e.header ≡ envelope_header e.number e.channel e.llid (sender_clock w e.up e.direction e.left)
  pub octets : e.octets ≡ carried (is_sealed e) (key_expansion (key_of l.keys e.number)) (nonce_for w l.site e) e.payload
  pub count : e.count ≡ count_carried (is_sealed e) e.payload
  -- 02, C-17
  pub runs : e.runs ≡ runs_carried (is_sealed e) e.payload

-- (1) an envelope that arrived was accepted, opened under its sender's key and counter block, and gave back payload and count
pub record ArrivedRight (w : Setting) (l : Lane) (r : Arrival) : Type 0 where
  pub sent : Memᴰ r.envelope l.past.sent
  pub accepted : r.number ≡ 0
  pub passage : PassageRight w l r.envelope r.envelope.header.channel r.passage
  pub payload : r.output ≡ r.envelope.payload
  pub count : r.count ≡ r.envelope.count
  -- 02, C-17: the receipt ran the cipher as often as the send
  pub runs : r.runs ≡ r.envelope.runs

-- a block index has three octets
abbrev pub index_turn : ℕ
index_turn = 2 ^ 24

-- (2) two sealed envelopes that share key and counter block are one, and so are the two block indices
abbrev pub BlocksApart : Setting → State → Type 0
BlocksApart w s =
    (u v i j a b : ℕ) → i < length (lane_at s u).past.sent → j < length (lane_at s v).past.sent
    → 1 ≤ (sent_at s u i).number → 1 ≤ (sent_at s v j).number
    → key_of (lane_at s u).keys (sent_at s u i).number ≡ key_of (lane_at s v).keys (sent_at s v j).number
    → a < index_turn → b < index_turn
    → counter_block (nonce_for w (lane_at s u).site (sent_at s u i)) a ≡ counter_block (nonce_for w (lane_at s v).site (sent_at s v j)) b
    → (u ≡ v) × ((i ≡ j) × (a ≡ b))

-- (3) both ends hold key n, and the OLT's record is the unit's: it has the unit's LLIDs
pub record Holds (l : Lane) (n : ℕ) (u : UnitRecord) (o : Onu) : Type 0 where
  pub llids : (x : ℕ) → has u.identity x ≡ has l.site.identity x
  pub active : u.keys.active ≡ n
  pub confirmed : u.confirmation.confirmed ≡ n
  pub unit : o.keys.active ≡ n
  pub olt_key : key_in u.keys.slots n ≡ key_of l.keys n
  pub onu_key : key_in o.keys.slots n ≡ key_of l.keys n

-- an envelope numbered n has arrived that way
pub record ArrivedNumbered (l : Lane) (direction : Direction) (n : ℕ) : Type 0 where
  pub arrival : Arrival
  pub among : Memᴰ arrival l.past.arrived
  pub that_way : arrival.envelope.direction ≡ direction
  pub numbered : arrival.envelope.number ≡ n

-- (3) where the switches are n and an envelope numbered n has arrived each way, both ends hold key n
abbrev pub LastKeyHeld : State → Type 0
LastKeyHeld s =
    (u n : ℕ) → 1 ≤ n → (lane_at s u).keys.switches ≡ n
    → ArrivedNumbered (lane_at s u) downward n → ArrivedNumbered (lane_at s u) upward n
    → Holds (lane_at s u) n (unit_at s.olt (lane_at s u).entry.place) (onu_at s u)

-- (4) what an overheard envelope is refused for: a buffer that does not fit, else downstream an LLID of another unit, upstream its
-- direction
abbrev pub overheard_for : Bool → Direction → Refusal
overheard_for true direction = BadLength
overheard_for false downward = UnknownLlid
overheard_for false upward = OutOfRange

pub record Claim (w : Setting) (s : State) : Type 0 where
  pub sent : (u : ℕ) (e : Envelope) → Memᴰ e (lane_at s u).past.sent → SentRight w (lane_at s u) e
  pub arrived : (u : ℕ) (r : Arrival) → Memᴰ r (lane_at s u).past.arrived → ArrivedRight w (lane_at s u) r
  pub blocks : BlocksApart w s
  pub held : LastKeyHeld s
  -- (4) what another registered unit overhears is refused, with count 0, and leaves that unit and its buffer as they were
  pub overheard : (u v k : ℕ) (out : List ℕ) → Overhears s u v k
      → overhearing s u v k out
      ≡ with_output (onu_not_received (onu_at s u) (overheard_for (misfit (sent_at s v k).octets out) (sent_at s v k).direction)) out
