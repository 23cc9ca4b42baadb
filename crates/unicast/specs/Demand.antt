-- Demand 3 of 01 as one statement, and what it says of the list of Example. Assumes nothing.
use Rattle.std.specs.Prelude.{◌≡◌, true, false, ℕ, ◌+◌, ◌-◌, ◌<◌, length, get_or}
use mathlib.Core.List.{List, Memᴰ, [], ◌∷◌}
use Rattle.clock.specs.Ticks.{clock_turn, local_turn, max_round_trip}
use Rattle.envelope.specs.CounterBlock.{counter_block}
use Rattle.envelope.specs.declared.Nonce.{Nonce}
use Rattle.cipher.specs.KeyExpansion.{key_expansion}
use Rattle.sealing.specs.Seal.{carried}
use Rattle.protocol.specs.Headers.{choice_enciphered, envelope_header, no_passage}
use Rattle.ends.specs.Identities.{has}
use Rattle.ends.specs.Keys.{key_in}
use Rattle.ends.specs.Limits.{max_interval}
use Rattle.ends.specs.Table.{unit_at}
use Rattle.ends.specs.declared.Identity.{Identity}
use Rattle.traffic.specs.Passages.{passage_nonce}
use Rattle.unicast.specs.Setting.{Setting}
use Rattle.unicast.specs.History.{Arrival, Envelope, Lane, key_of}
use Rattle.unicast.specs.Events.{Event, advance, register, capture, clock_send, offer, retry, send_down, send_up, arrive_down, arrive_up, arrive_answer, overhear, change_path, measure, new_time, stray_clock, stray_key, stray_answer, stray_down, stray_up}
use Rattle.unicast.specs.Run.{State, start, run, lane_at, onu_at, sent_at, overhearing, no_envelope}
use Rattle.unicast.specs.Premises.{Fresh, Meets}
use Rattle.unicast.specs.Claim.{nonce_for, index_turn, Claim}
use Rattle.unicast.specs.Example.{example, first_clock, to_first_key, to_second_key, events, olt_mac, identity_a, identity_b, identity_c, key_from, payload_from, enciphered_octets, blank, short}
use Rattle.unicast.specs.Course.{after, played, Course}

-- the theorem
abbrev pub Theorem : Type 0
Theorem = (w : Setting) (es : List Event) → Fresh w → Meets w (start w) es → Claim w (run (start w) es)

---- lists without path changes run as before there were any (02, C-16)

-- the unit's delays are those that it started with, and every envelope that was sent went by them
abbrev pub AsStarted : Lane → Type 0
AsStarted l =
    (l.path ≡ record { up = l.site.up; down = l.site.down }) × ((e : Envelope) → Memᴰ e l.past.sent → e.up ≡ l.site.up)

abbrev pub NoChange : Event → Type 0
NoChange (advance n) = Unit {0}
NoChange (register u i trip interval) = Unit {0}
NoChange (capture llid) = Unit {0}
NoChange (clock_send llid) = Unit {0}
NoChange (offer llid key) = Unit {0}
NoChange (retry llid) = Unit {0}
NoChange (send_down llid channel p out) = Unit {0}
NoChange (send_up u llid channel p out) = Unit {0}
NoChange (arrive_down u k out) = Unit {0}
NoChange (arrive_up u k out) = Unit {0}
NoChange (arrive_answer u k llid) = Unit {0}
NoChange (overhear u other k out) = Unit {0}
NoChange (change_path u llid time p) = ⊥
NoChange (measure llid trip) = Unit {0}
NoChange (new_time u time) = Unit {0}
NoChange (stray_clock u m) = Unit {0}
NoChange (stray_key u m) = Unit {0}
NoChange (stray_answer llid a) = Unit {0}
NoChange (stray_down u h p out) = Unit {0}
NoChange (stray_up h p out) = Unit {0}

abbrev pub NoChanges : List Event → Type 0
NoChanges [] = Unit {0}
NoChanges (e ∷ es) = NoChange e × NoChanges es

abbrev pub Unchanged : Type 0
Unchanged = (w : Setting) (es : List Event) → NoChanges es → (u : ℕ) → AsStarted (lane_at (run (start w) es) u)

---- of an envelope of the example

abbrev pub arrival_at : State → ℕ → ℕ → Arrival
arrival_at s u k =
    get_or (lane_at s u).past.arrived k (record { envelope = no_envelope; number = 0; count = 0; runs = 0; output = []; passage = no_passage })

abbrev pub nonce : ℕ → ℕ → ℕ → Nonce
nonce channel mac clock = record { channel = channel; mac = mac; clock = clock }

-- the ith envelope of unit u's line was handed over in clear, with the header of that LLID, channel and clock
pub record HandedClear (u i llid channel clock : ℕ) (p : List ℕ) : Type 0 where
  pub some : i < length (lane_at played u).past.sent
  pub clear : choice_enciphered (sent_at played u i).passage.choice ≡ false
  pub header : (sent_at played u i).header ≡ envelope_header 0 channel llid clock
  pub octets : (sent_at played u i).octets ≡ p
  pub count : (sent_at played u i).count ≡ 0

-- the ith envelope of unit u's line was sealed with that key under that nonce, and handed over with the header and the octets of that
-- number, LLID and payload, and that count
pub record Handed (u i number llid : ℕ) (x : List ℕ) (n : Nonce) (p : List ℕ) (count : ℕ) : Type 0 where
  pub some : i < length (lane_at played u).past.sent
  pub enciphered : choice_enciphered (sent_at played u i).passage.choice ≡ true
  pub key : (sent_at played u i).passage.key ≡ x
  pub nonce : passage_nonce (sent_at played u i).channel (sent_at played u i).passage ≡ n
  pub header : (sent_at played u i).header ≡ envelope_header number n.channel llid n.clock
  pub octets : (sent_at played u i).octets ≡ carried true (key_expansion x) n p
  pub reported : (sent_at played u i).count ≡ count

-- the kth arrival on unit u's line was accepted in clear, and gave back that payload
pub record Passed (u k : ℕ) (p : List ℕ) : Type 0 where
  pub some : k < length (lane_at played u).past.arrived
  pub accepted : (arrival_at played u k).number ≡ 0
  pub clear : choice_enciphered (arrival_at played u k).passage.choice ≡ false
  pub payload : (arrival_at played u k).output ≡ p
  pub count : (arrival_at played u k).count ≡ 0

-- the kth arrival on unit u's line was accepted, opened with that key under that nonce, and gave back that payload and count
pub record Delivered (u k : ℕ) (x : List ℕ) (n : Nonce) (p : List ℕ) (count : ℕ) : Type 0 where
  pub some : k < length (lane_at played u).past.arrived
  pub accepted : (arrival_at played u k).number ≡ 0
  pub enciphered : choice_enciphered (arrival_at played u k).passage.choice ≡ true
  pub key : (arrival_at played u k).passage.key ≡ x
  pub nonce : passage_nonce (arrival_at played u k).envelope.header.channel (arrival_at played u k).passage ≡ n
  pub payload : (arrival_at played u k).output ≡ p
  pub reported : (arrival_at played u k).count ≡ count
  pub as_often : (arrival_at played u k).runs ≡ (arrival_at played u k).envelope.runs

-- the ith envelope of unit u's line and the jth of unit v's have no counter block in common under one key
pub record Apart (u i v j : ℕ) : Type 0 where
  pub first : i < length (lane_at played u).past.sent
  pub second : j < length (lane_at played v).past.sent
  pub blocks : (a b : ℕ) → a < index_turn → b < index_turn
      → key_of (lane_at played u).keys (sent_at played u i).number ≡ key_of (lane_at played v).keys (sent_at played v j).number
      → counter_block (nonce_for example (lane_at played u).site (sent_at played u i)) a
      ≡ counter_block (nonce_for example (lane_at played v).site (sent_at played v j)) b
      → ⊥

-- no two blocks of the ith envelope of unit u's line are one
pub record Counted (u i : ℕ) : Type 0 where
  pub some : i < length (lane_at played u).past.sent
  pub blocks : (a b : ℕ) → a < index_turn → b < index_turn
      → counter_block (nonce_for example (lane_at played u).site (sent_at played u i)) a
      ≡ counter_block (nonce_for example (lane_at played u).site (sent_at played u i)) b
      → a ≡ b

---- of a state that it comes to

-- A = C = a = n, and both ends keep that key under the number, the OLT in the record with the LLIDs of that identity
pub record Agreed (s : State) (u place n : ℕ) (key : List ℕ) (i : Identity) : Type 0 where
  pub llids : (x : ℕ) → has (unit_at s.olt place).identity x ≡ has i x
  pub active : (unit_at s.olt place).keys.active ≡ n
  pub confirmed : (unit_at s.olt place).confirmation.confirmed ≡ n
  pub unit : (onu_at s u).keys.active ≡ n
  pub olt_key : key_in (unit_at s.olt place).keys.slots n ≡ key
  pub onu_key : key_in (onu_at s u).keys.slots n ≡ key

-- unit u refuses the kth envelope of unit v's line with that code; unit and buffer are as they were
pub record Overheard (s : State) (u v k : ℕ) (out : List ℕ) (number : ℕ) : Type 0 where
  pub refused : (overhearing s u v k out).answer.number ≡ number
  pub count : (overhearing s u v k out).answer.count ≡ 0
  pub runs : (overhearing s u v k out).answer.runs ≡ 0
  pub unit : (overhearing s u v k out).answer.onu ≡ onu_at s u
  pub buffer : (overhearing s u v k out).output ≡ out

---- what the theorem says of the example

pub record Shown : Type 0 where
  -- before the first switch
  pub sent_down : HandedClear 0 0 5 0x00 first_clock (payload_from 0)
  pub sent_up : HandedClear 0 1 5 0x80 (first_clock + 50) (payload_from 1)
  pub clear_down : Passed 0 0 (payload_from 0)
  pub clear_up : Passed 0 1 (payload_from 1)
  -- under key 1 one was lost each way
  pub lost_down : Handed 0 2 1 5 (key_from 16) (nonce 0x00 olt_mac (clock_turn - local_turn - 39)) (payload_from 2) enciphered_octets
  pub lost_up : Handed 0 4 1 5 (key_from 16) (nonce 0x80 identity_a.mac (clock_turn - local_turn + 15)) (payload_from 4) enciphered_octets
  -- the first unit, down and up under key 1: LocalTime wraps between the two; under key 2: the clock wraps
  pub down_a1 : Delivered 0 2 (key_from 16) (nonce 0x00 olt_mac (clock_turn - local_turn - 35)) (payload_from 3) enciphered_octets
  pub up_a1 : Delivered 0 3 (key_from 16) (nonce 0x81 identity_a.mac (clock_turn - local_turn + 15)) (payload_from 5) enciphered_octets
  pub down_a2 : Delivered 0 4 (key_from 32) (nonce 0x00 olt_mac (clock_turn - 10)) (payload_from 6) enciphered_octets
  pub up_a2 : Delivered 0 5 (key_from 32) (nonce 0x80 identity_a.mac 40) (payload_from 9) enciphered_octets
  -- the last tick of key 2 at either end, an empty envelope down, whose key and clock no octet tells
  pub empty_a2 : Handed 0 8 2 5 (key_from 32) (nonce 0x00 olt_mac (clock_turn - 11)) [] 0
  pub last_down_a2 : Delivered 0 6 (key_from 32) (nonce 0x00 olt_mac (clock_turn - 11)) [] 0
  pub last_up_a2 : Delivered 0 7 (key_from 32) (nonce 0x80 identity_a.mac 39) (payload_from 16) enciphered_octets
  -- the second
  pub down_b1 : Delivered 1 0 (key_from 48) (nonce 0x01 olt_mac (clock_turn - 10)) (payload_from 7) enciphered_octets
  pub up_b1 : Delivered 1 1 (key_from 48) (nonce 0x80 identity_b.mac 8) (payload_from 8) enciphered_octets
  pub down_b2 : Delivered 1 2 (key_from 64) (nonce 0x00 olt_mac 1058) (payload_from 10) enciphered_octets
  pub up_b2 : Delivered 1 3 (key_from 64) (nonce 0x81 identity_b.mac 1076) (payload_from 11) enciphered_octets
  -- its path changes: one up is lost, and the next is on either channel once the clock has passed its end
  pub lost_b2 : Handed 1 4 2 9 (key_from 64) (nonce 0x80 identity_b.mac 1083) (payload_from 18) enciphered_octets
  pub again_b2 : Delivered 1 4 (key_from 64) (nonce 0x80 identity_b.mac 1087) (payload_from 19) enciphered_octets
  pub other_b2 : Delivered 1 5 (key_from 64) (nonce 0x81 identity_b.mac 1087) (payload_from 20) enciphered_octets
  pub down_b3 : Delivered 1 6 (key_from 96) (nonce 0x00 olt_mac 2087) (payload_from 21) enciphered_octets
  pub up_b3 : Delivered 1 7 (key_from 96) (nonce 0x80 identity_b.mac 2090) (payload_from 22) enciphered_octets
  -- the third, on the last tick of its interval and the next
  pub clear_c : Passed 2 0 (payload_from 12)
  pub down_c1 : Delivered 2 1 (key_from 80) (nonce 0x01 olt_mac (max_interval - local_turn + 15)) (payload_from 13) enciphered_octets
  pub up_c1 : Delivered 2 2 (key_from 80) (nonce 0x80 identity_c.mac (max_interval - local_turn + 15 + max_round_trip)) (payload_from 14) enciphered_octets
  pub again_c1 : Delivered 2 3 (key_from 80) (nonce 0x00 olt_mac (clock_turn - 10)) (payload_from 15) enciphered_octets
  -- two down under key 1 on one channel, of which the first was lost; two up under key 2 on one channel, 2^48 - 1 ticks apart; one
  -- each way under key 2; two up on one channel, before and after a change of path; and one to each of two units, whose counter
  -- blocks are the same
  pub apart_down : Apart 0 2 0 3
  pub apart_up : Apart 0 7 0 9
  pub apart_ways : Apart 0 6 0 7
  pub apart_paths : Apart 1 4 1 5
  pub apart_units : Apart 0 6 2 3
  pub counted_up : Counted 0 7
  -- keys 1, 2 and 3
  pub agreed_a1 : Agreed (after to_first_key) 0 0 1 (key_from 16) identity_a
  pub agreed_a2 : Agreed (after to_second_key) 0 0 2 (key_from 32) identity_a
  pub agreed_b1 : Agreed (after to_second_key) 1 1 1 (key_from 48) identity_b
  pub agreed_b3 : Agreed played 1 1 3 (key_from 96) identity_b
  pub agreed_c1 : Agreed played 2 2 1 (key_from 80) identity_c
  -- sent down, sent up, with a buffer that does not fit, and by a unit that has no clock yet
  pub overheard_down : Overheard (after to_second_key) 1 0 6 blank 2
  pub overheard_up : Overheard (after to_second_key) 0 1 1 blank 1
  pub overheard_short : Overheard (after to_second_key) 1 0 2 short 14
  pub overheard_unsynced : Overheard (after to_second_key) 2 1 0 blank 2

---- the whole

pub record Demand : Type 0 where
  pub holds : Theorem
  pub unchanged : Unchanged
  pub fresh : Fresh example
  pub meets : Meets example (start example) events
  pub course : Course
  pub shown : Shown
