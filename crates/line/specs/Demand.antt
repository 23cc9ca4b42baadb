-- Demand 3 of 01, groups included, as one statement, and what it says of the list of Example (02, C-14, C-16). Assumes nothing.
use Rattle.std.specs.Prelude.{◌≡◌, true, false, List, ℕ, ◌+◌, ◌-◌, ◌<◌, length, get_or}
use Rattle.clock.specs.Ticks.{clock_turn, local_turn}
use Rattle.envelope.specs.CounterBlock.{counter_block}
use Rattle.envelope.specs.declared.Nonce.{Nonce}
use Rattle.cipher.specs.KeyExpansion.{key_expansion}
use Rattle.sealing.specs.Seal.{carried}
use Rattle.protocol.specs.Headers.{choice_enciphered, envelope_header}
use Rattle.traffic.specs.Passages.{passage_nonce}
use Rattle.unicast.specs.Setting.{Setting}
use Rattle.unicast.specs.Events as units
use Rattle.unicast.specs.History.{Envelope, envelope, key_of}
use Rattle.unicast.specs.Premises.{Fresh}
use Rattle.unicast.specs.Premises as premises
use Rattle.unicast.specs.Run as run
use Rattle.unicast.specs.Claim.{index_turn}
use Rattle.unicast.specs.Demand.{nonce, Agreed}
use Rattle.unicast.specs.Example.{first_clock, olt_mac, identity_a, key_from, payload_from, enciphered_octets, blank}
use Rattle.line.specs.History.{GroupArrival}
use Rattle.line.specs.Events.{Event, arrive_group}
use Rattle.line.specs.Run.{State, alone, start, step, runs, subscriber_at, group_lane_at, group_sent_at, group_in_flight_at, group_receipt, receiving}
use Rattle.line.specs.Premises.{Meets}
use Rattle.line.specs.Claim.{Claim, Sender, unit, group, sent_by, sent_by_at, keys_of, nonce_by}
use Rattle.line.specs.Without.{AsBefore, Unchanged}
use Rattle.line.specs.Example.{example, group_llid, to_first_key, to_return, to_unsynced, to_synced, events}
use Rattle.line.specs.Course.{after, played, Course}

-- the theorem
abbrev pub Theorem : Type 0
Theorem = (w : Setting) (es : List Event) → Fresh w → Meets w (start w) es → Claim w (runs (start w) es)

---- of an envelope of the example's group

abbrev pub arrival_at : ℕ → GroupArrival
arrival_at k = get_or (group_lane_at played 0).arrived k (group_receipt played 0 (group_sent_at played 0 0) blank)

-- the ith envelope to the group was handed over in clear, with the header of that channel and clock
pub record HandedClear (i channel clock : ℕ) (p : List ℕ) : Type 0 where
  pub some : i < length (group_lane_at played 0).sent
  pub clear : choice_enciphered (group_sent_at played 0 i).passage.choice ≡ false
  pub header : (group_sent_at played 0 i).header ≡ envelope_header 0 channel group_llid clock
  pub octets : (group_sent_at played 0 i).octets ≡ p
  pub count : (group_sent_at played 0 i).count ≡ 0

-- the ith envelope to the group was sealed with that key under that nonce, and handed over with the header and the octets of that number
-- and payload, and that count
pub record Handed (i number : ℕ) (x : List ℕ) (n : Nonce) (p : List ℕ) (count : ℕ) : Type 0 where
  pub some : i < length (group_lane_at played 0).sent
  pub enciphered : choice_enciphered (group_sent_at played 0 i).passage.choice ≡ true
  pub key : (group_sent_at played 0 i).passage.key ≡ x
  pub nonce : passage_nonce (group_sent_at played 0 i).channel (group_sent_at played 0 i).passage ≡ n
  pub header : (group_sent_at played 0 i).header ≡ envelope_header number n.channel group_llid n.clock
  pub octets : (group_sent_at played 0 i).octets ≡ carried true (key_expansion x) n p
  pub reported : (group_sent_at played 0 i).count ≡ count

-- a receipt that was accepted in clear, and gave back that payload
pub record Passes (r : GroupArrival) (p : List ℕ) : Type 0 where
  pub accepted : r.number ≡ 0
  pub clear : choice_enciphered r.passage.choice ≡ false
  pub payload : r.output ≡ p
  pub count : r.count ≡ 0

-- a receipt that was accepted, opened with that key under that nonce, and gave back that payload and count
pub record Opens (r : GroupArrival) (x : List ℕ) (n : Nonce) (p : List ℕ) (count : ℕ) : Type 0 where
  pub accepted : r.number ≡ 0
  pub enciphered : choice_enciphered r.passage.choice ≡ true
  pub key : r.passage.key ≡ x
  pub nonce : passage_nonce r.envelope.header.channel r.passage ≡ n
  pub payload : r.output ≡ p
  pub reported : r.count ≡ count
  pub as_often : r.runs ≡ r.envelope.runs

-- the kth arrival of the group's line was at unit u
pub record Passed (k u : ℕ) (p : List ℕ) : Type 0 where
  pub some : k < length (group_lane_at played 0).arrived
  pub there : (arrival_at k).unit ≡ u
  pub passes : Passes (arrival_at k) p

pub record Delivered (k u : ℕ) (x : List ℕ) (n : Nonce) (p : List ℕ) (count : ℕ) : Type 0 where
  pub some : k < length (group_lane_at played 0).arrived
  pub there : (arrival_at k).unit ≡ u
  pub opens : Opens (arrival_at k) x n p count

-- the ith envelope of one line and the jth of another have no counter block in common under one key
pub record Apart (x : Sender) (i : ℕ) (y : Sender) (j : ℕ) : Type 0 where
  pub first : i < length (sent_by played x)
  pub second : j < length (sent_by played y)
  pub blocks : (a b : ℕ) → a < index_turn → b < index_turn
      → key_of (keys_of played x) (sent_by_at played x i).number ≡ key_of (keys_of played y) (sent_by_at played y j).number
      → counter_block (nonce_by example played x (sent_by_at played x i)) a ≡ counter_block (nonce_by example played y (sent_by_at played y j)) b
      → ⊥

-- the kth arrival of the group's line was at unit u, and was refused with that code
pub record NotOpened (k u number : ℕ) : Type 0 where
  pub some : k < length (group_lane_at played 0).arrived
  pub there : (arrival_at k).unit ≡ u
  pub refused : (arrival_at k).number ≡ number

---- of a state that it comes to

-- the kth of what is under way of the group to unit u is an envelope, and the unit, whatever it missed, opens it
pub record Back (s : State) (u k : ℕ) (out x : List ℕ) (n : Nonce) (p : List ℕ) (count : ℕ) : Type 0 where
  pub arriving : Envelope
  pub due : group_in_flight_at s u 0 k ≡ envelope arriving
  pub opens : Opens (group_receipt s u arriving out) x n p count
  -- and its arrival leaves the OLT, the units and their own lines
  pub untouched : alone (step s (arrive_group u 0 k out)) ≡ alone s

-- the kth of what is under way of the group to unit u is an envelope, and the unit refuses it with that code; unit and buffer are as they
-- were
pub record Unsynced (s : State) (u k : ℕ) (out : List ℕ) (number : ℕ) : Type 0 where
  pub arriving : Envelope
  pub due : group_in_flight_at s u 0 k ≡ envelope arriving
  pub refused : (receiving s u arriving out).answer.number ≡ number
  pub count : (receiving s u arriving out).answer.count ≡ 0
  pub runs : (receiving s u arriving out).answer.runs ≡ 0
  pub unit : (receiving s u arriving out).answer.subscriber ≡ subscriber_at s u
  pub buffer : (receiving s u arriving out).output ≡ out

-- unit u refuses the kth envelope of the group with that code; unit and buffer are as they were
pub record Overheard (s : State) (u k : ℕ) (out : List ℕ) (number : ℕ) : Type 0 where
  pub refused : (receiving s u (group_sent_at s 0 k) out).answer.number ≡ number
  pub count : (receiving s u (group_sent_at s 0 k) out).answer.count ≡ 0
  pub runs : (receiving s u (group_sent_at s 0 k) out).answer.runs ≡ 0
  pub unit : (receiving s u (group_sent_at s 0 k) out).answer.subscriber ≡ subscriber_at s u
  pub buffer : (receiving s u (group_sent_at s 0 k) out).output ≡ out

-- unit u, which has joined and is no member, is as it was, whatever it answers
pub record Left (s : State) (u k : ℕ) (out : List ℕ) : Type 0 where
  pub unit : (receiving s u (group_sent_at s 0 k) out).answer.subscriber ≡ subscriber_at s u

---- what the theorem says of the example

pub record Shown : Type 0 where
  pub sent_clear : HandedClear 0 0x00 first_clock (payload_from 0)
  pub clear_b : Passed 0 1 (payload_from 0)
  pub clear_a : Passed 1 0 (payload_from 0)
  -- under key 1 both open it; under key 2 the first, while the second has no part in the claim; under key 3 both
  pub sent1 : Handed 1 1 (key_from 16) (nonce 0x00 olt_mac (clock_turn - local_turn - 39)) (payload_from 1) enciphered_octets
  pub down_b1 : Delivered 2 1 (key_from 16) (nonce 0x00 olt_mac (clock_turn - local_turn - 39)) (payload_from 1) enciphered_octets
  pub down_a1 : Delivered 3 0 (key_from 16) (nonce 0x00 olt_mac (clock_turn - local_turn - 39)) (payload_from 1) enciphered_octets
  pub sent2 : Handed 2 2 (key_from 32) (nonce 0x00 olt_mac (clock_turn - local_turn + 60)) (payload_from 4) enciphered_octets
  pub down_a2 : Delivered 5 0 (key_from 32) (nonce 0x00 olt_mac (clock_turn - local_turn + 60)) (payload_from 4) enciphered_octets
  pub lost2 : Handed 3 2 (key_from 32) (nonce 0x00 olt_mac (clock_turn - local_turn + 110)) (payload_from 8) enciphered_octets
  pub sent3 : Handed 4 3 (key_from 64) (nonce 0x00 olt_mac (clock_turn - local_turn + 160)) (payload_from 5) enciphered_octets
  pub down_b3 : Delivered 6 1 (key_from 64) (nonce 0x00 olt_mac (clock_turn - local_turn + 160)) (payload_from 5) enciphered_octets
  pub down_a3 : Delivered 7 0 (key_from 64) (nonce 0x00 olt_mac (clock_turn - local_turn + 160)) (payload_from 5) enciphered_octets
  -- before it arrived: the acknowledged key 3 brings the second member back
  pub back : Back (after to_return) 1 1 blank (key_from 64) (nonce 0x00 olt_mac (clock_turn - local_turn + 160)) (payload_from 5) enciphered_octets
  -- its path has changed, and it is not synced; then it opens again, under key 3 and under key 4
  pub unsynced : Unsynced (after to_unsynced) 1 0 blank 5
  pub not_opened_b3 : NotOpened 8 1 5
  pub on_a3 : Delivered 9 0 (key_from 64) (nonce 0x00 olt_mac (clock_turn - local_turn + 215)) (payload_from 9) enciphered_octets
  pub again_b3 : Delivered 10 1 (key_from 64) (nonce 0x01 olt_mac (clock_turn - local_turn + 230)) (payload_from 10) enciphered_octets
  pub back_synced : Back (after to_synced) 1 0 blank (key_from 80) (nonce 0x00 olt_mac (clock_turn - local_turn + 260)) (payload_from 11) enciphered_octets
  pub down_b4 : Delivered 11 1 (key_from 80) (nonce 0x00 olt_mac (clock_turn - local_turn + 260)) (payload_from 11) enciphered_octets
  pub down_a4 : Delivered 12 0 (key_from 80) (nonce 0x00 olt_mac (clock_turn - local_turn + 260)) (payload_from 11) enciphered_octets
  -- two envelopes to the group under one key, of which the second was lost; one to the group and one to the first unit, sent at one tick
  pub apart_ticks : Apart (group 0) 2 (group 0) 3
  pub apart_lines : Apart (group 0) 1 (unit 0) 0
  -- the first unit's own key 1 at the end, as if there were no group
  pub agreed : Agreed (alone played) 0 0 1 (key_from 48) identity_a
  -- by a unit that has not joined, and by one that has
  pub overheard : Overheard (after to_first_key) 2 1 blank 2
  pub left : Left played 2 0 blank

---- the whole

pub record Demand : Type 0 where
  pub theorem : Theorem
  -- lists without groups and joins run as before, so that the theorem without groups is a corollary
  pub as_before : (w : Setting) (es : List units.Event) → Fresh w → premises.Meets w (run.start w) es → AsBefore w es
  -- and lists without path changes as before there were any
  pub unchanged : Unchanged
  pub fresh : Fresh example
  pub meets : Meets example (start example) events
  pub course : Course
  pub shown : Shown
