-- What a list must keep to (01, The line), in the paper's order. A call of an end is bound only where it is accepted (D54); an arrival,
-- an overheard receipt and any other receipt by what makes it one. Assumes nothing.
use Rattle.std.specs.Prelude.{◌≡◌, true, List, [], ◌∷◌, ℕ, ◌+◌, ◌%◌, ◌<◌, ◌≤◌, length, get_or}
use Rattle.clock.specs.Ticks.{local_turn}
use Rattle.ends.specs.Identities.{has}
use Rattle.protocol.specs.OltCalls.{fresh_olt_of, register_of, measure_of, offer_of, acknowledge_of}
use Rattle.protocol.specs.OnuCalls.{fresh_onu_of, new_time_of, clock_message_at, key_message_at}
use Rattle.ends.specs.declared.Identity.{Identity}
use Rattle.traffic.specs.Sends.{onu_send_of}
use Rattle.traffic.specs.Receipts.{olt_receive_of, onu_receive_of}
use Rattle.unicast.specs.Setting.{Delays, Site, Setting}
use Rattle.unicast.specs.History.{InFlight, clock_message, key_message, envelope, left_at}
use Rattle.unicast.specs.Events.{Event, advance, register, capture, clock_send, offer, retry, send_down, send_up, arrive_down, arrive_up, arrive_answer, overhear, change_path, measure, new_time, stray_clock, stray_key, stray_answer, stray_down, stray_up}
use Rattle.unicast.specs.Run.{State, step, lane_at, onu_at, in_flight_at, envelope_at, answer_at}

-- "from fresh ends": the OLT and every unit were made (D52)
pub record Fresh (w : Setting) : Type 0 where
  pub olt : (fresh_olt_of w.mac w.first).number ≡ 0
  pub onus : (u : ℕ) (s : Site) → u < length w.sites
      → (fresh_onu_of (get_or w.sites u s).identity (get_or w.sites u s).oltmac (get_or w.sites u s).time).number ≡ 0

-- an accepted registration: the ends agree on MACs and LLIDs (D53), LocalTime is the low half of the OLT's clock plus the delay up, and
-- the delays add up to the round trip. That it is the unit's first follows: a second one's LLIDs are in the table, and refused 3
pub record Agrees (w : Setting) (s : State) (u : ℕ) (i : Identity) (trip : ℕ) : Type 0 where
  pub known : u < length s.history.lanes
  pub mac : i.mac ≡ (lane_at s u).site.identity.mac
  pub llids : (x : ℕ) → has i x ≡ has (lane_at s u).site.identity x
  pub oltmac : (lane_at s u).site.oltmac ≡ w.mac
  pub time : (lane_at s u).site.time ≡ (w.first + (lane_at s u).path.up) % local_turn
  pub delays : trip ≡ (lane_at s u).path.up + (lane_at s u).path.down

-- all keys different: no accepted offer to any unit gave this key before
pub record NewKey (s : State) (key : List ℕ) : Type 0 where
  pub unused : (u n : ℕ) → n < length (lane_at s u).keys.offers → get_or (lane_at s u).keys.offers n [] ≡ key → ⊥

-- an envelope comes with a fitting buffer (D57)
abbrev pub FittingBuffer : InFlight → List ℕ → Type 0
FittingBuffer (clock_message m c t) out = Unit {0}
FittingBuffer (key_message m t) out = Unit {0}
FittingBuffer (envelope e) out = length out ≡ length e.octets

-- the kth of what is under way to the unit: it arrives its way's delay after it left, and in order (D56), since what left before it
-- is no longer under way
pub record DueDown (s : State) (u k : ℕ) (out : List ℕ) : Type 0 where
  pub some : k < length (lane_at s u).transit.towards
  pub now : left_at (in_flight_at s u k) + (lane_at s u).path.down ≡ s.history.now
  pub buffer : FittingBuffer (in_flight_at s u k) out

pub record DueUp (s : State) (u k : ℕ) (out : List ℕ) : Type 0 where
  pub some : k < length (lane_at s u).transit.from
  pub now : (envelope_at s u k).left + (lane_at s u).path.up ≡ s.history.now
  pub buffer : length out ≡ length (envelope_at s u k).octets

-- an acknowledgement may leave later or again: it was handed over at least its delay ago (D58)
pub record DueAnswer (s : State) (u k llid : ℕ) : Type 0 where
  pub some : k < length (lane_at s u).transit.answered
  pub left : (answer_at s u k).tick + (lane_at s u).path.up ≤ s.history.now
  pub named : has (lane_at s u).site.identity llid ≡ true

-- a path change (02, C-16; D47): both calls are accepted at one tick, with nothing of that unit between them. The OLT names the unit by an
-- LLID of its own and measures the sum of the new delays; LocalTime is the low half of the OLT's clock plus the new delay up
pub record Changes (w : Setting) (s : State) (u llid time : ℕ) (p : Delays) : Type 0 where
  pub registered : (lane_at s u).entry.registered ≡ true
  pub named : has (lane_at s u).site.identity llid ≡ true
  pub measured : (measure_of s.olt llid (p.up + p.down)).number ≡ 0
  pub retimed : (new_time_of (onu_at s u) time).number ≡ 0
  pub follows : time ≡ (w.first + s.history.now + p.up) % local_turn

-- another registered unit (D60)
pub record Overhears (s : State) (u other k : ℕ) : Type 0 where
  pub registered : (lane_at s u).entry.registered ≡ true
  pub apart : u ≡ other → ⊥
  pub some : k < length (lane_at s other).past.sent

abbrev pub Fits : Setting → State → Event → Type 0
Fits w s (advance n) = Unit {0}
Fits w s (register u i trip interval) = (register_of s.olt i trip interval).number ≡ 0 → Agrees w s u i trip
Fits w s (capture llid) = Unit {0}
Fits w s (clock_send llid) = Unit {0}
Fits w s (offer llid key) = (offer_of s.olt llid key).number ≡ 0 → NewKey s key
Fits w s (retry llid) = Unit {0}
Fits w s (send_down llid channel p out) = Unit {0}
-- units are registered before their traffic (D55)
Fits w s (send_up u llid channel p out) = (onu_send_of (onu_at s u) llid channel p out).answer.number ≡ 0 → (lane_at s u).entry.registered ≡ true
Fits w s (arrive_down u k out) = DueDown s u k out
Fits w s (arrive_up u k out) = DueUp s u k out
Fits w s (arrive_answer u k llid) = DueAnswer s u k llid
Fits w s (overhear u other k out) = Overhears s u other k
Fits w s (change_path u llid time p) = Changes w s u llid time p
-- one call of the pair alone, and any other receipt, is in the list only if refused (D59)
Fits w s (measure llid trip) = (measure_of s.olt llid trip).number ≡ 0 → ⊥
Fits w s (new_time u time) = (new_time_of (onu_at s u) time).number ≡ 0 → ⊥
Fits w s (stray_clock u m) = (clock_message_at (onu_at s u) m).number ≡ 0 → ⊥
Fits w s (stray_key u m) = (key_message_at (onu_at s u) m).number ≡ 0 → ⊥
Fits w s (stray_answer llid a) = (acknowledge_of s.olt llid a).number ≡ 0 → ⊥
Fits w s (stray_down u h p out) = (onu_receive_of (onu_at s u) h p out).answer.number ≡ 0 → ⊥
Fits w s (stray_up h p out) = (olt_receive_of s.olt h p out).answer.number ≡ 0 → ⊥

-- every event of the list fits where it stands
abbrev pub Meets : Setting → State → List Event → Type 0
Meets w s [] = Unit {0}
Meets w s (e ∷ es) = Fits w s e × Meets w (step s e) es
