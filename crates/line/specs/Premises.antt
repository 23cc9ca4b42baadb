-- What a list must keep to (01, The line; 02, C-14, C-16), in the papers' order. A call of an end is bound only where it is accepted; an arrival,
-- an overheard receipt and any other receipt by what makes it one. Of the units' own lines it is what unicast/Premises asks. Assumes nothing.
use Rattle.std.specs.Prelude.{◌≡◌, true, false, List, [], ◌∷◌, ℕ, ◌+◌, ◌%◌, ◌≤◌, ◌<◌, length, get_or}
use Rattle.clock.specs.Ticks.{local_turn}
use Rattle.ends.specs.Identities.{has}
use Rattle.headend.specs.HeadCalls.{head_register_of, head_measure_of, head_offer_of, head_acknowledge_of}
use Rattle.headend.specs.HeadTraffic.{head_receive_of}
use Rattle.subscriber.specs.SubscriberCalls.{subscriber_new_time_of, subscriber_clock_message_of, subscriber_key_message_of}
use Rattle.subscriber.specs.SubscriberTraffic.{subscriber_send_of, subscriber_receive_of}
use Rattle.unicast.specs.Setting.{Delays, Setting}
use Rattle.unicast.specs.History.{left_at}
use Rattle.unicast.specs.Run.{lane_at}
use Rattle.unicast.specs.Premises.{Agrees, FittingBuffer, DueDown, DueUp, DueAnswer, Overhears}
use Rattle.unicast.specs.Premises as units
use Rattle.line.specs.History.{is_member}
use Rattle.line.specs.Events.{Event, advance, register, register_group, capture, clock_send, offer, retry, send_down, join, send_up, arrive_down, arrive_group, arrive_up, arrive_answer, arrive_group_answer, overhear, overhear_group, change_path, measure, new_time, stray_clock, stray_key, stray_answer, stray_down, stray_up}
use Rattle.line.specs.Run.{State, alone, subscriber_at, group_lane_at, group_in_flight_at, group_answer_at, now, step}

-- all keys different: no accepted offer to any unit or group gave this key before
pub record NewKey (s : State) (key : List ℕ) : Type 0 where
  pub units : units.NewKey (alone s) key
  pub groups : (g n : ℕ) → n < length (group_lane_at s g).keys.offers → get_or (group_lane_at s g).keys.offers n [] ≡ key → ⊥

-- the kth of what is under way of the group to the unit: it arrives its way's delay after it left
pub record DueOfGroup (s : State) (u g k : ℕ) (out : List ℕ) : Type 0 where
  pub some : k < length (get_or (group_lane_at s g).towards u [])
  pub at : left_at (group_in_flight_at s u g k) + (lane_at (alone s) u).path.down ≡ now s
  pub buffer : FittingBuffer (group_in_flight_at s u g k) out

-- an acknowledgement may leave later or again: it was handed over at least its delay ago
pub record DueGroupAnswer (s : State) (g k : ℕ) : Type 0 where
  pub some : k < length (group_lane_at s g).answered
  pub left : (group_answer_at s g k).tick + (lane_at (alone s) (group_answer_at s g k).unit).path.up ≤ now s

-- a path change (02, C-16), as without groups: both calls are accepted at one tick, with nothing of that unit between them
pub record Changes (w : Setting) (s : State) (u llid time : ℕ) (p : Delays) : Type 0 where
  pub registered : (lane_at (alone s) u).entry.registered ≡ true
  pub named : has (lane_at (alone s) u).site.identity llid ≡ true
  pub measured : (head_measure_of s.head llid (p.up + p.down)).number ≡ 0
  pub retimed : (subscriber_new_time_of (subscriber_at s u) time).number ≡ 0
  pub follows : time ≡ (w.first + now s + p.up) % local_turn

-- a registered unit that is no member of the group: a member does not overhear its own group's envelopes
pub record OverhearsGroup (s : State) (u g k : ℕ) : Type 0 where
  pub registered : (lane_at (alone s) u).entry.registered ≡ true
  pub stranger : is_member (group_lane_at s g) (lane_at (alone s) u) ≡ false
  pub some : k < length (group_lane_at s g).sent

abbrev pub Fits : Setting → State → Event → Type 0
Fits w s (advance n) = Unit {0}
Fits w s (register u i trip interval) = (head_register_of s.head i trip interval).number ≡ 0 → Agrees w (alone s) u i trip
Fits w s (register_group llid interval r) = Unit {0}
Fits w s (capture llid) = Unit {0}
Fits w s (clock_send llid) = Unit {0}
Fits w s (offer llid key) = (head_offer_of s.head llid key).number ≡ 0 → NewKey s key
Fits w s (retry llid) = Unit {0}
Fits w s (send_down llid channel p out) = Unit {0}
Fits w s (join u llid) = Unit {0}
-- units are registered before their traffic
Fits w s (send_up u llid channel p out) =
    (subscriber_send_of (subscriber_at s u) llid channel p out).answer.number ≡ 0 → (lane_at (alone s) u).entry.registered ≡ true
Fits w s (arrive_down u k out) = DueDown (alone s) u k out
Fits w s (arrive_group u g k out) = DueOfGroup s u g k out
Fits w s (arrive_up u k out) = DueUp (alone s) u k out
Fits w s (arrive_answer u k llid) = DueAnswer (alone s) u k llid
Fits w s (arrive_group_answer g k) = DueGroupAnswer s g k
Fits w s (overhear u other k out) = Overhears (alone s) u other k
Fits w s (overhear_group u g k out) = OverhearsGroup s u g k
Fits w s (change_path u llid time p) = Changes w s u llid time p
-- one call of the pair alone, and any other receipt, is in the list only if refused
Fits w s (measure llid trip) = (head_measure_of s.head llid trip).number ≡ 0 → ⊥
Fits w s (new_time u time) = (subscriber_new_time_of (subscriber_at s u) time).number ≡ 0 → ⊥
Fits w s (stray_clock u m) = (subscriber_clock_message_of (subscriber_at s u) m).number ≡ 0 → ⊥
Fits w s (stray_key u m) = (subscriber_key_message_of (subscriber_at s u) m).number ≡ 0 → ⊥
Fits w s (stray_answer llid a) = (head_acknowledge_of s.head llid a).number ≡ 0 → ⊥
Fits w s (stray_down u h p out) = (subscriber_receive_of (subscriber_at s u) h p out).answer.number ≡ 0 → ⊥
Fits w s (stray_up h p out) = (head_receive_of s.head h p out).answer.number ≡ 0 → ⊥

-- every event of the list fits where it stands
abbrev pub Meets : Setting → State → List Event → Type 0
Meets w s [] = Unit {0}
Meets w s (e ∷ es) = Fits w s e × Meets w (step s e) es
