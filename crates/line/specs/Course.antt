-- How the list of Example runs, by computing alone: which calls were refused, what was sent and what arrived. Assumes nothing.
use Rattle.std.specs.Prelude.{◌≡◌, List, [], ◌∷◌, ◌++◌, map, ℕ, ◌+◌}
use Rattle.octets.specs.Choice.{pick}
use Rattle.headend.specs.HeadCalls.{head_register_of, register_group_of, head_advance_of, head_capture_of, head_measure_of, head_clock_send_of, head_offer_of, head_retry_of, head_acknowledge_of}
use Rattle.headend.specs.HeadTraffic.{head_send_of, head_receive_of}
use Rattle.subscriber.specs.SubscriberCalls.{join_of, subscriber_new_time_of, subscriber_clock_message_of, subscriber_key_message_of, own_answer}
use Rattle.subscriber.specs.SubscriberTraffic.{subscriber_send_of, subscriber_receive_of}
use Rattle.group_protocol.specs.declared.Subscriber.{Subscriber}
use Rattle.unicast.specs.History.{Envelope, InFlight, clock_message, key_message, envelope, Arrival}
use Rattle.unicast.specs.Run.{accepted, lane_at, in_flight_at, envelope_at, sent_at, answer_at}
use Rattle.line.specs.History.{GroupAnswered, GroupArrival}
use Rattle.line.specs.Events.{Event, advance, register, register_group, capture, clock_send, offer, retry, send_down, join, send_up, arrive_down, arrive_group, arrive_up, arrive_answer, arrive_group_answer, overhear, overhear_group, change_path, measure, new_time, stray_clock, stray_key, stray_answer, stray_down, stray_up}
use Rattle.line.specs.Run.{State, alone, start, step, runs, subscriber_at, joined_by, group_lane_at, group_in_flight_at, group_answer_at, group_sent_at, receiving, now}
use Rattle.line.specs.Example.{example, group_llid, events}

-- where the example stands after events
abbrev pub after : List Event → State
after es = runs (start example) es

abbrev pub played : State
played = after events

---- the calls that were refused

-- the code that the unit's call on what arrived returned
unfoldable pub arrival_number : Subscriber → List ℕ → InFlight → ℕ
arrival_number x out (clock_message m c t) = (subscriber_clock_message_of x m).number
arrival_number x out (key_message m t) = (subscriber_key_message_of x m).number
arrival_number x out (envelope e) = (subscriber_receive_of x e.header e.octets out).answer.number

-- the code that an event's call returned
unfoldable pub call_number : State → Event → ℕ
call_number s (advance n) = (head_advance_of s.head n).number
call_number s (register u i trip interval) = (head_register_of s.head i trip interval).number
call_number s (register_group llid interval r) = (register_group_of s.head llid interval r).number
call_number s (capture llid) = (head_capture_of s.head llid).number
call_number s (clock_send llid) = (head_clock_send_of s.head llid).number
call_number s (offer llid key) = (head_offer_of s.head llid key).number
call_number s (retry llid) = (head_retry_of s.head llid).number
call_number s (send_down llid channel p out) = (head_send_of s.head llid channel p out).answer.number
call_number s (join u llid) = (join_of (subscriber_at s u) llid).number
call_number s (send_up u llid channel p out) = (subscriber_send_of (subscriber_at s u) llid channel p out).answer.number
call_number s (arrive_down u k out) = arrival_number (subscriber_at s u) out (in_flight_at (alone s) u k)
call_number s (arrive_group u g k out) = arrival_number (subscriber_at s u) out (group_in_flight_at s u g k)
call_number s (arrive_up u k out) =
    (head_receive_of s.head (envelope_at (alone s) u k).header (envelope_at (alone s) u k).octets out).answer.number
call_number s (arrive_answer u k llid) = (head_acknowledge_of s.head llid (own_answer (answer_at (alone s) u k).acknowledgement)).number
call_number s (arrive_group_answer g k) = (head_acknowledge_of s.head (group_lane_at s g).llid (group_answer_at s g k).answer).number
call_number s (overhear u other k out) = (receiving s u (sent_at (alone s) other k) out).answer.number
call_number s (overhear_group u g k out) = (receiving s u (group_sent_at s g k) out).answer.number
call_number s (change_path u llid time p) =
    (head_measure_of s.head llid (p.up + p.down)).number + (subscriber_new_time_of (subscriber_at s u) time).number
call_number s (measure llid trip) = (head_measure_of s.head llid trip).number
call_number s (new_time u time) = (subscriber_new_time_of (subscriber_at s u) time).number
call_number s (stray_clock u m) = (subscriber_clock_message_of (subscriber_at s u) m).number
call_number s (stray_key u m) = (subscriber_key_message_of (subscriber_at s u) m).number
call_number s (stray_answer llid a) = (head_acknowledge_of s.head llid a).number
call_number s (stray_down u h p out) = (subscriber_receive_of (subscriber_at s u) h p out).answer.number
call_number s (stray_up h p out) = (head_receive_of s.head h p out).answer.number

-- the codes of the calls that were refused, in order
unfoldable pub refusals : State → List Event → List ℕ
refusals s [] = []
refusals s (e ∷ es) = pick (accepted (call_number s e)) [] (call_number s e ∷ []) ++ refusals (step s e) es

---- what came to pass

-- of a unit's own line
abbrev pub sent_numbers : ℕ → List ℕ
sent_numbers u = map (λ (e : Envelope). e.number) (lane_at (alone played) u).past.sent

abbrev pub arrived_numbers : ℕ → List ℕ
arrived_numbers u = map (λ (r : Arrival). r.envelope.number) (lane_at (alone played) u).past.arrived

-- the codes of the refused calls, by the parts of the list
abbrev pub refused_numbers : List ℕ
refused_numbers =
    -- registrations, joins, clocks
    (21 ∷ 21 ∷ 3 ∷ 3 ∷ [])
    ++ ((3 ∷ 3 ∷ 2 ∷ 2 ∷ 5 ∷ 8 ∷ 5 ∷ [])
    ++ ((5 ∷ [])
    -- first_key, overheard
    ++ ((6 ∷ 8 ∷ 8 ∷ 8 ∷ 2 ∷ 12 ∷ []) ++ ((2 ∷ [])
    -- missed_key, next_key, joined_stranger
    ++ ((10 ∷ 20 ∷ 20 ∷ []) ++ ((9 ∷ []) ++ ((5 ∷ [])
    -- path_change, synced_again
    ++ ((2 ∷ 1 ∷ 8 ∷ []) ++ (5 ∷ 5 ∷ [])))))))))

pub record Course : Type 0 where
  pub refused : refusals (start example) events ≡ refused_numbers
  -- the group's envelopes, by number; where each arrived, and with which code the unit answered
  pub sent : map (λ (e : Envelope). e.number) (group_lane_at played 0).sent ≡ 0 ∷ 1 ∷ 2 ∷ 2 ∷ 3 ∷ 3 ∷ 3 ∷ 4 ∷ []
  pub arrived_at : map (λ (r : GroupArrival). r.unit) (group_lane_at played 0).arrived ≡ 1 ∷ 0 ∷ 1 ∷ 0 ∷ 1 ∷ 0 ∷ 1 ∷ 0 ∷ 1 ∷ 0 ∷ 1
      ∷ 1 ∷ 0 ∷ []
  pub arrived : map (λ (r : GroupArrival). r.envelope.number) (group_lane_at played 0).arrived ≡ 0 ∷ 0 ∷ 1 ∷ 1 ∷ 2 ∷ 2 ∷ 3 ∷ 3 ∷ 3
      ∷ 3 ∷ 3 ∷ 4 ∷ 4 ∷ []
  pub answered : map (λ (r : GroupArrival). r.number) (group_lane_at played 0).arrived ≡ 0 ∷ 0 ∷ 0 ∷ 0 ∷ 9 ∷ 0 ∷ 0 ∷ 0 ∷ 5 ∷ 0 ∷ 0
      ∷ 0 ∷ 0 ∷ []
  -- who acknowledged which key
  pub acknowledged_by : map (λ (a : GroupAnswered). a.unit) (group_lane_at played 0).answered ≡ 1 ∷ 1 ∷ 0 ∷ 0 ∷ 1 ∷ 0 ∷ 0 ∷ 1 ∷ []
  pub acknowledged : map (λ (a : GroupAnswered). a.answer.number) (group_lane_at played 0).answered ≡ 1 ∷ 1 ∷ 1 ∷ 2 ∷ 3 ∷ 3 ∷ 4 ∷ 4 ∷ []
  -- whose messages each member took since it joined: the second missed that of key 2
  pub joined_a : joined_by played 0 ≡ record { llid = group_llid; took = 1 ∷ 2 ∷ 3 ∷ 4 ∷ [] } ∷ []
  pub joined_b : joined_by played 1 ≡ record { llid = group_llid; took = 1 ∷ 1 ∷ 3 ∷ 4 ∷ [] } ∷ []
  -- the first unit's own line
  pub sent_a : sent_numbers 0 ≡ 1 ∷ 1 ∷ 1 ∷ 1 ∷ []
  pub arrived_a : arrived_numbers 0 ≡ 1 ∷ 1 ∷ 1 ∷ 1 ∷ []
  pub ended : now played ≡ 430
