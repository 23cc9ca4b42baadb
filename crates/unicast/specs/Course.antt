-- How the list of Example runs, by computing alone: which calls were refused, what was sent and what arrived. Assumes nothing.
use Rattle.std.specs.Prelude.{◌≡◌, List, [], ◌∷◌, ◌++◌, map, ℕ, ◌+◌}
use Rattle.clock.specs.Ticks.{max_tick}
use Rattle.octets.specs.Choice.{pick}
use Rattle.ends.specs.Limits.{max_units}
use Rattle.protocol.specs.OltCalls.{register_of, advance_olt_of, capture_of, measure_of, clock_send_of, offer_of, retry_of, acknowledge_of}
use Rattle.protocol.specs.OnuCalls.{new_time_of, clock_message_at, key_message_at}
use Rattle.ends.specs.declared.Onu.{Onu}
use Rattle.traffic.specs.Sends.{olt_send_of, onu_send_of}
use Rattle.traffic.specs.Receipts.{olt_receive_of, onu_receive_of}
use Rattle.unicast.specs.History.{Envelope, InFlight, clock_message, key_message, envelope, Arrival}
use Rattle.unicast.specs.Events.{Event, advance, register, capture, clock_send, offer, retry, send_down, send_up, arrive_down, arrive_up, arrive_answer, overhear, change_path, measure, new_time, stray_clock, stray_key, stray_answer, stray_down, stray_up}
use Rattle.unicast.specs.Run.{State, start, step, run, accepted, lane_at, onu_at, in_flight_at, envelope_at, sent_at, overhearing, answer_at}
use Rattle.unicast.specs.Claim.{nonce_for}
use Rattle.unicast.specs.Example.{example, events}

-- where the example stands after events
abbrev pub after : List Event → State
after es = run (start example) es

abbrev pub played : State
played = after events

---- the calls that were refused

-- the number that the unit's call on what arrived returned
unfoldable pub arrival_number : Onu → List ℕ → InFlight → ℕ
arrival_number o out (clock_message m c t) = (clock_message_at o m).number
arrival_number o out (key_message m t) = (key_message_at o m).number
arrival_number o out (envelope e) = (onu_receive_of o e.header e.octets out).answer.number

-- the code that an event's call returned; a change of path is two, both accepted
unfoldable pub call_number : State → Event → ℕ
call_number s (advance n) = (advance_olt_of s.olt n).number
call_number s (register u i trip interval) = (register_of s.olt i trip interval).number
call_number s (capture llid) = (capture_of s.olt llid).number
call_number s (clock_send llid) = (clock_send_of s.olt llid).number
call_number s (offer llid key) = (offer_of s.olt llid key).number
call_number s (retry llid) = (retry_of s.olt llid).number
call_number s (send_down llid channel p out) = (olt_send_of s.olt llid channel p out).answer.number
call_number s (send_up u llid channel p out) = (onu_send_of (onu_at s u) llid channel p out).answer.number
call_number s (arrive_down u k out) = arrival_number (onu_at s u) out (in_flight_at s u k)
call_number s (arrive_up u k out) = (olt_receive_of s.olt (envelope_at s u k).header (envelope_at s u k).octets out).answer.number
call_number s (arrive_answer u k llid) = (acknowledge_of s.olt llid (answer_at s u k).acknowledgement).number
call_number s (overhear u v k out) = (overhearing s u v k out).answer.number
call_number s (change_path u llid time p) = (measure_of s.olt llid (p.up + p.down)).number + (new_time_of (onu_at s u) time).number
call_number s (measure llid trip) = (measure_of s.olt llid trip).number
call_number s (new_time u time) = (new_time_of (onu_at s u) time).number
call_number s (stray_clock u m) = (clock_message_at (onu_at s u) m).number
call_number s (stray_key u m) = (key_message_at (onu_at s u) m).number
call_number s (stray_answer llid a) = (acknowledge_of s.olt llid a).number
call_number s (stray_down u h p out) = (onu_receive_of (onu_at s u) h p out).answer.number
call_number s (stray_up h p out) = (olt_receive_of s.olt h p out).answer.number

-- the codes of the calls that were refused, in order
unfoldable pub refusals : State → List Event → List ℕ
refusals s [] = []
refusals s (e ∷ es) = pick (accepted (call_number s e)) [] (call_number s e ∷ []) ++ refusals (step s e) es

---- what came to pass

abbrev pub sent_numbers : ℕ → List ℕ
sent_numbers u = map (λ (e : Envelope). e.number) (lane_at played u).past.sent

abbrev pub arrived_numbers : ℕ → List ℕ
arrived_numbers u = map (λ (r : Arrival). r.envelope.number) (lane_at played u).past.arrived

-- the codes of the refused calls, by the parts of the list
abbrev pub refused_numbers : List ℕ
refused_numbers =
    -- strangers
    (2 ∷ 2 ∷ 2 ∷ 2 ∷ 2 ∷ 2 ∷ 2 ∷ 14 ∷ 5 ∷ 5 ∷ 1 ∷ 1 ∷ 1 ∷ 1 ∷ 1 ∷ [])
    -- first_unit, first_key_a
    ++ ((3 ∷ 3 ∷ 8 ∷ 8 ∷ 5 ∷ 8 ∷ [])
    ++ ((12 ∷ 12 ∷ 6 ∷ 6 ∷ [])
    -- refused_calls, refused_envelopes
    ++ ((2 ∷ 2 ∷ 2 ∷ 7 ∷ 2 ∷ 8 ∷ 14 ∷ 1 ∷ 2 ∷ 14 ∷ 1 ∷ 2 ∷ 2 ∷ 8 ∷ 1 ∷ 2 ∷ 8 ∷ [])
    ++ ((14 ∷ 1 ∷ 2 ∷ 10 ∷ 11 ∷ 9 ∷ 14 ∷ 1 ∷ 2 ∷ 10 ∷ 11 ∷ 9 ∷ [])
    -- second_unit, second_key_a, overheard
    ++ ((8 ∷ []) ++ ((16 ∷ []) ++ ((2 ∷ 1 ∷ 14 ∷ 2 ∷ [])
    -- changed_path_b
    ++ ((2 ∷ 1 ∷ 1 ∷ 5 ∷ 5 ∷ 5 ∷ 12 ∷ [])
    -- last_sends, full_table, last_tick
    ++ ((13 ∷ 13 ∷ []) ++ ((4 ∷ []) ++ (17 ∷ [])))))))))))

pub record Course : Type 0 where
  pub registered : played.history.registrations ≡ max_units
  pub since : map (λ u. (lane_at played u).entry.since) (0 ∷ 1 ∷ 2 ∷ []) ≡ 0 ∷ 155 ∷ 155 ∷ []
  pub refused : refusals (start example) events ≡ refused_numbers
  pub sent_a : sent_numbers 0 ≡ 0 ∷ 0 ∷ 1 ∷ 1 ∷ 1 ∷ 1 ∷ 2 ∷ 2 ∷ 2 ∷ 2 ∷ []
  pub arrived_a : arrived_numbers 0 ≡ 0 ∷ 0 ∷ 1 ∷ 1 ∷ 2 ∷ 2 ∷ 2 ∷ 2 ∷ []
  pub sent_b : sent_numbers 1 ≡ 1 ∷ 1 ∷ 2 ∷ 2 ∷ 2 ∷ 2 ∷ 2 ∷ 3 ∷ 3 ∷ []
  pub arrived_b : arrived_numbers 1 ≡ 1 ∷ 1 ∷ 2 ∷ 2 ∷ 2 ∷ 2 ∷ 3 ∷ 3 ∷ []
  pub sent_c : sent_numbers 2 ≡ 0 ∷ 1 ∷ 1 ∷ 1 ∷ []
  pub arrived_c : arrived_numbers 2 ≡ 0 ∷ 1 ∷ 1 ∷ 1 ∷ []
  -- an envelope to the first unit and one to the third, 2^48 ticks later, have the same counter blocks, under two keys
  pub same_blocks : nonce_for example (lane_at played 0).site (sent_at played 0 6) ≡ nonce_for example (lane_at played 2).site (sent_at played 2 3)
  pub ended : played.history.now ≡ max_tick
