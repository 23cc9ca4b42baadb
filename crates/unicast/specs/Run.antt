-- How a list of events runs: each event is the definition of its call, on the ends as the last call left them, and what it adds
-- to the history. Assumes nothing.
use Rattle.std.specs.Prelude.{Bool, false, List, [], ◌∷◌, map, ℕ, ◌+◌, eqb, get_or, set}
use Rattle.octets.specs.Choice.{both, pick}
use Rattle.octets.specs.Output.{WithOutput}
use Rattle.envelope.specs.ControlMask.{eqs_of}
use Rattle.protocol.specs.Headers.{no_sending}
use Rattle.ends.specs.Identities.{has, no_identity}
use Rattle.ends.specs.Records.{new_onu}
use Rattle.protocol.specs.OltCalls.{fresh_olt_of, register_of, advance_olt_of, capture_of, measure_of, clock_send_of, offer_of, retry_of, acknowledge_of}
use Rattle.protocol.specs.OnuCalls.{fresh_onu_of, advance_onu_of, new_time_of, clock_message_at, key_message_at}
use Rattle.protocol.specs.OltTraffic.{sending_olt, receiving_olt}
use Rattle.protocol.specs.OnuTraffic.{sending_onu, receiving_onu}
use Rattle.protocol.specs.declared.Acknowledgement.{Acknowledgement}
use Rattle.protocol.specs.declared.ClockSent.{ClockSent}
use Rattle.protocol.specs.declared.KeySent.{KeySent}
use Rattle.ends.specs.declared.Olt.{Olt}
use Rattle.ends.specs.declared.Onu.{Onu}
use Rattle.protocol.specs.declared.OnuAcknowledged.{OnuAcknowledged}
use Rattle.traffic.specs.Passages.{misfit}
use Rattle.traffic.specs.Sends.{olt_send_of, onu_send_of}
use Rattle.traffic.specs.Receipts.{olt_receive_of, onu_receive_of}
use Rattle.traffic.specs.declared.OnuReceived.{OnuReceived}
use Rattle.unicast.specs.Setting.{Delays, Site, Setting}
use Rattle.unicast.specs.History.{downward, upward, Envelope, InFlight, clock_message, key_message, envelope, Answered, Arrival, Lane, History, number_down, lane_registered, lane_captured, lane_leaving, lane_offered, lane_acknowledged, lane_sent_down, lane_sent_up, lane_taken, lane_answered, lane_arrived_down, lane_arrived_up, lane_moved}
use Rattle.unicast.specs.Events.{Event, advance, register, capture, clock_send, offer, retry, send_down, send_up, arrive_down, arrive_up, arrive_answer, overhear, change_path, measure, new_time, stray_clock, stray_key, stray_answer, stray_down, stray_up}

-- the ends and the history
pub record State : Type 0 where
  pub olt : Olt
  pub onus : List Onu
  pub history : History

---- the start: fresh ends, nothing has happened

unfoldable pub fresh_lane : Site → Lane
fresh_lane s =
    record {
      site = s;
      path = record { up = s.up; down = s.down };
      entry = record { registered = false; place = 0; since = 0; interval = 0 };
      captured = 0;
      keys = record { offers = []; acknowledged = false; switches = 0; switched = 0; number = 0 };
      transit = record { towards = []; from = []; answered = [] };
      past = record { sent = []; arrived = [] };
    }

unfoldable pub fresh_onu : Site → Onu
fresh_onu s = (fresh_onu_of s.identity s.oltmac s.time).onu

unfoldable pub start : Setting → State
start w =
    record {
      olt = (fresh_olt_of w.mac w.first).olt;
      onus = map fresh_onu w.sites;
      history = record { now = 0; registrations = 0; lanes = map fresh_lane w.sites };
    }

---- places that no unit has

abbrev pub no_site : Site
no_site = record { identity = no_identity; oltmac = 0; time = 0; up = 0; down = 0 }

-- an end of zeros, which no call accepts
abbrev pub onu_at : State → ℕ → Onu
onu_at s u = get_or s.onus u (new_onu no_identity 0 0)

abbrev pub lane_at : State → ℕ → Lane
lane_at s u = get_or s.history.lanes u (fresh_lane no_site)

---- how a call is added

-- acceptance returns 0
abbrev pub accepted : ℕ → Bool
accepted number = eqb number 0

-- where the call was accepted
unfoldable pub noted : ℕ → (Lane → Lane) → Lane → Lane
noted number f l = pick (accepted number) (f l) l

-- the lane of the registered unit that has the LLID
unfoldable pub named : ℕ → (Lane → Lane) → Lane → Lane
named llid f l = pick (both l.entry.registered (has l.site.identity llid)) (f l) l

unfoldable pub with_lanes : History → List Lane → History
with_lanes h ls = record { now = h.now; registrations = h.registrations; lanes = ls }

-- a call on the OLT that names a unit by its LLID
unfoldable pub at_olt : State → Olt → ℕ → ℕ → (Lane → Lane) → State
at_olt s o number llid f =
    record { olt = o; onus = s.onus; history = with_lanes s.history (map (noted number (named llid f)) s.history.lanes) }

-- a call on a unit
unfoldable pub at_onu : State → ℕ → Onu → (Lane → Lane) → State
at_onu s u o f =
    record {
      olt = s.olt;
      onus = set s.onus u o;
      history = with_lanes s.history (set s.history.lanes u (f (lane_at s u)));
    }

-- a call on the OLT, of which the lane of unit u is told
unfoldable pub at_olt_for : State → ℕ → Olt → (Lane → Lane) → State
at_olt_for s u o f =
    record { olt = o; onus = s.onus; history = with_lanes s.history (set s.history.lanes u (f (lane_at s u))) }

---- the events

unfoldable pub advancing : State → ℕ → State
advancing s n =
    record {
      olt = (advance_olt_of s.olt n).olt;
      onus = map (λ o. (advance_onu_of o n).onu) s.onus;
      history =
          record {
            now = pick (accepted (advance_olt_of s.olt n).number) (s.history.now + n) s.history.now;
            registrations = s.history.registrations;
            lanes = s.history.lanes;
          };
    }

unfoldable pub entering : State → ℕ → ℕ → ℕ → Olt → State
entering s u interval number o =
    record {
      olt = o;
      onus = s.onus;
      history =
          record {
            now = s.history.now;
            registrations = pick (accepted number) (s.history.registrations + 1) s.history.registrations;
            lanes =
                set s.history.lanes u
                (noted number (lane_registered s.history.registrations s.history.now interval) (lane_at s u));
          };
    }

unfoldable pub clock_sending : State → ℕ → ClockSent → State
clock_sending s llid r =
    at_olt s r.olt r.number llid (λ l. lane_leaving (clock_message r.message l.captured s.history.now) l)

unfoldable pub offering : State → ℕ → List ℕ → KeySent → State
offering s llid key r =
    at_olt s r.olt r.number llid (λ l. lane_leaving (key_message r.message s.history.now) (lane_offered key l))

unfoldable pub retrying : State → ℕ → KeySent → State
retrying s llid r = at_olt s r.olt r.number llid (λ l. lane_leaving (key_message r.message s.history.now) l)

-- the envelope of the OLT's send at the tick now, by that path, under that number
unfoldable pub envelope_down : ℕ → Delays → Olt → ℕ → ℕ → List ℕ → List ℕ → ℕ → Envelope
envelope_down now path o llid channel p out number =
    record {
      direction = downward;
      left = now;
      up = path.up;
      llid = llid;
      channel = channel;
      payload = p;
      header = (olt_send_of o llid channel p out).answer.header;
      octets = (olt_send_of o llid channel p out).output;
      count = (olt_send_of o llid channel p out).answer.count;
      runs = (olt_send_of o llid channel p out).answer.runs;
      passage = (sending_olt o (misfit p out) llid channel (eqs_of p)).handed.passage;
      number = number;
    }

unfoldable pub sending_down : State → ℕ → ℕ → List ℕ → List ℕ → State
sending_down s llid channel p out =
    at_olt s (olt_send_of s.olt llid channel p out).answer.olt (olt_send_of s.olt llid channel p out).answer.number llid
    (λ l.
    lane_sent_down s.history.now (envelope_down s.history.now l.path s.olt llid channel p out (number_down l s.history.now)) l)

-- the envelope of a unit's send
unfoldable pub envelope_up : ℕ → Delays → Onu → ℕ → ℕ → List ℕ → List ℕ → ℕ → Envelope
envelope_up now path o llid channel p out number =
    record {
      direction = upward;
      left = now;
      up = path.up;
      llid = llid;
      channel = channel;
      payload = p;
      header = (onu_send_of o llid channel p out).answer.header;
      octets = (onu_send_of o llid channel p out).output;
      count = (onu_send_of o llid channel p out).answer.count;
      runs = (onu_send_of o llid channel p out).answer.runs;
      passage = (sending_onu o (misfit p out) llid channel (eqs_of p)).handed.passage;
      number = number;
    }

unfoldable pub sending_up : State → ℕ → ℕ → ℕ → List ℕ → List ℕ → State
sending_up s u llid channel p out =
    at_onu s u (onu_send_of (onu_at s u) llid channel p out).answer.onu
    (noted (onu_send_of (onu_at s u) llid channel p out).answer.number
    (λ l. lane_sent_up (envelope_up s.history.now l.path (onu_at s u) llid channel p out l.keys.number) l))

-- the unit's answer to a message that arrived
unfoldable pub message_arriving : State → ℕ → ℕ → OnuAcknowledged → State
message_arriving s u k r =
    at_onu s u r.onu (λ l. noted r.number (lane_answered r.acknowledgement s.history.now) (lane_taken k l))

-- the receipt of an envelope that arrived for the unit
unfoldable pub receipt_down : State → ℕ → Envelope → List ℕ → Arrival
receipt_down s u e out =
    record {
      envelope = e;
      number = (onu_receive_of (onu_at s u) e.header e.octets out).answer.number;
      count = (onu_receive_of (onu_at s u) e.header e.octets out).answer.count;
      runs = (onu_receive_of (onu_at s u) e.header e.octets out).answer.runs;
      output = (onu_receive_of (onu_at s u) e.header e.octets out).output;
      passage = (receiving_onu (onu_at s u) (misfit e.octets out) e.header).handed;
    }

unfoldable pub envelope_arriving : State → ℕ → ℕ → Envelope → List ℕ → State
envelope_arriving s u k e out =
    at_onu s u (onu_receive_of (onu_at s u) e.header e.octets out).answer.onu
    (λ l. lane_arrived_down (receipt_down s u e out) (lane_taken k l))

unfoldable pub in_flight_arriving : State → ℕ → ℕ → List ℕ → InFlight → State
in_flight_arriving s u k out (clock_message m c t) = message_arriving s u k (clock_message_at (onu_at s u) m)
in_flight_arriving s u k out (key_message m t) = message_arriving s u k (key_message_at (onu_at s u) m)
in_flight_arriving s u k out (envelope e) = envelope_arriving s u k e out

-- an envelope that never was: of zeros
unfoldable pub no_envelope : Envelope
no_envelope =
    record {
      direction = downward;
      left = 0;
      up = 0;
      llid = 0;
      channel = 0;
      payload = [];
      header = no_sending.header;
      octets = [];
      count = 0;
      runs = 0;
      passage = no_sending.passage;
      number = 0;
    }

abbrev pub in_flight_at : State → ℕ → ℕ → InFlight
in_flight_at s u k = get_or (lane_at s u).transit.towards k (envelope no_envelope)

abbrev pub envelope_at : State → ℕ → ℕ → Envelope
envelope_at s u k = get_or (lane_at s u).transit.from k no_envelope

abbrev pub sent_at : State → ℕ → ℕ → Envelope
sent_at s u k = get_or (lane_at s u).past.sent k no_envelope

-- a unit's receipt of the kth envelope that was sent to or by another
abbrev pub overhearing : State → ℕ → ℕ → ℕ → List ℕ → WithOutput OnuReceived
overhearing s u other k out = onu_receive_of (onu_at s u) (sent_at s other k).header (sent_at s other k).octets out

abbrev pub answer_at : State → ℕ → ℕ → Answered
answer_at s u k = get_or (lane_at s u).transit.answered k (record { acknowledgement = record { kind = 0; number = 0 }; tick = 0 })

unfoldable pub receipt_up : State → Envelope → List ℕ → Arrival
receipt_up s e out =
    record {
      envelope = e;
      number = (olt_receive_of s.olt e.header e.octets out).answer.number;
      count = (olt_receive_of s.olt e.header e.octets out).answer.count;
      runs = (olt_receive_of s.olt e.header e.octets out).answer.runs;
      output = (olt_receive_of s.olt e.header e.octets out).output;
      passage = (receiving_olt s.olt (misfit e.octets out) e.header).handed;
    }

unfoldable pub arriving_up : State → ℕ → ℕ → Envelope → List ℕ → State
arriving_up s u k e out =
    at_olt_for s u (olt_receive_of s.olt e.header e.octets out).answer.olt (lane_arrived_up k (receipt_up s e out))

unfoldable pub answering : State → ℕ → Acknowledgement → State
answering s llid a =
    at_olt s (acknowledge_of s.olt llid a).olt (acknowledge_of s.olt llid a).number llid (lane_acknowledged a)

-- both ends are told of the new path, before anything goes over it
unfoldable pub changing : State → ℕ → ℕ → ℕ → Delays → State
changing s u llid time p =
    record {
      olt = (measure_of s.olt llid (p.up + p.down)).olt;
      onus = set s.onus u (new_time_of (onu_at s u) time).onu;
      history = with_lanes s.history (set s.history.lanes u (lane_moved p s.history.now (lane_at s u)));
    }

-- a call that is told to no lane: it leaves what the end answers with
unfoldable pub unit_after : State → ℕ → Onu → State
unit_after s u o = record { olt = s.olt; onus = set s.onus u o; history = s.history }

unfoldable pub olt_after : State → Olt → State
olt_after s o = record { olt = o; onus = s.onus; history = s.history }

unfoldable pub step : State → Event → State
step s (advance n) = advancing s n
step s (register u i trip interval) =
    entering s u interval (register_of s.olt i trip interval).number (register_of s.olt i trip interval).olt
step s (capture llid) =
    at_olt s (capture_of s.olt llid).olt (capture_of s.olt llid).number llid (lane_captured s.history.now)
step s (clock_send llid) = clock_sending s llid (clock_send_of s.olt llid)
step s (offer llid key) = offering s llid key (offer_of s.olt llid key)
step s (retry llid) = retrying s llid (retry_of s.olt llid)
step s (send_down llid channel p out) = sending_down s llid channel p out
step s (send_up u llid channel p out) = sending_up s u llid channel p out
step s (arrive_down u k out) = in_flight_arriving s u k out (in_flight_at s u k)
step s (arrive_up u k out) = arriving_up s u k (envelope_at s u k) out
step s (arrive_answer u k llid) = answering s llid (answer_at s u k).acknowledgement
step s (overhear u other k out) = unit_after s u (overhearing s u other k out).answer.onu
step s (change_path u llid time p) = changing s u llid time p
step s (measure llid trip) = olt_after s (measure_of s.olt llid trip).olt
step s (new_time u time) = unit_after s u (new_time_of (onu_at s u) time).onu
step s (stray_clock u m) = unit_after s u (clock_message_at (onu_at s u) m).onu
step s (stray_key u m) = unit_after s u (key_message_at (onu_at s u) m).onu
step s (stray_answer llid a) = olt_after s (acknowledge_of s.olt llid a).olt
step s (stray_down u h p out) = unit_after s u (onu_receive_of (onu_at s u) h p out).answer.onu
step s (stray_up h p out) = olt_after s (olt_receive_of s.olt h p out).answer.olt

unfoldable pub run : State → List Event → State
run s [] = s
run s (e ∷ es) = run (step s e) es
