-- How a list of events runs: each event is the definition of its call, on the ends as the last call left them, and what it adds to the
-- history. A unit's own line notes it as without groups. Assumes nothing.
use Rattle.std.specs.Prelude.{true, false, List, [], ◌∷◌, ◌++◌, map, ℕ, ◌+◌, eqb, length, get_or, set, replicate}
use Rattle.octets.specs.Choice.{pick}
use Rattle.octets.specs.Output.{WithOutput}
use Rattle.envelope.specs.ControlMask.{eqs_of}
use Rattle.ends.specs.Identities.{no_identity}
use Rattle.ends.specs.Records.{new_onu}
use Rattle.protocol.specs.Headers.{no_sending, no_passage}
use Rattle.protocol.specs.OltTraffic.{sending_olt, receiving_olt}
use Rattle.protocol.specs.OnuTraffic.{sending_onu, receiving_onu}
use Rattle.protocol.specs.declared.Acknowledgement.{Acknowledgement}
use Rattle.protocol.specs.declared.ClockSent.{ClockSent}
use Rattle.protocol.specs.declared.KeySent.{KeySent}
use Rattle.protocol.specs.declared.KeyMessage.{KeyMessage}
use Rattle.protocol.specs.declared.Passage.{Passage}
use Rattle.traffic.specs.Passages.{misfit}
use Rattle.group_protocol.specs.Members.{roster_llids}
use Rattle.group_protocol.specs.Head.{find_group}
use Rattle.group_protocol.specs.GroupCalls.{send_group}
use Rattle.group_protocol.specs.Subscriber.{no_memberships, find_joined}
use Rattle.group_protocol.specs.JoinedCalls.{no_answer, receive_joined}
use Rattle.group_protocol.specs.declared.HeadEnd.{HeadEnd}
use Rattle.group_protocol.specs.declared.Subscriber.{Subscriber}
use Rattle.group_protocol.specs.declared.Roster.{Roster}
use Rattle.group_protocol.specs.declared.Answer.{Answer}
use Rattle.group_protocol.specs.Naming.{by_llid, group_lift}
use Rattle.headend.specs.HeadCalls.{fresh_head_of, head_register_of, register_group_of, head_advance_of, head_capture_of, head_measure_of, head_clock_send_of, head_offer_of, head_retry_of, head_acknowledge_of}
use Rattle.headend.specs.HeadTraffic.{send_ahead, head_send_of, head_receive_of}
use Rattle.subscriber.specs.SubscriberCalls.{fresh_subscriber_of, join_of, subscriber_advance_of, subscriber_new_time_of, subscriber_clock_message_of, subscriber_key_message_of, own_answer, joined_lift}
use Rattle.subscriber.specs.SubscriberTraffic.{subscriber_send_of, subscriber_receive_of}
use Rattle.headend.specs.declared.HeadClockSent.{HeadClockSent}
use Rattle.headend.specs.declared.HeadKeySent.{HeadKeySent}
use Rattle.subscriber.specs.declared.SubscriberAcknowledged.{SubscriberAcknowledged}
use Rattle.subscriber.specs.declared.SubscriberReceived.{SubscriberReceived}
use Rattle.unicast.specs.Setting.{Delays, Site, Setting}
use Rattle.unicast.specs.History as units
use Rattle.unicast.specs.History.{downward, upward, Envelope, InFlight, clock_message, key_message, envelope, Arrival, Lane, is_synced, number_down, lane_captured, lane_sent_down, lane_sent_up, lane_taken, lane_answered, lane_arrived_down, lane_arrived_up, lane_acknowledged}
use Rattle.unicast.specs.Run as run
use Rattle.unicast.specs.Run.{accepted, noted, at_olt, at_onu, at_olt_for, entering, clock_sending, offering, retrying, changing, lane_at, in_flight_at, envelope_at, sent_at, answer_at, no_envelope}
use Rattle.line.specs.History.{GroupAnswered, GroupArrival, GroupLane, Membership, History, no_path, group_number, group_offered, group_leaving, group_sent, group_taken, group_answered, group_arrived, group_moved, is_joined, has_taken, joining, taking}
use Rattle.line.specs.Events.{Event, advance, register, register_group, capture, clock_send, offer, retry, send_down, join, send_up, arrive_down, arrive_group, arrive_up, arrive_answer, arrive_group_answer, overhear, overhear_group, change_path, measure, new_time, stray_clock, stray_key, stray_answer, stray_down, stray_up}

-- the ends and the history
pub record State : Type 0 where
  pub head : HeadEnd
  pub subscribers : List Subscriber
  pub history : History

-- the OLT, the units and their own lines, without the groups
unfoldable pub alone : State → run.State
alone s =
    record { olt = s.head.olt; onus = map (λ (x : Subscriber). x.onu) s.subscribers; history = s.history.units }

---- the start: fresh ends, nothing has happened

unfoldable pub fresh_subscriber : Site → Subscriber
fresh_subscriber s = (fresh_subscriber_of s.identity s.oltmac s.time).subscriber

unfoldable pub start : Setting → State
start w =
    record {
      head = (fresh_head_of w.mac w.first).head;
      subscribers = map fresh_subscriber w.sites;
      history =
          record { units = (run.start w).history; joined = replicate (length w.sites) []; groups = [] };
    }

---- places that no unit and no group has

-- an end of zeros, which no call accepts
unfoldable pub no_subscriber : Subscriber
no_subscriber = record { onu = new_onu no_identity 0 0; memberships = no_memberships }

abbrev pub subscriber_at : State → ℕ → Subscriber
subscriber_at s u = get_or s.subscribers u no_subscriber

abbrev pub joined_by : State → ℕ → List Membership
joined_by s u = get_or s.history.joined u []

unfoldable pub no_group_lane : GroupLane
no_group_lane =
    record {
      llid = 0;
      entry = record { registered = false; place = 0; since = 0; interval = 0 };
      roster = [];
      keys = record { offers = []; acknowledged = false; switches = 0; switched = 0; number = 0 };
      towards = [];
      answered = [];
      sent = [];
      arrived = [];
    }

abbrev pub group_lane_at : State → ℕ → GroupLane
group_lane_at s g = get_or s.history.groups g no_group_lane

abbrev pub now : State → ℕ
now s = s.history.units.now

abbrev pub lanes : State → List Lane
lanes s = s.history.units.lanes

---- how a call is added

-- where the call was accepted, to the group that has the LLID
unfoldable pub noted_for : ℕ → ℕ → (GroupLane → GroupLane) → List GroupLane → List GroupLane
noted_for number llid f gs = map (λ (g : GroupLane). pick (accepted number) (pick (eqb g.llid llid) (f g) g) g) gs

-- a call on the head end
unfoldable pub at_head : State → HeadEnd → units.History → List GroupLane → State
at_head s h us gs =
    record { head = h; subscribers = s.subscribers; history = record { units = us; joined = s.history.joined; groups = gs } }

-- a call on a unit
unfoldable pub at_unit : State → ℕ → Subscriber → units.History → List (List Membership) → List GroupLane → State
at_unit s u x us js gs =
    record { head = s.head; subscribers = set s.subscribers u x; history = record { units = us; joined = js; groups = gs } }

-- a call on a unit of which only its own line is told
unfoldable pub at_unit_alone : State → ℕ → Subscriber → (Lane → Lane) → State
at_unit_alone s u x f = at_unit s u x (at_onu (alone s) u x.onu f).history s.history.joined s.history.groups

---- the events

unfoldable pub advancing : State → ℕ → State
advancing s n =
    record {
      head = (head_advance_of s.head n).head;
      subscribers = map (λ x. (subscriber_advance_of x n).subscriber) s.subscribers;
      history =
          record {
            units =
                record {
                  now = pick (accepted (head_advance_of s.head n).number) (now s + n) (now s);
                  registrations = s.history.units.registrations;
                  lanes = lanes s;
                };
            joined = s.history.joined;
            groups = s.history.groups;
          };
    }

unfoldable pub registering : State → ℕ → ℕ → ℕ → HeadEnd → State
registering s u interval number h = at_head s h (entering (alone s) u interval number h.olt).history s.history.groups

-- a group of that LLID, interval and roster, as it is registered
unfoldable pub new_group_lane : State → ℕ → ℕ → Roster → GroupLane
new_group_lane s llid interval r =
    record {
      llid = llid;
      entry = record { registered = true; place = length s.history.groups; since = now s; interval = interval };
      roster = roster_llids r;
      keys = record { offers = []; acknowledged = false; switches = 0; switched = now s; number = 0 };
      towards = replicate (length (lanes s)) [];
      answered = [];
      sent = [];
      arrived = [];
    }

unfoldable pub registering_group : State → ℕ → ℕ → Roster → State
registering_group s llid interval r =
    at_head s (register_group_of s.head llid interval r).head s.history.units
    (pick (accepted (register_group_of s.head llid interval r).number) (s.history.groups ++ (new_group_lane s llid interval r ∷ []))
    s.history.groups)

-- what a unit's line is told of a call: the answer without the groups
unfoldable pub clock_sent_alone : HeadClockSent → ClockSent
clock_sent_alone r = record { number = r.number; olt = r.head.olt; message = r.message }

unfoldable pub key_sent_alone : HeadKeySent → KeySent
key_sent_alone r = record { number = r.number; olt = r.head.olt; message = r.message }

unfoldable pub clock_sending_to : State → ℕ → HeadClockSent → State
clock_sending_to s llid r = at_head s r.head (clock_sending (alone s) llid (clock_sent_alone r)).history s.history.groups

unfoldable pub offering_to : State → ℕ → List ℕ → HeadKeySent → State
offering_to s llid key r =
    at_head s r.head (offering (alone s) llid key (key_sent_alone r)).history
    (noted_for r.number llid (λ g. group_leaving (lanes s) (key_message r.message (now s)) (group_offered key g)) s.history.groups)

unfoldable pub retrying_to : State → ℕ → HeadKeySent → State
retrying_to s llid r =
    at_head s r.head (retrying (alone s) llid (key_sent_alone r)).history
    (noted_for r.number llid (group_leaving (lanes s) (key_message r.message (now s))) s.history.groups)

-- what a send of the OLT sealed under
unfoldable pub head_passage : HeadEnd → ℕ → ℕ → List ℕ → List ℕ → Passage
head_passage h llid channel p out =
    by_llid (find_group h llid) (sending_olt h.olt (misfit p out) llid channel (eqs_of p)).handed.passage
    (λ i. (group_lift h no_sending (send_ahead p out channel) (λ o g. send_group llid channel (eqs_of p) o.shared g) i).handed.passage)

-- the envelope of the OLT's send at the tick now, by that path, under that number
unfoldable pub envelope_down : ℕ → Delays → HeadEnd → ℕ → ℕ → List ℕ → List ℕ → ℕ → Envelope
envelope_down tick path h llid channel p out number =
    record {
      direction = downward;
      left = tick;
      up = path.up;
      llid = llid;
      channel = channel;
      payload = p;
      header = (head_send_of h llid channel p out).answer.header;
      octets = (head_send_of h llid channel p out).output;
      count = (head_send_of h llid channel p out).answer.count;
      runs = (head_send_of h llid channel p out).answer.runs;
      passage = head_passage h llid channel p out;
      number = number;
    }

unfoldable pub sending_down : State → ℕ → ℕ → List ℕ → List ℕ → State
sending_down s llid channel p out =
    at_head s (head_send_of s.head llid channel p out).answer.head
    (at_olt (alone s) (head_send_of s.head llid channel p out).answer.head.olt (head_send_of s.head llid channel p out).answer.number llid
    (λ l. lane_sent_down (now s) (envelope_down (now s) l.path s.head llid channel p out (number_down l (now s))) l)
    ).history
    (noted_for (head_send_of s.head llid channel p out).answer.number llid
    (λ g. group_sent (now s) (lanes s) (envelope_down (now s) no_path s.head llid channel p out (group_number g (now s))) g)
    s.history.groups)

unfoldable pub joining_at : State → ℕ → ℕ → State
joining_at s u llid =
    at_unit s u (join_of (subscriber_at s u) llid).subscriber s.history.units
    (pick (accepted (join_of (subscriber_at s u) llid).number) (set s.history.joined u (joining llid (joined_by s u))) s.history.joined)
    s.history.groups

-- the envelope of a unit's send
unfoldable pub envelope_up : ℕ → Delays → Subscriber → ℕ → ℕ → List ℕ → List ℕ → ℕ → Envelope
envelope_up tick path x llid channel p out number =
    record {
      direction = upward;
      left = tick;
      up = path.up;
      llid = llid;
      channel = channel;
      payload = p;
      header = (subscriber_send_of x llid channel p out).answer.header;
      octets = (subscriber_send_of x llid channel p out).output;
      count = (subscriber_send_of x llid channel p out).answer.count;
      runs = (subscriber_send_of x llid channel p out).answer.runs;
      passage = (sending_onu x.onu (misfit p out) llid channel (eqs_of p)).handed.passage;
      number = number;
    }

unfoldable pub sending_up : State → ℕ → ℕ → ℕ → List ℕ → List ℕ → State
sending_up s u llid channel p out =
    at_unit_alone s u (subscriber_send_of (subscriber_at s u) llid channel p out).answer.subscriber
    (noted (subscriber_send_of (subscriber_at s u) llid channel p out).answer.number
    (λ l. lane_sent_up (envelope_up (now s) l.path (subscriber_at s u) llid channel p out l.keys.number) l))

-- an acknowledgement without the unit that it names
unfoldable pub answer_alone : Answer → Acknowledgement
answer_alone a = record { kind = a.kind; number = a.number }

-- the unit's answer to a message of its own that arrived
unfoldable pub message_arriving : State → ℕ → ℕ → SubscriberAcknowledged → State
message_arriving s u k r =
    at_unit_alone s u r.subscriber (λ l. noted r.number (lane_answered (answer_alone r.answer) (now s)) (lane_taken k l))

abbrev pub receiving : State → ℕ → Envelope → List ℕ → WithOutput SubscriberReceived
receiving s u e out = subscriber_receive_of (subscriber_at s u) e.header e.octets out

-- the receipt of an envelope that arrived for the unit
unfoldable pub receipt_down : State → ℕ → Envelope → List ℕ → Arrival
receipt_down s u e out =
    record {
      envelope = e;
      number = (receiving s u e out).answer.number;
      count = (receiving s u e out).answer.count;
      runs = (receiving s u e out).answer.runs;
      output = (receiving s u e out).output;
      passage = (receiving_onu (subscriber_at s u).onu (misfit e.octets out) e.header).handed;
    }

unfoldable pub in_flight_arriving : State → ℕ → ℕ → List ℕ → InFlight → State
in_flight_arriving s u k out (clock_message m c t) = message_arriving s u k (subscriber_clock_message_of (subscriber_at s u) m)
in_flight_arriving s u k out (key_message m t) = message_arriving s u k (subscriber_key_message_of (subscriber_at s u) m)
in_flight_arriving s u k out (envelope e) =
    at_unit_alone s u (receiving s u e out).answer.subscriber (λ l. lane_arrived_down (receipt_down s u e out) (lane_taken k l))

---- of groups

abbrev pub group_in_flight_at : State → ℕ → ℕ → ℕ → InFlight
group_in_flight_at s u g k = get_or (get_or (group_lane_at s g).towards u []) k (envelope no_envelope)

-- the unit's answer to a group's key message that arrived
unfoldable pub group_message_arriving : State → ℕ → ℕ → ℕ → KeyMessage → SubscriberAcknowledged → State
group_message_arriving s u g k m r =
    at_unit s u r.subscriber s.history.units
    (pick (accepted r.number) (set s.history.joined u (taking m.llid m.number (joined_by s u))) s.history.joined)
    (set s.history.groups g
    (pick (accepted r.number) (group_answered (record { unit = u; answer = r.answer; tick = now s }) (group_taken u k (group_lane_at s g)))
    (group_taken u k (group_lane_at s g))))

-- what a group's envelope is opened under at a unit that joined the group
unfoldable pub group_passage : Subscriber → Envelope → List ℕ → Passage
group_passage x e out =
    by_llid (find_joined x e.header.llid) (receiving_onu x.onu (misfit e.octets out) e.header).handed
    (λ i. (joined_lift x no_passage (receive_joined (misfit e.octets out) e.header) i).handed)

unfoldable pub group_receipt : State → ℕ → Envelope → List ℕ → GroupArrival
group_receipt s u e out =
    record {
      unit = u;
      envelope = e;
      joined = is_joined (joined_by s u) e.llid;
      took = has_taken (joined_by s u) e.llid e.number;
      synced = is_synced (lane_at (alone s) u);
      number = (receiving s u e out).answer.number;
      count = (receiving s u e out).answer.count;
      runs = (receiving s u e out).answer.runs;
      output = (receiving s u e out).output;
      passage = group_passage (subscriber_at s u) e out;
    }

-- no clock message is a group's
unfoldable pub group_in_flight_arriving : State → ℕ → ℕ → ℕ → List ℕ → InFlight → State
group_in_flight_arriving s u g k out (clock_message m c t) = s
group_in_flight_arriving s u g k out (key_message m t) = group_message_arriving s u g k m (subscriber_key_message_of (subscriber_at s u) m)
group_in_flight_arriving s u g k out (envelope e) =
    at_unit s u (receiving s u e out).answer.subscriber s.history.units s.history.joined
    (set s.history.groups g (group_arrived (group_receipt s u e out) (group_taken u k (group_lane_at s g))))

abbrev pub group_answer_at : State → ℕ → ℕ → GroupAnswered
group_answer_at s g k = get_or (group_lane_at s g).answered k (record { unit = 0; answer = no_answer; tick = 0 })

---- what arrives at the OLT

unfoldable pub receipt_up : State → Envelope → List ℕ → Arrival
receipt_up s e out =
    record {
      envelope = e;
      number = (head_receive_of s.head e.header e.octets out).answer.number;
      count = (head_receive_of s.head e.header e.octets out).answer.count;
      runs = (head_receive_of s.head e.header e.octets out).answer.runs;
      output = (head_receive_of s.head e.header e.octets out).output;
      passage = (receiving_olt s.head.olt (misfit e.octets out) e.header).handed;
    }

unfoldable pub arriving_up : State → ℕ → ℕ → Envelope → List ℕ → State
arriving_up s u k e out =
    at_head s (head_receive_of s.head e.header e.octets out).answer.head
    (at_olt_for (alone s) u (head_receive_of s.head e.header e.octets out).answer.head.olt (lane_arrived_up k (receipt_up s e out))).history
    s.history.groups

unfoldable pub answering : State → ℕ → Acknowledgement → State
answering s llid a =
    at_head s (head_acknowledge_of s.head llid (own_answer a)).head
    (at_olt (alone s) (head_acknowledge_of s.head llid (own_answer a)).head.olt (head_acknowledge_of s.head llid (own_answer a)).number llid
    (lane_acknowledged a)
    ).history
    s.history.groups

---- a unit's path changes (02, C-16)

-- both ends are told of the new path, before anything goes over it; what is under way to the unit is lost, of groups too
unfoldable pub changing_path : State → ℕ → ℕ → ℕ → Delays → State
changing_path s u llid time p =
    record {
      head = (head_measure_of s.head llid (p.up + p.down)).head;
      subscribers = set s.subscribers u (subscriber_new_time_of (subscriber_at s u) time).subscriber;
      history =
          record {
            units = (changing (alone s) u llid time p).history;
            joined = s.history.joined;
            groups = map (group_moved u (now s)) s.history.groups;
          };
    }

---- a call that is told to no line: it leaves what the end answers with

unfoldable pub subscriber_after : State → ℕ → Subscriber → State
subscriber_after s u x = record { head = s.head; subscribers = set s.subscribers u x; history = s.history }

unfoldable pub head_after : State → HeadEnd → State
head_after s h = record { head = h; subscribers = s.subscribers; history = s.history }

-- the kth envelope that was sent to a group
abbrev pub group_sent_at : State → ℕ → ℕ → Envelope
group_sent_at s g k = get_or (group_lane_at s g).sent k no_envelope

unfoldable pub step : State → Event → State
step s (advance n) = advancing s n
step s (register u i trip interval) =
    registering s u interval (head_register_of s.head i trip interval).number (head_register_of s.head i trip interval).head
step s (register_group llid interval r) = registering_group s llid interval r
step s (capture llid) =
    at_head s (head_capture_of s.head llid).head
    (at_olt (alone s) (head_capture_of s.head llid).head.olt (head_capture_of s.head llid).number llid (lane_captured (now s))).history
    s.history.groups
step s (clock_send llid) = clock_sending_to s llid (head_clock_send_of s.head llid)
step s (offer llid key) = offering_to s llid key (head_offer_of s.head llid key)
step s (retry llid) = retrying_to s llid (head_retry_of s.head llid)
step s (send_down llid channel p out) = sending_down s llid channel p out
step s (join u llid) = joining_at s u llid
step s (send_up u llid channel p out) = sending_up s u llid channel p out
step s (arrive_down u k out) = in_flight_arriving s u k out (in_flight_at (alone s) u k)
step s (arrive_group u g k out) = group_in_flight_arriving s u g k out (group_in_flight_at s u g k)
step s (arrive_up u k out) = arriving_up s u k (envelope_at (alone s) u k) out
step s (arrive_answer u k llid) = answering s llid (answer_at (alone s) u k).acknowledgement
step s (arrive_group_answer g k) = head_after s (head_acknowledge_of s.head (group_lane_at s g).llid (group_answer_at s g k).answer).head
step s (overhear u other k out) = subscriber_after s u (receiving s u (sent_at (alone s) other k) out).answer.subscriber
step s (overhear_group u g k out) = subscriber_after s u (receiving s u (group_sent_at s g k) out).answer.subscriber
step s (change_path u llid time p) = changing_path s u llid time p
step s (measure llid trip) = head_after s (head_measure_of s.head llid trip).head
step s (new_time u time) = subscriber_after s u (subscriber_new_time_of (subscriber_at s u) time).subscriber
step s (stray_clock u m) = subscriber_after s u (subscriber_clock_message_of (subscriber_at s u) m).subscriber
step s (stray_key u m) = subscriber_after s u (subscriber_key_message_of (subscriber_at s u) m).subscriber
step s (stray_answer llid a) = head_after s (head_acknowledge_of s.head llid a).head
step s (stray_down u h p out) = subscriber_after s u (subscriber_receive_of (subscriber_at s u) h p out).answer.subscriber
step s (stray_up h p out) = head_after s (head_receive_of s.head h p out).answer.head

unfoldable pub runs : State → List Event → State
runs s [] = s
runs s (e ∷ es) = runs (step s e) es
