-- What has come to pass on each unit's line, from the calls and their answers alone: no field of an end's record is read here
-- (01, The line; D62). Assumes nothing.
use Rattle.std.specs.Prelude.{Bool, true, false, List, [], ◌∷◌, ◌++◌, ℕ, suc, ◌+◌, ◌-◌, ◌/◌, eqb, ltb, length, get_or, drop}
use Rattle.octets.specs.Choice.{both, either, pick}
use Rattle.clock.specs.declared.Stamps.{Stamps}
use Rattle.protocol.specs.Messages.{clock_kind, key_kind}
use Rattle.protocol.specs.declared.Acknowledgement.{Acknowledgement}
use Rattle.protocol.specs.declared.Header.{Header}
use Rattle.protocol.specs.declared.KeyMessage.{KeyMessage}
use Rattle.protocol.specs.declared.Passage.{Passage}
use Rattle.unicast.specs.Setting.{Delays, Site}

-- which way an envelope goes
pub data Direction : Type 0 where
  downward : Direction
  upward : Direction

-- an envelope that an accepted send handed over: its tick, the unit's delay up at that tick, what it was sent with, what was handed
-- over, what it was sealed with, its number
pub record Envelope : Type 0 where
  pub direction : Direction
  pub left : ℕ
  pub up : ℕ
  pub llid : ℕ
  pub channel : ℕ
  pub payload : List ℕ
  pub header : Header
  pub octets : List ℕ
  pub count : ℕ
  pub runs : ℕ
  pub passage : Passage
  pub number : ℕ

-- what is under way to a unit, with the tick at which it left; a clock message also with the tick of its capture
pub data InFlight : Type 0 where
  clock_message : Stamps → ℕ → ℕ → InFlight
  key_message : KeyMessage → ℕ → InFlight
  envelope : Envelope → InFlight

abbrev pub left_at : InFlight → ℕ
left_at (clock_message m c t) = t
left_at (key_message m t) = t
left_at (envelope e) = e.left

-- an acknowledgement that an accepted call of the unit handed over, and when
pub record Answered : Type 0 where
  pub acknowledgement : Acknowledgement
  pub tick : ℕ

-- an envelope that arrived where it is meant for: the number, count, runs of the cipher and output of its receipt, and what it was opened with
pub record Arrival : Type 0 where
  pub envelope : Envelope
  pub number : ℕ
  pub count : ℕ
  pub runs : ℕ
  pub output : List ℕ
  pub passage : Passage

-- the registration of a unit: how many came before it, its tick and its interval
pub record Entry : Type 0 where
  pub registered : Bool
  pub place : ℕ
  pub since : ℕ
  pub interval : ℕ

-- the unit's keys
pub record Keys : Type 0 where
  -- the keys of the accepted offers, in order; whether the last one has an accepted acknowledgement
  pub offers : List (List ℕ)
  pub acknowledged : Bool
  -- the switches so far; the tick of the last, or of the registration
  pub switches : ℕ
  pub switched : ℕ
  -- the number of the last envelope that arrived for the unit, at first 0
  pub number : ℕ

-- what has left and may still arrive, in order, and the unit's acknowledgements
pub record Transit : Type 0 where
  pub towards : List InFlight
  pub from : List Envelope
  pub answered : List Answered

-- every accepted send, and every envelope that arrived where it was meant for
pub record Past : Type 0 where
  pub sent : List Envelope
  pub arrived : List Arrival

-- one unit's line; path is its present one, captured the tick of the last accepted capture
pub record Lane : Type 0 where
  pub site : Site
  pub path : Delays
  pub entry : Entry
  pub captured : ℕ
  pub keys : Keys
  pub transit : Transit
  pub past : Past

pub record History : Type 0 where
  -- the ticks of the accepted advances, and the accepted registrations
  pub now : ℕ
  pub registrations : ℕ
  pub lanes : List Lane

-- the nth accepted offer gives key n
abbrev pub key_of : Keys → ℕ → List ℕ
key_of k n = get_or k.offers (n - 1) []

-- a multiple of the interval since registration was reached after the last switch
unfoldable pub due : Entry → Keys → ℕ → Bool
due r k now = ltb ((k.switched - r.since) / r.interval) ((now - r.since) / r.interval)

-- an accepted send to the unit is a switch: there is an offer more than switches, acknowledged, and it is due
unfoldable pub switching : Lane → ℕ → Bool
switching l now =
    both (ltb l.keys.switches (length l.keys.offers)) (both l.keys.acknowledged (due l.entry l.keys now))

-- the number of an OLT envelope counts the switches to its unit so far, its own too
unfoldable pub number_down : Lane → ℕ → ℕ
number_down l now = pick (switching l now) (l.keys.switches + 1) l.keys.switches

---- what an accepted call or an arrival adds to a lane, at the tick now

unfoldable pub lane_with : Lane → Keys → Transit → Past → Lane
lane_with l k t p = record { site = l.site; path = l.path; entry = l.entry; captured = l.captured; keys = k; transit = t; past = p }

unfoldable pub lane_registered : ℕ → ℕ → ℕ → Lane → Lane
lane_registered place now interval l =
    record {
      site = l.site;
      path = l.path;
      entry = record { registered = true; place = place; since = now; interval = interval };
      captured = l.captured;
      keys =
          record {
            offers = l.keys.offers;
            acknowledged = l.keys.acknowledged;
            switches = l.keys.switches;
            switched = now;
            number = l.keys.number;
          };
      transit = l.transit;
      past = l.past;
    }

unfoldable pub lane_captured : ℕ → Lane → Lane
lane_captured now l =
    record { site = l.site; path = l.path; entry = l.entry; captured = now; keys = l.keys; transit = l.transit; past = l.past }

-- a message or an envelope leaves for the unit
unfoldable pub leaving : Transit → InFlight → Transit
leaving t x = record { towards = t.towards ++ (x ∷ []); from = t.from; answered = t.answered }

unfoldable pub lane_leaving : InFlight → Lane → Lane
lane_leaving x l = lane_with l l.keys (leaving l.transit x) l.past

unfoldable pub lane_offered : List ℕ → Lane → Lane
lane_offered key l =
    lane_with l
    (record {
      offers = l.keys.offers ++ (key ∷ []);
      acknowledged = false;
      switches = l.keys.switches;
      switched = l.keys.switched;
      number = l.keys.number;
    })
    l.transit l.past

-- an accepted acknowledgement: it counts where it is the last offer's
unfoldable pub lane_acknowledged : Acknowledgement → Lane → Lane
lane_acknowledged a l =
    lane_with l
    (record {
      offers = l.keys.offers;
      acknowledged =
          pick (both (eqb a.kind key_kind) (eqb a.number (length l.keys.offers))) true l.keys.acknowledged;
      switches = l.keys.switches;
      switched = l.keys.switched;
      number = l.keys.number;
    })
    l.transit l.past

unfoldable pub sending : Past → Envelope → Past
sending p e = record { sent = p.sent ++ (e ∷ []); arrived = p.arrived }

-- an envelope that the OLT sent to the unit; where it is a switch, that is counted
unfoldable pub lane_sent_down : ℕ → Envelope → Lane → Lane
lane_sent_down now e l =
    lane_with l
    (record {
      offers = l.keys.offers;
      acknowledged = l.keys.acknowledged;
      switches = e.number;
      switched = pick (switching l now) now l.keys.switched;
      number = l.keys.number;
    })
    (leaving l.transit (envelope e)) (sending l.past e)

-- an envelope that the unit sent
unfoldable pub lane_sent_up : Envelope → Lane → Lane
lane_sent_up e l =
    lane_with l l.keys
    (record { towards = l.transit.towards; from = l.transit.from ++ (e ∷ []); answered = l.transit.answered })
    (sending l.past e)

-- the kth of what is under way to the unit arrives: what left before it and has not arrived is lost
unfoldable pub lane_taken : ℕ → Lane → Lane
lane_taken k l =
    lane_with l l.keys
    (record { towards = drop (suc k) l.transit.towards; from = l.transit.from; answered = l.transit.answered })
    l.past

-- the unit's accepted call handed over an acknowledgement
unfoldable pub lane_answered : Acknowledgement → ℕ → Lane → Lane
lane_answered a now l =
    lane_with l l.keys
    (record {
      towards = l.transit.towards;
      from = l.transit.from;
      answered = l.transit.answered ++ (record { acknowledgement = a; tick = now } ∷ []);
    })
    l.past

unfoldable pub arriving : Past → Arrival → Past
arriving p r = record { sent = p.sent; arrived = p.arrived ++ (r ∷ []) }

-- an envelope arrived for the unit: its number is the unit's
unfoldable pub lane_arrived_down : Arrival → Lane → Lane
lane_arrived_down r l =
    lane_with l
    (record {
      offers = l.keys.offers;
      acknowledged = l.keys.acknowledged;
      switches = l.keys.switches;
      switched = l.keys.switched;
      number = r.envelope.number;
    })
    l.transit (arriving l.past r)

-- the kth of the unit's envelopes under way arrived at the OLT
unfoldable pub lane_arrived_up : ℕ → Arrival → Lane → Lane
lane_arrived_up k r l =
    lane_with l l.keys
    (record { towards = l.transit.towards; from = drop (suc k) l.transit.from; answered = l.transit.answered })
    (arriving l.past r)

---- the path changes (02, C-16)

-- the acknowledgement of a key may leave again over the new path; that of a clock message is gone for good
unfoldable pub leaves_again : Answered → Bool
leaves_again x = eqb x.acknowledgement.kind key_kind

-- what may leave again does so from now on
unfoldable pub key_answers : ℕ → List Answered → List Answered
key_answers now [] = []
key_answers now (x ∷ xs) =
    pick (leaves_again x) (record { acknowledgement = x.acknowledgement; tick = now } ∷ key_answers now xs) (key_answers now xs)

-- a clock message has been answered
unfoldable pub clock_answered : List Answered → Bool
clock_answered [] = false
clock_answered (x ∷ xs) = either (eqb x.acknowledgement.kind clock_kind) (clock_answered xs)

-- since its path last changed the unit has taken a clock message (D48)
abbrev pub is_synced : Lane → Bool
is_synced l = clock_answered l.transit.answered

-- what is under way is lost, both ways
unfoldable pub lane_moved : Delays → ℕ → Lane → Lane
lane_moved p now l =
    record {
      site = l.site;
      path = p;
      entry = l.entry;
      captured = l.captured;
      keys = l.keys;
      transit = record { towards = []; from = []; answered = key_answers now l.transit.answered };
      past = l.past;
    }
