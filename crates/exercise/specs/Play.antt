-- How a script is played (02, C-23): each step is made of the calls of both ends, whose definitions these are. Ends are fresh, one unit
-- is registered, both delays are 0, and envelopes have no EQs and go on channel 0. Assumes nothing.
use Rattle.std.specs.Prelude.{Bool, not, List, [], ◌∷◌, ℕ, zero, suc, eqb, replicate, Option, Some, None}
use Rattle.octets.specs.Choice.{both, either, pick}
use Rattle.protocol.specs.declared.Acknowledgement.{Acknowledgement}
use Rattle.protocol.specs.declared.ClockSent.{ClockSent}
use Rattle.ends.specs.declared.Identity.{Identity}
use Rattle.protocol.specs.declared.KeySent.{KeySent}
use Rattle.ends.specs.declared.Olt.{Olt}
use Rattle.ends.specs.declared.Onu.{Onu}
use Rattle.protocol.specs.declared.OnuAcknowledged.{OnuAcknowledged}
use Rattle.protocol.specs.Messages.{no_acknowledgement}
use Rattle.protocol.specs.OltCalls.{fresh_olt_of, register_of, advance_olt_of, capture_of, clock_send_of, offer_of, retry_of, acknowledge_of}
use Rattle.protocol.specs.OnuCalls.{fresh_onu_of, advance_onu_of, clock_message_at, key_message_at}
use Rattle.ends.specs.Table.{unit_at}
use Rattle.traffic.specs.declared.OltSent.{OltSent}
use Rattle.traffic.specs.declared.OnuSent.{OnuSent}
use Rattle.traffic.specs.Sends.{olt_send_of, onu_send_of}
use Rattle.traffic.specs.Receipts.{olt_receive_of, onu_receive_of}
use Rattle.exercise.specs.declared.Kind.{Kind}
use Rattle.exercise.specs.declared.Kind.TheVariants.{ClockMessage, Offer, Retry, ClockAnswer, KeyAnswer, EnvelopeDown, EnvelopeUp, Advance}
use Rattle.exercise.specs.declared.Step.{Step}
use Rattle.exercise.specs.declared.Play.{Play}
use Rattle.exercise.specs.declared.Figures.{Figures}
use Rattle.exercise.specs.Script.{interval_of, steps_in, step_at}

---- the ends at the start (D101)

abbrev pub olt_mac : ℕ
olt_mac = 0x020000000001

abbrev pub unit_mac : ℕ
unit_mac = 0x020000000002

abbrev pub unit_llid : ℕ
unit_llid = 1

abbrev pub unit_identity : Identity
unit_identity = record { mac = unit_mac; llids = unit_llid ∷ 0 ∷ 0 ∷ 0 ∷ []; count = 1 }

-- the first clock of the OLT and LocalTime are 0; no message has been answered
unfoldable pub started : ℕ → Play
started interval =
    record {
      olt = (register_of (fresh_olt_of olt_mac 0).olt unit_identity 0 interval).olt;
      onu = (fresh_onu_of unit_identity olt_mac 0).onu;
      clock = no_acknowledgement;
      key = no_acknowledgement;
    }

-- the key that step k offers, k counted from 1: no two steps offer the same
unfoldable pub key_of_step : ℕ → List ℕ
key_of_step k = k ∷ replicate 15 0

---- a play with a part replaced

unfoldable pub with_olt : Play → Olt → Play
with_olt p o = record { olt = o; onu = p.onu; clock = p.clock; key = p.key }

unfoldable pub with_onu : Play → Onu → Play
with_onu p o = record { olt = p.olt; onu = o; clock = p.clock; key = p.key }

unfoldable pub with_clock_answer : Play → Acknowledgement → Play
with_clock_answer p a = record { olt = p.olt; onu = p.onu; clock = a; key = p.key }

unfoldable pub with_key_answer : Play → Acknowledgement → Play
with_key_answer p a = record { olt = p.olt; onu = p.onu; clock = p.clock; key = a }

---- the steps: what is lost was sent all the same, and is not received

-- acceptance returns 0; what is handed over then arrives, unless it is lost
abbrev pub arrives : ℕ → Bool → Bool
arrives number lost = both (not lost) (eqb number 0)

-- the unit's answer to a clock message, none where it refuses
unfoldable pub clock_answered : Play → OnuAcknowledged → Play
clock_answered p r = with_clock_answer (with_onu p r.onu) r.acknowledgement

-- captured and sent in one step
unfoldable pub clock_sent : Play → ClockSent → Bool → Play
clock_sent p r lost =
    pick (arrives r.number lost) (clock_answered (with_olt p r.olt) (clock_message_at p.onu r.message))
    (with_clock_answer (with_olt p r.olt) no_acknowledgement)

unfoldable pub clock_stepped : Play → Bool → Play
clock_stepped p lost = clock_sent p (clock_send_of (capture_of p.olt unit_llid).olt unit_llid) lost

-- the unit's answer to a key message, none where it refuses
unfoldable pub key_answered : Play → OnuAcknowledged → Play
key_answered p r = with_key_answer (with_onu p r.onu) r.acknowledgement

-- the message of an offer or of a retry
unfoldable pub key_sent : Play → KeySent → Bool → Play
key_sent p r lost =
    pick (arrives r.number lost) (key_answered (with_olt p r.olt) (key_message_at p.onu r.message))
    (with_key_answer (with_olt p r.olt) no_acknowledgement)

-- an answer to the latest message of its kind: there is none where that is missing, was lost or was refused at either end
unfoldable pub answered : Play → Acknowledgement → Bool → Play
answered p a lost =
    pick (either lost (eqb a.kind 0)) p (with_olt p (acknowledge_of p.olt unit_llid a).olt)

unfoldable pub sent_down : Play → OltSent → Bool → Play
sent_down p r lost =
    pick (arrives r.number lost) (with_onu (with_olt p r.olt) (onu_receive_of p.onu r.header [] []).answer.onu)
    (with_olt p r.olt)

unfoldable pub sent_up : Play → OnuSent → Bool → Play
sent_up p r lost =
    pick (arrives r.number lost) (with_olt (with_onu p r.onu) (olt_receive_of p.olt r.header [] []).answer.olt)
    (with_onu p r.onu)

-- by both ends; it can't be lost (D102)
unfoldable pub advanced : Play → ℕ → Play
advanced p n = with_onu (with_olt p (advance_olt_of p.olt n).olt) (advance_onu_of p.onu n).onu

-- the channel indices of the first channel, down and up
abbrev pub channel_down : ℕ
channel_down = 0x00

abbrev pub channel_up : ℕ
channel_up = 0x80

-- step k, counted from 1, by its kind
abbrev pub stepped_by : Kind → ℕ → ℕ → Bool → Play → Play
stepped_by ClockMessage ticks k lost p = clock_stepped p lost
stepped_by Offer ticks k lost p = key_sent p (offer_of p.olt unit_llid (key_of_step k)) lost
stepped_by Retry ticks k lost p = key_sent p (retry_of p.olt unit_llid) lost
stepped_by ClockAnswer ticks k lost p = answered p p.clock lost
stepped_by KeyAnswer ticks k lost p = answered p p.key lost
stepped_by EnvelopeDown ticks k lost p = sent_down p (olt_send_of p.olt unit_llid channel_down [] []).answer lost
stepped_by EnvelopeUp ticks k lost p = sent_up p (onu_send_of p.onu unit_llid channel_up [] []).answer lost
stepped_by Advance ticks k lost p = advanced p ticks

-- one of a kind that there is not does nothing
unfoldable pub stepped : Option Step → ℕ → Bool → Play → Play
stepped (Some x) k lost p = stepped_by x.kind x.ticks k lost p
stepped None k lost p = p

-- the m steps from step i on, of which step `lost`, counted from 1, is lost; 0 is none
unfoldable pub played_from : List ℕ → ℕ → ℕ → ℕ → Play → Play
played_from s lost i zero p = p
played_from s lost i (suc m) p = played_from s lost (suc i) m (stepped (step_at s i) (suc i) (eqb (suc i) lost) p)

unfoldable pub played : List ℕ → ℕ → Play
played s lost = played_from s lost 0 (steps_in s) (started (interval_of s))

-- A, C and a
unfoldable pub figures_of : Play → Figures
figures_of p =
    record {
      active = (unit_at p.olt 0).keys.active;
      confirmed = (unit_at p.olt 0).confirmation.confirmed;
      unit = p.onu.keys.active;
    }
