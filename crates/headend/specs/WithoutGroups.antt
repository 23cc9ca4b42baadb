-- A head end without groups is its OLT: each call answers as the OLT's own does, and what the OLT answers stands in the head end (02, C-14).
-- Assumes nothing.
use Rattle.std.specs.Prelude.{List, ◌≡◌, ℕ}
use Rattle.octets.specs.Output.{WithOutput, with_output}
use Rattle.ends.specs.declared.Identity.{Identity}
use Rattle.protocol.specs.OltCalls.{acknowledge_of, advance_olt_of, capture_of, clock_send_of, measure_of, offer_of, register_of, retry_of}
use Rattle.protocol.specs.declared.ClockSent.{ClockSent}
use Rattle.protocol.specs.declared.Header.{Header}
use Rattle.protocol.specs.declared.KeySent.{KeySent}
use Rattle.protocol.specs.declared.OltAnswer.{OltAnswer}
use Rattle.traffic.specs.Receipts.{olt_receive_of}
use Rattle.traffic.specs.Sends.{olt_send_of}
use Rattle.traffic.specs.declared.OltReceived.{OltReceived}
use Rattle.traffic.specs.declared.OltSent.{OltSent}
use Rattle.group_protocol.specs.Head.{with_olt}
use Rattle.group_protocol.specs.declared.Answer.{Answer}
use Rattle.group_protocol.specs.declared.HeadEnd.{HeadEnd}
use Rattle.headend.specs.HeadCalls.{head_acknowledge_of, head_advance_of, head_capture_of, head_clock_send_of, head_measure_of, head_offer_of, head_register_of, head_retry_of, own_acknowledgement}
use Rattle.headend.specs.HeadTraffic.{head_receive_of, head_send_of}
use Rattle.headend.specs.declared.HeadAnswer.{HeadAnswer}
use Rattle.headend.specs.declared.HeadClockSent.{HeadClockSent}
use Rattle.headend.specs.declared.HeadKeySent.{HeadKeySent}
use Rattle.headend.specs.declared.HeadReceived.{HeadReceived}
use Rattle.headend.specs.declared.HeadSent.{HeadSent}

---- the OLT's answers, standing in the head end

abbrev pub answered_in : HeadEnd → OltAnswer → HeadAnswer
answered_in h r = record { number = r.number; head = with_olt h r.olt }

abbrev pub clock_sent_in : HeadEnd → ClockSent → HeadClockSent
clock_sent_in h r = record { number = r.number; head = with_olt h r.olt; message = r.message }

abbrev pub key_sent_in : HeadEnd → KeySent → HeadKeySent
key_sent_in h r = record { number = r.number; head = with_olt h r.olt; message = r.message }

abbrev pub sent_in : HeadEnd → WithOutput OltSent → WithOutput HeadSent
sent_in h r =
    with_output
    (record {
      number = r.answer.number;
      head = with_olt h r.answer.olt;
      header = r.answer.header;
      count = r.answer.count;
      runs = r.answer.runs;
    })
    r.output

abbrev pub received_in : HeadEnd → WithOutput OltReceived → WithOutput HeadReceived
received_in h r =
    with_output
    (record { number = r.answer.number; head = with_olt h r.answer.olt; count = r.answer.count; runs = r.answer.runs })
    r.output

---- call by call

pub record AsOlt (h : HeadEnd) : Type 0 where
  pub register : (i : Identity) (trip interval : ℕ) → head_register_of h i trip interval ≡ answered_in h (register_of h.olt i trip interval)
  pub advance : (n : ℕ) → head_advance_of h n ≡ answered_in h (advance_olt_of h.olt n)
  pub capture : (llid : ℕ) → head_capture_of h llid ≡ answered_in h (capture_of h.olt llid)
  pub measure : (llid trip : ℕ) → head_measure_of h llid trip ≡ answered_in h (measure_of h.olt llid trip)
  pub clock_send : (llid : ℕ) → head_clock_send_of h llid ≡ clock_sent_in h (clock_send_of h.olt llid)
  pub offer : (llid : ℕ) (key : List ℕ) → head_offer_of h llid key ≡ key_sent_in h (offer_of h.olt llid key)
  pub retry : (llid : ℕ) → head_retry_of h llid ≡ key_sent_in h (retry_of h.olt llid)
  pub acknowledge : (llid : ℕ) (a : Answer) → head_acknowledge_of h llid a ≡ answered_in h (acknowledge_of h.olt llid (own_acknowledgement a))
  pub send : (llid channel : ℕ) (p out : List ℕ) → head_send_of h llid channel p out ≡ sent_in h (olt_send_of h.olt llid channel p out)
  pub receive : (header : Header) (p out : List ℕ) → head_receive_of h header p out ≡ received_in h (olt_receive_of h.olt header p out)

pub record WithoutGroups : Type 0 where
  pub as_olt : (h : HeadEnd) → h.groups.count ≡ 0 → AsOlt h
