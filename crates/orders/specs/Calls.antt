-- The OLT's calls that name a unit or a group, registrations apart (02, C-22): what each answers, and the record that it leaves. Both are
-- those of the calls' contracts. Assumes nothing.
use Rattle.std.specs.Prelude.{List, ℕ}
use Rattle.octets.specs.Output.{WithOutput}
use Rattle.clock.specs.declared.Stamps.{Stamps}
use Rattle.protocol.specs.declared.Header.{Header}
use Rattle.protocol.specs.declared.KeyMessage.{KeyMessage}
use Rattle.group_protocol.specs.declared.Answer.{Answer}
use Rattle.group_protocol.specs.declared.HeadEnd.{HeadEnd}
use Rattle.headend.specs.HeadCalls.{head_acknowledge_of, head_capture_of, head_clock_send_of, head_measure_of, head_offer_of, head_retry_of}
use Rattle.headend.specs.HeadTraffic.{head_receive_of, head_send_of}
use Rattle.headend.specs.declared.HeadAnswer.{HeadAnswer}
use Rattle.headend.specs.declared.HeadClockSent.{HeadClockSent}
use Rattle.headend.specs.declared.HeadKeySent.{HeadKeySent}
use Rattle.headend.specs.declared.HeadReceived.{HeadReceived}
use Rattle.headend.specs.declared.HeadSent.{HeadSent}

pub data Call : Type 0 where
  capture : (llid : ℕ) → Call
  measure : (llid trip : ℕ) → Call
  clock_send : (llid : ℕ) → Call
  offer : (llid : ℕ) (key : List ℕ) → Call
  retry : (llid : ℕ) → Call
  acknowledge : (llid : ℕ) (answer : Answer) → Call
  send : (llid channel : ℕ) (payload output : List ℕ) → Call
  receive : (header : Header) (payload output : List ℕ) → Call

-- what a call answers, the record apart
pub data Told : Type 0 where
  answered : (number : ℕ) → Told
  clock_sent : (number : ℕ) (message : Stamps) → Told
  key_sent : (number : ℕ) (message : KeyMessage) → Told
  sent : (number : ℕ) (header : Header) (count runs : ℕ) (output : List ℕ) → Told
  received : (number count runs : ℕ) (output : List ℕ) → Told

pub record Made : Type 0 where
  pub told : Told
  pub head : HeadEnd

abbrev pub made_answer : HeadAnswer → Made
made_answer r = record { told = answered r.number; head = r.head }

abbrev pub made_clock_sent : HeadClockSent → Made
made_clock_sent r = record { told = clock_sent r.number r.message; head = r.head }

abbrev pub made_key_sent : HeadKeySent → Made
made_key_sent r = record { told = key_sent r.number r.message; head = r.head }

abbrev pub made_sent : WithOutput HeadSent → Made
made_sent r =
    record {
      told = sent r.answer.number r.answer.header r.answer.count r.answer.runs r.output;
      head = r.answer.head;
    }

abbrev pub made_received : WithOutput HeadReceived → Made
made_received r =
    record { told = received r.answer.number r.answer.count r.answer.runs r.output; head = r.answer.head }

unfoldable pub made : HeadEnd → Call → Made
made h (capture llid) = made_answer (head_capture_of h llid)
made h (measure llid trip) = made_answer (head_measure_of h llid trip)
made h (clock_send llid) = made_clock_sent (head_clock_send_of h llid)
made h (offer llid key) = made_key_sent (head_offer_of h llid key)
made h (retry llid) = made_key_sent (head_retry_of h llid)
made h (acknowledge llid answer) = made_answer (head_acknowledge_of h llid answer)
made h (send llid channel payload output) = made_sent (head_send_of h llid channel payload output)
made h (receive header payload output) = made_received (head_receive_of h header payload output)

abbrev pub answer_of : HeadEnd → Call → Told
answer_of h c = (made h c).told

abbrev pub after : HeadEnd → Call → HeadEnd
after h c = (made h c).head

-- the code that it returns
unfoldable pub told_number : Told → ℕ
told_number (answered number) = number
told_number (clock_sent number message) = number
told_number (key_sent number message) = number
told_number (sent number header count runs output) = number
told_number (received number count runs output) = number
