-- A call of the OLT on a unit makes of the OLT and the units' lines what it makes of them without groups, where the groups are valid and no
-- group has the LLID. Assumes nothing.
use Rattle.std.specs.Prelude.{Err, None}
use mathlib.Core.Path.{◌≡◌, ◌∙◌, ap}
use mathlib.Core.Bool.{true}
use mathlib.Core.List.{List}
use Prim.Native.Nat.{ℕ}
use Rattle.octets.specs.Choice.{pick}
use Rattle.octets.specs.Output.{WithOutput, with_output}
use Rattle.octets.proofs.Choice.{both_true, not_of_true, pick_true}
use Rattle.refusal.specs.Number.{number_of}
use Rattle.refusal.specs.declared.Refusal.{Refusal}
use Rattle.refusal.specs.declared.Refusal.TheVariants.{OutOfRange}
use Rattle.refusal.proofs.Order.{refuse_passed}
use Rattle.ends.specs.Validity.{valid_olt}
use Rattle.protocol.specs.Replies.{silent, advance_verdict}
use Rattle.protocol.specs.OltCalls.{capture_of, clock_send_of, offer_of, retry_of, acknowledge_of}
use Rattle.protocol.specs.declared.Acknowledgement.{Acknowledgement}
use Rattle.protocol.specs.declared.ClockSent.{ClockSent}
use Rattle.protocol.specs.declared.KeySent.{KeySent}
use Rattle.protocol.specs.declared.OltAnswer.{OltAnswer}
use Rattle.protocol.specs.declared.Header.{Header}
use Rattle.protocol.proofs.Replies.{reply_refused}
use Rattle.traffic.specs.Sends.{olt_send_of}
use Rattle.traffic.specs.Receipts.{olt_receive_of}
use Rattle.traffic.specs.declared.OltSent.{OltSent}
use Rattle.traffic.specs.declared.OltReceived.{OltReceived}
use Rattle.group_protocol.specs.Head.{find_group, valid_head, valid_groups, with_olt}
use Rattle.group_protocol.specs.declared.HeadEnd.{HeadEnd}
use Rattle.group_protocol.specs.Naming.{by_llid}
use Rattle.headend.specs.HeadCalls.{olt_answered, olt_clock_sent, olt_key_sent, head_capture_of, head_clock_send_of, head_offer_of, head_retry_of, head_acknowledge_of, own_acknowledgement, head_answer, head_advanced, head_advance_of}
use Rattle.headend.specs.HeadTraffic.{olt_sent_in, olt_received_in, head_send_of, head_receive_of}
use Rattle.subscriber.specs.SubscriberCalls.{own_answer}
use Rattle.headend.specs.declared.HeadSent.{HeadSent}
use Rattle.headend.specs.declared.HeadReceived.{HeadReceived}
use Rattle.unicast.specs.Events as events
use Rattle.unicast.specs.Run as run
use Rattle.unicast.specs.Run.{at_olt, at_olt_for, clock_sending, offering, retrying, envelope_at, answer_at}
use Rattle.line.specs.Events.{capture, clock_send, offer, retry, send_down, arrive_up, arrive_answer}
use Rattle.line.specs.Run.{State, alone, at_head, clock_sent_alone, key_sent_alone, clock_sending_to, offering_to, retrying_to, head_passage, envelope_down, sending_down, receipt_up, arriving_up, answering, step}

---- what the OLT answers stands in the head end

module _ (h : HeadEnd) (v : valid_groups h ≡ true) where
  pub answered_olt : (r : OltAnswer) → olt_answered h r ≡ record { number = r.number; head = with_olt h r.olt }
  unfolding olt_answered
  answered_olt r = pick_true _ _ v

  pub clock_sent_olt : (r : ClockSent) → olt_clock_sent h r ≡ record { number = r.number; head = with_olt h r.olt; message = r.message }
  unfolding olt_clock_sent
  clock_sent_olt r = pick_true _ _ v

  pub key_sent_olt : (r : KeySent) → olt_key_sent h r ≡ record { number = r.number; head = with_olt h r.olt; message = r.message }
  unfolding olt_key_sent
  key_sent_olt r = pick_true _ _ v

  abbrev pub sent_in : OltSent → HeadSent
  sent_in r = record { number = r.number; head = with_olt h r.olt; header = r.header; count = r.count; runs = r.runs }

  pub sent_olt : (r : WithOutput OltSent) (out : List ℕ) → olt_sent_in h r out ≡ with_output (sent_in r.answer) r.output
  unfolding olt_sent_in
  sent_olt r out = pick_true _ _ v

  abbrev pub received_in : OltReceived → HeadReceived
  received_in r = record { number = r.number; head = with_olt h r.olt; count = r.count; runs = r.runs }

  pub received_olt : (r : WithOutput OltReceived) (out : List ℕ) → olt_received_in h r out ≡ with_output (received_in r.answer) r.output
  unfolding olt_received_in
  received_olt r out = pick_true _ _ v

  ---- where no group has the LLID

  module _ (llid : ℕ) (none : find_group h llid ≡ None) where
    pub offer_olt : (key : List ℕ) → head_offer_of h llid key ≡ record {
      number = (offer_of h.olt llid key).number;
      head = with_olt h (offer_of h.olt llid key).olt;
      message = (offer_of h.olt llid key).message;
    }
    unfolding head_offer_of by_llid
    offer_olt key = rw none (key_sent_olt (offer_of h.olt llid key))

    pub retry_olt : head_retry_of h llid ≡ record {
      number = (retry_of h.olt llid).number;
      head = with_olt h (retry_of h.olt llid).olt;
      message = (retry_of h.olt llid).message;
    }
    unfolding head_retry_of by_llid
    retry_olt = rw none (key_sent_olt (retry_of h.olt llid))

    pub acknowledge_olt : (a : Acknowledgement) → head_acknowledge_of h llid (own_answer a) ≡ record {
      number = (acknowledge_of h.olt llid a).number;
      head = with_olt h (acknowledge_of h.olt llid a).olt;
    }
    unfolding head_acknowledge_of by_llid own_acknowledgement own_answer pick
    acknowledge_olt a = rw none (answered_olt (acknowledge_of h.olt llid a))

    pub send_olt : (channel : ℕ) (p out : List ℕ)
        → head_send_of h llid channel p out ≡ with_output (sent_in (olt_send_of h.olt llid channel p out).answer)
        (olt_send_of h.olt llid channel p out).output
    unfolding head_send_of by_llid
    send_olt channel p out = rw none (sent_olt (olt_send_of h.olt llid channel p out) out)

  pub receive_olt : (header : Header) (p out : List ℕ) → find_group h header.llid ≡ None
      → head_receive_of h header p out ≡ with_output (received_in (olt_receive_of h.olt header p out).answer) (olt_receive_of h.olt header p out).output
  unfolding head_receive_of by_llid
  receive_olt header p out none = rw none (received_olt (olt_receive_of h.olt header p out) out)

  -- an advance that the OLT refuses leaves the groups too
  pub advance_stays : (n : ℕ) (r : Refusal) → valid_olt h.olt ≡ true → advance_verdict h.olt.shared.tick n ≡ Err r
      → head_advance_of h n ≡ record { number = number_of r; head = h }
  unfolding head_advance_of valid_head head_answer
  advance_stays n r o e =
      ap head_answer (reply_refused _ h silent (head_advanced h n) silent r (refuse_passed _ OutOfRange _ (not_of_true (both_true o v)) ∙ e))

---- the calls

module _ (s : State) (v : valid_groups s.head ≡ true) where
  pub capture_alone : (llid : ℕ) → alone (step s (capture llid)) ≡ run.step (alone s) (events.capture llid)
  unfolding step run.step head_capture_of at_head alone with_olt at_olt
  capture_alone llid = rw (answered_olt s.head v (capture_of s.head.olt llid))

  pub clock_send_alone : (llid : ℕ) → alone (step s (clock_send llid)) ≡ run.step (alone s) (events.clock_send llid)
  unfolding step run.step head_clock_send_of clock_sending_to clock_sent_alone clock_sending at_head alone with_olt at_olt
  clock_send_alone llid = rw (clock_sent_olt s.head v (clock_send_of s.head.olt llid))

  module _ (llid : ℕ) (none : find_group s.head llid ≡ None) where
    pub offer_alone : (key : List ℕ) → alone (step s (offer llid key)) ≡ run.step (alone s) (events.offer llid key)
    unfolding step run.step offering_to key_sent_alone offering at_head alone with_olt at_olt
    offer_alone key = rw (offer_olt s.head v llid none key)

    pub retry_alone : alone (step s (retry llid)) ≡ run.step (alone s) (events.retry llid)
    unfolding step run.step retrying_to key_sent_alone retrying at_head alone with_olt at_olt
    retry_alone = rw (retry_olt s.head v llid none)

    pub send_down_alone : (channel : ℕ) (p out : List ℕ)
        → alone (step s (send_down llid channel p out)) ≡ run.step (alone s) (events.send_down llid channel p out)
    unfolding step run.step sending_down run.sending_down envelope_down run.envelope_down head_passage by_llid at_head alone with_olt at_olt
    send_down_alone channel p out = rw (none, send_olt s.head v llid none channel p out)

    pub answer_alone-holds : (u k : ℕ) → alone (step s (arrive_answer u k llid)) ≡ run.step (alone s) (events.arrive_answer u k llid)
    unfolding step run.step answering run.answering at_head alone with_olt at_olt
    answer_alone-holds u k = rw (acknowledge_olt s.head v llid none (answer_at (alone s) u k).acknowledgement)

  pub arrive_up_alone : (u k : ℕ) (out : List ℕ) → find_group s.head (envelope_at (alone s) u k).header.llid ≡ None
      → alone (step s (arrive_up u k out)) ≡ run.step (alone s) (events.arrive_up u k out)
  unfolding step run.step arriving_up run.arriving_up receipt_up run.receipt_up at_head alone with_olt at_olt_for
  arrive_up_alone u k out none = rw (receive_olt s.head v (envelope_at (alone s) u k).header (envelope_at (alone s) u k).octets out none)
