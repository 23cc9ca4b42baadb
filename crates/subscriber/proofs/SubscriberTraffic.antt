-- Laws of a subscriber's receive: what a group's envelope accepts, sealing accepts too. Assumes nothing.
use Rattle.std.specs.Prelude.{Ok, Err, Some}
use mathlib.Core.Path.{◌≡◌, refl, sym, ◌∙◌, ap}
use mathlib.Core.Bool.{true}
use mathlib.Core.List.{List}
use Prim.Native.Nat.{ℕ}
use lib.ListN.{length}
use borrow.Author.Tests.{not-false}
use Rattle.octets.specs.Choice.{pick}
use Rattle.octets.specs.Output.{WithOutput, with_output}
use Rattle.octets.proofs.Choice.{both_left}
use Rattle.refusal.specs.Number.{verdict_number}
use Rattle.refusal.specs.Order.{and_then}
use Rattle.refusal.proofs.Order.{refuse_accepted}
use Rattle.envelope.specs.Acceptance.{seal_verdict}
use Rattle.sealing.specs.Seal.{count_carried, runs_carried}
use Rattle.unit.specs.Reached.{if_accepted}
use Rattle.ends.proofs.Validity.{onu_in_range, onu_clock_in_range}
use Rattle.protocol.specs.Headers.{choice_enciphered, no_passage, passage_of}
use Rattle.protocol.specs.Replies.{Reply}
use Rattle.protocol.specs.declared.Header.{Header}
use Rattle.protocol.specs.declared.Passage.{Passage}
use Rattle.traffic.specs.Passages.{misfit, passage_nonce, passed, passed_count, passed_runs, passed_work, output_after, carried_after, carried_fitting}
use Rattle.envelope.specs.declared.Work.{Work}
use Rattle.traffic.proofs.Passages.{judged, down_fits}
use Rattle.group_protocol.specs.Subscriber.{find_joined, joined_at, with_joined, valid_subscriber}
use Rattle.group_protocol.specs.JoinedCalls.{JoinedOutcome, joined_receive_verdict, receive_joined}
use Rattle.group_protocol.specs.declared.Subscriber.{Subscriber}
use Rattle.group_protocol.proofs.Subscribers.{valid_unit-holds}
use Rattle.groups.specs.Reached.{reached_joined}
use Rattle.subscriber.specs.SubscriberTraffic.{subscriber_received, group_receive_of}
use Rattle.subscriber.specs.declared.SubscriberReceived.{SubscriberReceived}
use Rattle.subscriber.proofs.SubscriberLift.{lift_reached}
use Rattle.refusal.specs.Verdict.{Verdict, no_refusal}

-- what an outcome that fits makes of a payload: refused, nothing is counted and the output stays
reached_carried : (v : Verdict) (q : Passage) (channel : ℕ) (p out : List ℕ)
    → (v ≡ no_refusal → seal_verdict (length p) (length out) (passage_nonce channel q) ≡ no_refusal) → let x = if_accepted v q no_passage in
    carried_fitting v channel x p out ≡ with_output (passed_work x p) (output_after v (passed channel x p) out)
unfolding if_accepted and_then carried_after output_after passed_count passed_runs choice_enciphered count_carried runs_carried pick
reached_carried (Ok tt) q channel p out f = rw (f refl)
reached_carried (Err r) q channel p out f = refl

module _ (s : Subscriber) (h : Header) (p out : List ℕ) (i : ℕ) (valid : valid_subscriber s ≡ true) where
  abbrev received : JoinedOutcome Passage
  received = receive_joined (misfit p out) h s.onu (joined_at s i)

  abbrev pub receive_reached : JoinedOutcome Passage
  receive_reached = reached_joined no_passage (joined_at s i) received

  -- what a unit receives of a group fits
  received_fits : receive_reached.verdict ≡ no_refusal → seal_verdict (length p) (length out) (passage_nonce h.channel received.handed) ≡ no_refusal
  unfolding reached_joined receive_joined joined_receive_verdict passage_of
  received_fits e =
      let a = refuse_accepted _ _ _ (refuse_accepted _ _ _ e).1 in
      let b = refuse_accepted _ _ _ a.1 in
      let o = onu_in_range s.onu (valid_unit-holds s valid) in
      judged p out _ a.0 (down_fits _ (both_left _ _ (not-false _ b.0)) o.oltmac (onu_clock_in_range s.onu.clock o.clock).rx)

  pub group_receive_done : find_joined s h.llid ≡ Some i → (n : Work) (octets : List ℕ) → let d = receive_reached in
      with_output n octets ≡ carried_fitting d.verdict h.channel d.handed p out
      → with_output {R = SubscriberReceived}
      (record { number = verdict_number d.verdict; subscriber = with_joined s i d.joined; count = n.count; runs = n.runs }) octets
      ≡ group_receive_of s i h p out
  unfolding group_receive_of subscriber_received reached_joined
  group_receive_done f n octets e =
      let d = receive_reached in
      ap
      (λ (x : WithOutput Work). with_output {R = SubscriberReceived}
      (record { number = verdict_number d.verdict; subscriber = with_joined s i d.joined; count = x.answer.count; runs = x.answer.runs }) x.output)
      (e ∙ reached_carried d.verdict received.handed h.channel p out received_fits)
      ∙ ap (λ (r : Reply Subscriber Passage). subscriber_received r h.channel p out)
      (sym (lift_reached s no_passage (receive_joined (misfit p out) h) i h.llid valid f))
