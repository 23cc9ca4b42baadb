-- Laws of send and receive at a head end: what the groups' validity and each verdict make of them. Assumes nothing.
use Rattle.std.specs.Prelude.{Ok, Err}
use mathlib.Core.Path.{◌≡◌, refl, sym, ap, ◌∙◌, subst}
use mathlib.Core.Bool.{true, false}
use mathlib.Core.List.{List}
use Prim.Native.Nat.{ℕ, ◌≤◌}
use lib.ListN.{length}
use borrow.Author.Tests.{not-false}
use Rattle.octets.specs.Choice.{pick}
use Rattle.octets.specs.Eqs.{max_eqs}
use Rattle.octets.specs.Output.{WithOutput, with_output}
use Rattle.octets.proofs.Choice.{both_left}
use Rattle.refusal.specs.Number.{number_of, verdict_number}
use Rattle.refusal.specs.Order.{and_then}
use Rattle.refusal.specs.declared.Refusal.TheVariants.{OutOfRange}
use Rattle.refusal.proofs.Order.{refuse_accepted, then_accepted}
use Rattle.clock.specs.Ticks.{max_tick}
use Rattle.envelope.specs.Acceptance.{seal_verdict}
use Rattle.envelope.specs.ControlMask.{eqs_of}
use Rattle.ends.specs.declared.Shared.{Shared}
use Rattle.ends.proofs.Validity.{SharedInRange, olt_in_range, shared_in_range}
use Rattle.protocol.specs.Headers.{no_sending, passage_of, sending_of}
use Rattle.protocol.specs.Replies.{Reply, on_valid}
use Rattle.protocol.specs.declared.Sending.{Sending}
use Rattle.unit.specs.Reached.{if_accepted}
use Rattle.traffic.specs.Passages.{passage_nonce, passed, passed_work, output_after, carried_after, carried_fitting}
use Rattle.traffic.specs.declared.OltReceived.{OltReceived}
use Rattle.traffic.specs.declared.OltSent.{OltSent}
use Rattle.envelope.specs.declared.Work.{Work}
use Rattle.traffic.proofs.Passages.{few_eqs, judged, down_fits, chosen_carried}
use Rattle.group_protocol.specs.GroupCalls.{GroupOutcome, send_group}
use Rattle.group_protocol.specs.Head.{group_at, valid_groups, valid_head, with_group, with_olt}
use Rattle.group_protocol.specs.declared.GroupRecord.{GroupRecord}
use Rattle.group_protocol.specs.declared.HeadEnd.{HeadEnd}
use Rattle.groups.specs.Reached.{reached_group}
use Rattle.headend.specs.HeadTraffic.{group_send_of, head_not_received, head_not_sent, head_sent, olt_received_in, olt_sent_in, send_ahead}
use Rattle.headend.specs.declared.HeadReceived.{HeadReceived}
use Rattle.headend.specs.declared.HeadSent.{HeadSent}
use Rattle.headend.proofs.HeadLift.{lift_group}
use Rattle.refusal.specs.Verdict.{Verdict, no_refusal}

---- on the OLT: what it answers, or 1

module _ (h : HeadEnd) (out : List ℕ) where
  pub sent_valid : (r : WithOutput OltSent) → valid_groups h ≡ true
      → with_output {R = HeadSent}
      (record {
        number = r.answer.number;
        head = with_olt h r.answer.olt;
        header = r.answer.header;
        count = r.answer.count;
        runs = r.answer.runs;
      })
      r.output
      ≡ olt_sent_in h r out
  unfolding olt_sent_in pick
  sent_valid r e = rw e

  pub sent_invalid : (r : WithOutput OltSent) → valid_groups h ≡ false → with_output (head_not_sent h (number_of OutOfRange)) out ≡ olt_sent_in h r out
  unfolding olt_sent_in pick
  sent_invalid r e = rw e

  pub received_valid : (r : WithOutput OltReceived) → valid_groups h ≡ true
      → with_output {R = HeadReceived}
      (record { number = r.answer.number; head = with_olt h r.answer.olt; count = r.answer.count; runs = r.answer.runs })
      r.output
      ≡ olt_received_in h r out
  unfolding olt_received_in pick
  received_valid r e = rw e

  pub received_invalid : (r : WithOutput OltReceived) → valid_groups h ≡ false
      → with_output (head_not_received h (number_of OutOfRange)) out ≡ olt_received_in h r out
  unfolding olt_received_in pick
  received_invalid r e = rw e

---- on a group

pub then_same : (v w : Verdict) → (v ≡ no_refusal → w ≡ no_refusal) → and_then v w ≡ v
unfolding and_then
then_same (Ok tt) w h = h refl
then_same (Err r) w h = refl

-- a refused send counts nothing
reached_carried : (way : Verdict) (s : Shared) (g : GroupRecord) (c : GroupOutcome Sending) (channel : ℕ) (p out : List ℕ)
    → let x = reached_group way no_sending s g c in
    carried_after x.verdict channel x.handed.passage p out
    ≡ with_output (passed_work x.handed.passage p) (output_after x.verdict (passed channel x.handed.passage p) out)
unfolding reached_group
reached_carried way s g c channel p out =
    chosen_carried (λ (x : Sending). x.passage) (and_then way c.verdict) no_sending c.handed channel p out refl

module _ (h : HeadEnd) (i llid channel : ℕ) (p out : List ℕ) where
  abbrev pub send_way : Verdict
  send_way = on_valid (valid_head h) (send_ahead p out channel)

  -- the group's own decision
  abbrev pub send_decided : GroupOutcome Sending
  send_decided = send_group llid channel (eqs_of p) h.olt.shared (group_at h i)

  -- what the way to a group has judged
  way_shared : send_way ≡ no_refusal → SharedInRange h.olt.shared
  unfolding valid_head
  way_shared e =
      let v = both_left _ _ (not-false _ (refuse_accepted _ _ _ e).0) in
      shared_in_range h.olt.shared (olt_in_range h.olt v).shared

  pub send_within : send_way ≡ no_refusal → (h.olt.shared.tick ≤ max_tick) × (eqs_of p ≤ max_eqs)
  send_within e = ((way_shared e).tick, few_eqs p out (refuse_accepted _ _ _ (refuse_accepted _ _ _ e).1).0)

  -- what a group is sent fits
  send_fits : (x : GroupOutcome Sending) → x ≡ reached_group send_way no_sending h.olt.shared (group_at h i) send_decided → x.verdict ≡ no_refusal
      → seal_verdict (length p) (length out) (passage_nonce channel x.handed.passage) ≡ no_refusal
  unfolding reached_group send_group sending_of passage_of if_accepted
  send_fits x e a =
      let v : and_then send_way send_decided.verdict ≡ no_refusal = sym (ap (λ (y : GroupOutcome Sending). y.verdict) e) ∙ a in
      let way = (then_accepted _ _ v).0 in
      let ahead = refuse_accepted _ _ _ (refuse_accepted _ _ _ way).1 in
      let s = way_shared way in
      rw (e, v) (judged p out _ ahead.0 (down_fits _ (not-false _ (refuse_accepted _ _ _ ahead.1).0) s.mac s.clock))

  pub group_send_done : (x : GroupOutcome Sending) → x ≡ reached_group send_way no_sending h.olt.shared (group_at h i) send_decided
      → (n : Work) (octets : List ℕ) → with_output n octets ≡ carried_fitting x.verdict channel x.handed.passage p out
      → with_output {R = HeadSent}
      (record {
        number = verdict_number x.verdict;
        head = with_group h i x.channels x.group;
        header = x.handed.header;
        count = n.count;
        runs = n.runs;
      }) octets
      ≡ group_send_of h llid channel p out i
  unfolding head_sent
  group_send_done x e n octets k =
      let fits = then_same x.verdict (seal_verdict (length p) (length out) (passage_nonce channel x.handed.passage)) (send_fits x e) in
      let carried = subst (λ (y : GroupOutcome Sending).
      carried_after y.verdict channel y.handed.passage p out
      ≡ with_output (passed_work y.handed.passage p) (output_after y.verdict (passed channel y.handed.passage p) out))
      (sym e) (reached_carried send_way h.olt.shared (group_at h i) send_decided channel p out) in
      ap (λ (y : WithOutput Work). with_output {R = HeadSent}
      (record {
        number = verdict_number x.verdict;
        head = with_group h i x.channels x.group;
        header = x.handed.header;
        count = y.answer.count;
        runs = y.answer.runs;
      })
      y.output)
      (k ∙ ap (λ (v : Verdict). carried_after v channel x.handed.passage p out) fits ∙ carried)
      ∙ ap (λ (r : Reply HeadEnd Sending). head_sent r channel p out)
      (lift_group h no_sending (send_ahead p out channel) (λ o g. send_group llid channel (eqs_of p) o.shared g) i x e)
