-- Send and receive on a unit, made in the head end: with valid groups they are the OLT's, else, and for a receipt on a group's LLID, all stays.
-- Assumes nothing.
use Rattle.std.specs.Prelude.{Err, Option, Some, None}
use mathlib.Core.Path.{◌≡◌, refl, sym, ap, ◌∙◌}
use mathlib.Core.Bool.{Bool, true, false, not}
use mathlib.Core.List.{List}
use Prim.Native.Nat.{ℕ, ◌≤◌}
use lib.ListN.{length}
use Rattle.octets.specs.Choice.{both}
use Rattle.octets.specs.Eqs.{max_eqs}
use Rattle.octets.specs.Output.{WithOutput, with_output}
use Rattle.refusal.specs.Number.{verdict_number}
use Rattle.refusal.specs.Order.{and_then, refuse_if}
use Rattle.refusal.specs.declared.Refusal.{Refusal}
use Rattle.refusal.specs.declared.Refusal.TheVariants.{BadLength, GroupLlid, OutOfRange}
use Rattle.refusal.proofs.Order.{refused_accepts}
use Rattle.clock.specs.Ticks.{max_tick}
use Rattle.envelope.specs.Acceptance.{seal_verdict}
use Rattle.envelope.specs.Channels.{upstream}
use Rattle.envelope.specs.ControlMask.{eqs_of}
use Rattle.ends.specs.Table.{find, unit_at, with_unit}
use Rattle.ends.specs.Validity.{valid_olt}
use Rattle.ends.specs.declared.Olt.{Olt}
use Rattle.ends.proofs.Table.{with_itself}
use Rattle.protocol.specs.Headers.{no_passage, no_sending, valid_header}
use Rattle.protocol.specs.Lift.{Outcome, outcome}
use Rattle.protocol.specs.Replies.{on_valid}
use Rattle.protocol.specs.declared.Header.{Header}
use Rattle.protocol.specs.declared.Passage.{Passage}
use Rattle.protocol.specs.declared.Sending.{Sending}
use Rattle.protocol.proofs.OltTraffic.{receive_ahead, send_ahead}
use Rattle.unit.specs.Reached.{if_accepted, reached}
use Rattle.olt.specs.Lookup.{located_after, located_of}
use Rattle.olt.specs.declared.Located.{Located}
use Rattle.traffic.specs.Passages.{carried_after, carried_fitting, misfit, passage_nonce}
use Rattle.traffic.specs.Receipts.{olt_receive_of}
use Rattle.traffic.specs.Sends.{olt_send_of}
use Rattle.traffic.specs.declared.OltReceived.{OltReceived}
use Rattle.traffic.specs.declared.OltSent.{OltSent}
use Rattle.envelope.specs.declared.Work.{Work}
use Rattle.traffic.proofs.Receipts as receipts
use Rattle.traffic.proofs.Sends as sends
use Rattle.group_protocol.specs.Head.{find_group, valid_groups, valid_head, with_olt}
use Rattle.group_protocol.specs.declared.HeadEnd.{HeadEnd}
use Rattle.headend.specs.HeadTraffic.{group_receive_verdict, head_not_received, head_receive_of, olt_received_in, olt_sent_in, own_llid}
use Rattle.headend.specs.declared.HeadReceived.{HeadReceived}
use Rattle.headend.specs.declared.HeadSent.{HeadSent}
use Rattle.headend.proofs.GroupSends.{received_invalid, received_valid, sent_invalid, sent_valid, then_same}
use Rattle.headend.proofs.HeadAnswers.{by_at, by_nowhere}
use Rattle.refusal.specs.Verdict.{Verdict, no_refusal}

---- where the groups are not valid

located_refused : (t : Bool) (f : Option ℕ) → located_after (on_valid t (Err OutOfRange)) f ≡ record { verdict = Err OutOfRange; place = 0 }
unfolding located_after refuse_if
located_refused true f = refl
located_refused false f = refl

nowhere : (o : Olt) (llid : ℕ) → located_of o (Err OutOfRange) llid ≡ record { verdict = Err OutOfRange; place = 0 }
unfolding located_of
nowhere o llid = located_refused (valid_olt o) (find o llid)

---- a way that is refused leaves the unit, and carries nothing

stays : {H : Type 0} (r : Refusal) (o : Olt) (nothing : H) (c : Outcome H)
    → reached (Err r) nothing o.shared (unit_at o 0) c ≡ outcome o.shared (Err r) (unit_at o 0) nothing
unfolding reached outcome and_then if_accepted
stays r o nothing c = refl

nothing_carried : (r : Refusal) (channel : ℕ) (q : Passage) (p out : List ℕ)
    → carried_fitting (Err r) channel q p out ≡ with_output (record { count = 0; runs = 0 }) out
unfolding carried_after and_then
nothing_carried r channel q p out = refl

---- send

module _ (h : HeadEnd) (llid channel : ℕ) (p out : List ℕ) where
  -- what a send decides on the unit found
  abbrev pub unit_sends : Located → Outcome Sending
  unit_sends l = sends.send_decided h.olt llid channel p out l

  -- the answer in the head end
  abbrev sent_as : ℕ → Outcome Sending → WithOutput Work → WithOutput HeadSent
  sent_as i x w =
      with_output
      (record {
        number = verdict_number x.verdict;
        head = with_olt h (with_unit h.olt i x.channels x.unit);
        header = x.handed.header;
        count = w.answer.count;
        runs = w.answer.runs;
      })
      w.output

  module _ (l : Located) (x : Outcome Sending) (f : x ≡ unit_sends l) (w : WithOutput Work)
      (k : w ≡ carried_fitting x.verdict channel x.handed.passage p out) where
    sent_guarded : (t : Bool) → valid_groups h ≡ t → l ≡ located_of h.olt (on_valid t (send_ahead (misfit p out) channel)) llid
        → sent_as l.place x w ≡ olt_sent_in h (olt_send_of h.olt llid channel p out) out
    unfolding refuse_if outcome with_olt
    sent_guarded true v e =
        let fits = then_same x.verdict (seal_verdict (length p) (length out) (passage_nonce channel x.handed.passage))
        (sends.send_fits h.olt llid channel p out l e x f) in
        let done = sends.olt_send_done h.olt llid channel p out l e x f w.answer w.output
        (k ∙ ap (λ (u : Verdict). carried_after u channel x.handed.passage p out) fits) in
        sent_valid h out _ v ∙ ap (λ (r : WithOutput OltSent). olt_sent_in h r out) done
    sent_guarded false v e =
        let at = e ∙ nowhere h.olt llid in
        let same = f ∙ ap unit_sends at ∙ stays OutOfRange h.olt no_sending _ in
        let none = k ∙ ap (λ (y : Outcome Sending). carried_fitting y.verdict channel y.handed.passage p out) same
        ∙ nothing_carried OutOfRange channel _ p out in
        ap (λ (y : Located). sent_as y.place x w) at ∙ ap (λ (y : Outcome Sending). sent_as 0 y w) same
        ∙ ap (sent_as 0 (outcome h.olt.shared (Err OutOfRange) (unit_at h.olt 0) no_sending)) none ∙ left ∙ sent_invalid h out _ v where
          left : sent_as 0 (outcome h.olt.shared (Err OutOfRange) (unit_at h.olt 0) no_sending) (with_output (record { count = 0; runs = 0 }) out)
              ≡ with_output (record { number = verdict_number (Err OutOfRange); head = h; header = no_sending.header; count = 0; runs = 0 }) out
          left = rw (with_itself h.olt 0)

    pub unit_sent-holds : l ≡ located_of h.olt (on_valid (valid_groups h) (send_ahead (misfit p out) channel)) llid
        → sent_as l.place x w ≡ olt_sent_in h (olt_send_of h.olt llid channel p out) out
    unit_sent-holds e = sent_guarded (valid_groups h) refl e

  -- what the way to the unit has judged
  within : (l : Located) (t : Bool) → l ≡ located_of h.olt (on_valid t (send_ahead (misfit p out) channel)) llid → l.verdict ≡ no_refusal
      → (h.olt.shared.tick ≤ max_tick) × (eqs_of p ≤ max_eqs)
  unfolding refuse_if
  within l true e a = sends.send_within h.olt llid channel p out l e a
  within l false e a = refused_accepts _ (sym (ap (λ (y : Located). y.verdict) (e ∙ nowhere h.olt llid)) ∙ a)

  pub unit_within : (l : Located) → l ≡ located_of h.olt (on_valid (valid_groups h) (send_ahead (misfit p out) channel)) llid → l.verdict ≡ no_refusal
      → (h.olt.shared.tick ≤ max_tick) × (eqs_of p ≤ max_eqs)
  unit_within l e a = within l (valid_groups h) e a

---- receive

module _ (h : HeadEnd) (header : Header) (p out : List ℕ) where
  abbrev pub unit_receives : Located → Outcome Passage
  unit_receives l = receipts.receive_decided h.olt header p out l

  abbrev received_as : ℕ → Outcome Passage → WithOutput Work → WithOutput HeadReceived
  received_as i x w =
      with_output
      (record {
        number = verdict_number x.verdict;
        head = with_olt h (with_unit h.olt i x.channels x.unit);
        count = w.answer.count;
        runs = w.answer.runs;
      })
      w.output

  module _ (l : Located) (x : Outcome Passage) (f : x ≡ unit_receives l) (w : WithOutput Work)
      (k : w ≡ carried_fitting x.verdict header.channel x.handed p out) where
    -- refused on the way: the end and the output as they were lent
    way_refused : (r : Refusal) → l ≡ record { verdict = Err r; place = 0 }
        → received_as l.place x w ≡ with_output (head_not_received h (verdict_number (Err r))) out
    unfolding outcome with_olt
    way_refused r at =
        let same = f ∙ ap unit_receives at ∙ stays r h.olt no_passage _ in
        let none = k ∙ ap (λ (y : Outcome Passage). carried_fitting y.verdict header.channel y.handed p out) same
        ∙ nothing_carried r header.channel _ p out in
        ap (λ (y : Located). received_as y.place x w) at ∙ ap (λ (y : Outcome Passage). received_as 0 y w) same
        ∙ ap (received_as 0 (outcome h.olt.shared (Err r) (unit_at h.olt 0) no_passage)) none ∙ left where
          left : received_as 0 (outcome h.olt.shared (Err r) (unit_at h.olt 0) no_passage) (with_output (record { count = 0; runs = 0 }) out)
              ≡ with_output (head_not_received h (verdict_number (Err r))) out
          left = rw (with_itself h.olt 0)

    received_guarded : (t : Bool) → valid_groups h ≡ t → l ≡ located_of h.olt (on_valid t (receive_ahead (misfit p out) header)) header.llid
        → received_as l.place x w ≡ olt_received_in h (olt_receive_of h.olt header p out) out
    unfolding refuse_if
    received_guarded true v e =
        let fits = then_same x.verdict (seal_verdict (length p) (length out) (passage_nonce header.channel x.handed))
        (receipts.receive_fits h.olt header p out l e x f) in
        let done = receipts.olt_receive_done h.olt header p out l e x f w.answer w.output
        (k ∙ ap (λ (u : Verdict). carried_after u header.channel x.handed p out) fits) in
        received_valid h out _ v ∙ ap (λ (r : WithOutput OltReceived). olt_received_in h r out) done
    received_guarded false v e = way_refused OutOfRange (e ∙ nowhere h.olt header.llid) ∙ received_invalid h out _ v

    -- on a group's LLID, whatever is refused ahead of 20
    group_received : (o t a b : Bool)
        → l ≡ located_after (on_valid o (on_valid t (refuse_if a BadLength (refuse_if b OutOfRange (Err GroupLlid))))) (find h.olt header.llid)
        → received_as l.place x w
        ≡ with_output (head_not_received h (verdict_number (on_valid (both o t) (refuse_if a BadLength (refuse_if b OutOfRange (Err GroupLlid)))))) out
    unfolding refuse_if both located_after
    group_received false t a b e = way_refused OutOfRange e
    group_received true false a b e = way_refused OutOfRange e
    group_received true true true b e = way_refused BadLength e
    group_received true true false true e = way_refused OutOfRange e
    group_received true true false false e = way_refused GroupLlid e

    -- the answer, by the group that has the LLID
    pub head_received : (g : Option ℕ) → find_group h header.llid ≡ g
        → l ≡ located_of h.olt (on_valid (valid_groups h) (refuse_if (misfit p out) BadLength
        (refuse_if (not (both (upstream header.channel) (valid_header header))) OutOfRange (own_llid g)))) header.llid
        → received_as l.place x w ≡ head_receive_of h header p out
    unfolding head_receive_of group_receive_verdict valid_head misfit located_of
    head_received None s e = received_guarded (valid_groups h) refl e ∙ by_nowhere _ _ _ s
    head_received (Some i) s e = group_received (valid_olt h.olt) (valid_groups h) _ _ e ∙ by_at _ _ _ i s
