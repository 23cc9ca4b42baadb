-- Laws of send: what each verdict makes of it. Assumes nothing.
use mathlib.Core.Path.{◌≡◌, refl, sym, ap, ◌∙◌}
use mathlib.Core.Bool.{true}
use mathlib.Core.List.{List}
use Prim.Native.Nat.{ℕ, ◌≤◌}
use lib.ListN.{length}
use borrow.Author.Tests.{not-false}
use Rattle.octets.specs.Eqs.{max_eqs}
use Rattle.octets.specs.Output.{WithOutput, with_output}
use Rattle.refusal.specs.Number.{verdict_number}
use Rattle.clock.specs.Ticks.{max_tick}
use Rattle.envelope.specs.ControlMask.{eqs_of}
use Rattle.envelope.specs.Acceptance.{seal_verdict}
use Rattle.protocol.specs.Replies.{Reply}
use Rattle.ends.specs.Table.{unit_at, with_unit}
use Rattle.ends.specs.Validity.{valid_olt}
use Rattle.protocol.specs.Lift.{Outcome}
use Rattle.protocol.specs.Headers.{passage_of, sending_of, no_sending}
use Rattle.protocol.specs.UnitTraffic.{send_unit}
use Rattle.protocol.specs.OltTraffic.{send_order, sending_olt}
use Rattle.protocol.specs.OnuCalls.{onu_reply}
use Rattle.protocol.specs.OnuTraffic.{sending_onu}
use Rattle.ends.specs.declared.Olt.{Olt}
use Rattle.ends.specs.declared.Onu.{Onu}
use Rattle.protocol.specs.declared.Sending.{Sending}
use Rattle.refusal.proofs.Order.{refuse_accepted, then_accepted}
use Rattle.protocol.proofs.Replies.{reply_verdict, reply_accepted}
use Rattle.ends.proofs.Validity.{olt_in_range, shared_in_range, onu_in_range, onu_clock_in_range}
use Rattle.protocol.proofs.OltTraffic.{send_ahead, sending_valid, send_order-holds}
use Rattle.protocol.proofs.OnuChoices.{onu_send_accepted}
use Rattle.unit.specs.Reached.{reached}
use Rattle.unit.proofs.Reached.{reached_accepted}
use Rattle.olt.specs.Lookup.{located_of}
use Rattle.olt.specs.declared.Located.{Located}
use Rattle.olt.proofs.Lookup.{lift_decided, reaches}
use Rattle.envelope.specs.declared.Work.{Work}
use Rattle.traffic.specs.Passages.{misfit, passage_nonce, carried_after}
use Rattle.traffic.specs.Sends.{olt_sent, olt_send_of, onu_sent, onu_send_of}
use Rattle.traffic.specs.declared.OltSent.{OltSent}
use Rattle.traffic.specs.declared.OnuSent.{OnuSent}
use Rattle.traffic.proofs.Passages.{few_eqs, identity_mac, judged, down_fits, up_fits, reached_carried, reply_carried}
use Rattle.refusal.specs.Verdict.{no_refusal}

---- the OLT

module _ (o : Olt) (llid channel : ℕ) (p out : List ℕ) where
  -- what a send decides on the unit found
  abbrev pub send_decided : Located → Outcome Sending
  send_decided l = reached l.verdict no_sending o.shared (unit_at o l.place) (send_unit llid channel (eqs_of p) o.shared (unit_at o l.place))

  -- the code is that of the first refusal in order
  pub olt_send_ordered : (r : OltSent) (octets : List ℕ) → with_output r octets ≡ olt_send_of o llid channel p out
      → (with_output r octets ≡ olt_send_of o llid channel p out) × (r.number ≡ verdict_number (send_order o (misfit p out) llid channel))
  unfolding olt_send_of olt_sent
  olt_send_ordered r octets e =
      (e, ap (λ (x : WithOutput OltSent). x.answer.number) e ∙ ap verdict_number (send_order-holds o (misfit p out) llid channel (eqs_of p)))

  module _ (l : Located) (e : l ≡ located_of o (send_ahead (misfit p out) channel) llid) where
    pub send_within : l.verdict ≡ no_refusal → (o.shared.tick ≤ max_tick) × (eqs_of p ≤ max_eqs)
    send_within a =
        let r = reaches o (send_ahead (misfit p out) channel) llid l e a in
        ((shared_in_range o.shared (olt_in_range o r.valid).shared).tick, few_eqs p out (refuse_accepted _ _ _ r.passed).0)

    -- what the OLT sends fits
    pub send_fits : (x : Outcome Sending) → x ≡ send_decided l → x.verdict ≡ no_refusal
        → seal_verdict (length p) (length out) (passage_nonce channel x.handed.passage) ≡ no_refusal
    unfolding reached send_unit sending_of passage_of
    send_fits x f a =
        let v = rw f at a in
        let r = reaches o (send_ahead (misfit p out) channel) llid l e (then_accepted _ _ v).0 in
        let passed = refuse_accepted _ _ _ r.passed in
        let s = shared_in_range o.shared (olt_in_range o r.valid).shared in
        rw (f ∙ reached_accepted _ _ o.shared _ _ v)
        (judged p out _ passed.0 (down_fits _ (not-false _ (refuse_accepted _ _ _ passed.1).0) s.mac s.clock))

    pub olt_send_done : (x : Outcome Sending) → x ≡ send_decided l → (n : Work) (octets : List ℕ)
        → with_output n octets ≡ carried_after x.verdict channel x.handed.passage p out
        → with_output {R = OltSent}
        (record {
          number = verdict_number x.verdict;
          olt = with_unit o l.place x.channels x.unit;
          header = x.handed.header;
          count = n.count;
          runs = n.runs;
        }) octets
        ≡ olt_send_of o llid channel p out
    unfolding olt_send_of olt_sent sending_olt
    olt_send_done x f n octets k =
        let w = k ∙ reached_carried (λ (s : Sending). s.passage) no_sending refl _ _ _ _ x f channel p out in
        let lifted = lift_decided o no_sending (send_ahead (misfit p out) channel) llid (send_unit llid channel (eqs_of p)) l x e f in
        rw (← lifted, ap (λ y. y.answer) w, ap (λ y. y.output) w)

  -- a valid OLT stays valid
  pub olt_send_valid : valid_olt o ≡ true → valid_olt (olt_send_of o llid channel p out).answer.olt ≡ true
  unfolding olt_send_of olt_sent
  olt_send_valid v = sending_valid o (misfit p out) llid channel (eqs_of p) (few_eqs p out) v

---- the ONU

module _ (o : Onu) (llid channel : ℕ) (p out : List ℕ) where
  -- what the send decides
  abbrev pub onu_send_decided : Reply Onu Sending
  onu_send_decided = sending_onu o (misfit p out) llid channel (eqs_of p)

  -- what a unit sends fits
  pub onu_send_fits : onu_send_decided.verdict ≡ no_refusal
      → seal_verdict (length p) (length out) (passage_nonce channel onu_send_decided.handed.passage) ≡ no_refusal
  unfolding sending_onu onu_reply sending_of passage_of
  onu_send_fits e =
      let v = sym (reply_verdict _ o no_sending _ _) ∙ e in
      let a = refuse_accepted _ _ _ v in
      let r = onu_in_range o (not-false _ a.0) in
      let u = onu_send_accepted o (misfit p out) llid channel a.1 in
      rw (reply_accepted _ o no_sending _ _ v)
      (judged p out _ u.fits (up_fits _ u.upstream (identity_mac o.identity r.identity) (onu_clock_in_range o.clock r.clock).tx))

  pub onu_send_done : (n : Work) (octets : List ℕ) → let d = onu_send_decided in
      with_output n octets ≡ carried_after d.verdict channel d.handed.passage p out
      → with_output {R = OnuSent}
      (record { number = verdict_number d.verdict; onu = d.end; header = d.handed.header; count = n.count; runs = n.runs }) octets
      ≡ onu_send_of o llid channel p out
  unfolding onu_send_of onu_sent sending_onu onu_reply
  onu_send_done n octets e =
      let w = e ∙ reply_carried (λ (s : Sending). s.passage) _ o _ no_sending _ channel p out refl in
      rw (ap (λ y. y.answer) w, ap (λ y. y.output) w)
