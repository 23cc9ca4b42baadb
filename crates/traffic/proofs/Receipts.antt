-- Laws of receive: what each verdict makes of it. Assumes nothing.
use Rattle.std.specs.Prelude.{Err}
use mathlib.Core.Path.{◌≡◌, refl, sym, ap, ◌∙◌}
use mathlib.Core.Bool.{true}
use mathlib.Core.List.{List}
use Prim.Native.Nat.{ℕ, ◌<◌}
use native.Mathlib.Omega.{arith}
use lib.ListN.{length}
use borrow.Author.Tests.{not-false}
use Rattle.octets.specs.Choice.{pick}
use Rattle.octets.proofs.Choice.{both_left}
use Rattle.octets.specs.Output.{WithOutput, with_output}
use Rattle.refusal.specs.Number.{verdict_number}
use Rattle.refusal.specs.declared.Refusal.{Refusal}
use Rattle.envelope.specs.Acceptance.{seal_verdict}
use Rattle.sealing.specs.Seal.{count_carried, runs_carried}
use Rattle.ends.specs.Limits.{max_key_number}
use Rattle.protocol.specs.Replies.{on_valid, Reply, reply}
use Rattle.ends.specs.Table.{unit_at, with_unit}
use Rattle.ends.specs.Validity.{valid_olt, valid_onu}
use Rattle.protocol.specs.Lift.{Outcome, outcome}
use Rattle.protocol.specs.Headers.{choice_enciphered, passage_of, no_passage}
use Rattle.protocol.specs.UnitTraffic.{receive_unit}
use Rattle.protocol.specs.OltTraffic.{receive_order, receiving_olt}
use Rattle.protocol.specs.OnuCalls.{onu_reply}
use Rattle.protocol.specs.OnuTraffic.{onu_receive_choice, onu_receive_verdict, receiving_onu}
use Rattle.ends.specs.declared.Olt.{Olt}
use Rattle.ends.specs.declared.Onu.{Onu}
use Rattle.protocol.specs.declared.Header.{Header}
use Rattle.protocol.specs.declared.KeyChoice.TheVariants.{Next}
use Rattle.protocol.specs.declared.Passage.{Passage}
use Rattle.refusal.proofs.Order.{refuse_accepted, then_accepted}
use Rattle.protocol.proofs.Replies.{reply_verdict, reply_accepted}
use Rattle.ends.proofs.Table.{find_at}
use Rattle.ends.proofs.Validity.{olt_in_range, shared_in_range, unit_in_range, onu_in_range, onu_clock_in_range, onu_keys_in_range}
use Rattle.protocol.proofs.Lift.{unit_at_valid}
use Rattle.protocol.proofs.OltTraffic.{receive_ahead, receiving_valid, receive_order-holds}
use Rattle.protocol.proofs.OnuChoices.{OnuReceiveCase, onu_clear, onu_late, onu_current, onu_next, onu_unknown, onu_receive_case, onu_receive_accepted}
use Rattle.unit.specs.Reached.{reached}
use Rattle.unit.proofs.Reached.{reached_accepted}
use Rattle.olt.specs.Lookup.{located_of}
use Rattle.olt.specs.declared.Located.{Located}
use Rattle.olt.proofs.Lookup.{lift_decided, reaches}
use Rattle.envelope.specs.declared.Work.{Work}
use Rattle.traffic.specs.Passages.{misfit, passage_nonce, passed_count, passed_runs, output_after, carried_after}
use Rattle.traffic.specs.Receipts.{olt_received, olt_receive_of, onu_received, onu_not_received, onu_receive_of}
use Rattle.traffic.specs.declared.OltReceived.{OltReceived}
use Rattle.traffic.specs.declared.OnuReceived.{OnuReceived}
use Rattle.traffic.proofs.Passages.{identity_mac, judged, down_fits, up_fits, reached_carried, reply_carried}
use Rattle.refusal.specs.Verdict.{Verdict, no_refusal}

---- the OLT

module _ (o : Olt) (h : Header) (p out : List ℕ) where
  -- what a receipt decides on the unit found
  abbrev pub receive_decided : Located → Outcome Passage
  receive_decided l = reached l.verdict no_passage o.shared (unit_at o l.place) (receive_unit h o.shared (unit_at o l.place))

  -- the code is that of the first refusal in order
  pub olt_receive_ordered : (r : OltReceived) (octets : List ℕ) → with_output r octets ≡ olt_receive_of o h p out
      → (with_output r octets ≡ olt_receive_of o h p out) × (r.number ≡ verdict_number (receive_order o (misfit p out) h))
  unfolding olt_receive_of olt_received
  olt_receive_ordered r octets e =
      (e, ap (λ (x : WithOutput OltReceived). x.answer.number) e ∙ ap verdict_number (receive_order-holds o (misfit p out) h))

  module _ (l : Located) (e : l ≡ located_of o (receive_ahead (misfit p out) h) h.llid) where
    -- what the OLT receives fits
    pub receive_fits : (x : Outcome Passage) → x ≡ receive_decided l → x.verdict ≡ no_refusal
        → seal_verdict (length p) (length out) (passage_nonce h.channel x.handed) ≡ no_refusal
    unfolding reached receive_unit outcome passage_of
    receive_fits x f a =
        let v = rw f at a in
        let r = reaches o (receive_ahead (misfit p out) h) h.llid l e (then_accepted _ _ v).0 in
        let passed = refuse_accepted _ _ _ r.passed in
        let s = shared_in_range o.shared (olt_in_range o r.valid).shared in
        let u = unit_in_range _ (unit_at o l.place) (unit_at_valid o h.llid l.place r.valid (find_at o h.llid l.place r.found)) in
        rw (f ∙ reached_accepted _ _ o.shared _ _ v)
        (judged p out _ passed.0
        (up_fits _ (both_left _ _ (not-false _ (refuse_accepted _ _ _ passed.1).0)) (identity_mac (unit_at o l.place).identity u.identity)
        s.clock))

    pub olt_receive_done : (x : Outcome Passage) → x ≡ receive_decided l → (n : Work) (octets : List ℕ)
        → with_output n octets ≡ carried_after x.verdict h.channel x.handed p out
        → with_output {R = OltReceived}
        (record { number = verdict_number x.verdict; olt = with_unit o l.place x.channels x.unit; count = n.count; runs = n.runs }) octets
        ≡ olt_receive_of o h p out
    unfolding olt_receive_of olt_received receiving_olt
    olt_receive_done x f n octets k =
        let w = k ∙ reached_carried (λ (q : Passage). q) no_passage refl _ _ _ _ x f h.channel p out in
        let lifted = lift_decided o no_passage (receive_ahead (misfit p out) h) h.llid (receive_unit h) l x e f in
        rw (← lifted, ap (λ y. y.answer) w, ap (λ y. y.output) w)

  -- a valid OLT stays valid
  pub olt_receive_valid : valid_olt o ≡ true → valid_olt (olt_receive_of o h p out).answer.olt ≡ true
  unfolding olt_receive_of olt_received
  olt_receive_valid v = receiving_valid o (misfit p out) h v

---- the ONU

-- only a held key comes into use, so that its number is a key number
pub next_below : (o : Onu) (h : Header) (n : ℕ) → valid_onu o ≡ true → onu_receive_choice o.keys h ≡ Next n → o.keys.active < max_key_number
next_below o h n v e = by_case (onu_receive_case o.keys h) where
  by_case : OnuReceiveCase o.keys h → o.keys.active < max_key_number
  by_case (onu_next f p q k) = (onu_keys_in_range o.keys (onu_in_range o v).keys).below q
  by_case (onu_clear f p q) = let z : ◌≡◌ {A = ℕ} 0 1 = cc in absurd (omega arith)
  by_case (onu_late f p q) = let z : ◌≡◌ {A = ℕ} 0 1 = cc in absurd (omega arith)
  by_case (onu_current f p q k) = let z : ◌≡◌ {A = ℕ} 0 1 = cc in absurd (omega arith)
  by_case (onu_unknown f p) = let z : ◌≡◌ {A = ℕ} 0 1 = cc in absurd (omega arith)

module _ (o : Onu) (h : Header) (p out : List ℕ) where
  -- the verdict, that on the lent end ahead
  abbrev pub onu_receive_judged : Verdict
  onu_receive_judged = on_valid (valid_onu o) (onu_receive_verdict o (misfit p out) h)

  pub onu_receive_refused : (r : Refusal) → onu_receive_judged ≡ Err r → with_output (onu_not_received o r) out ≡ onu_receive_of o h p out
  unfolding onu_receive_of receiving_onu onu_reply reply onu_not_received onu_received passed_count passed_runs output_after choice_enciphered
  onu_receive_refused r e = unfold count_carried runs_carried pick in rw e

  -- what the receipt decides
  abbrev pub onu_receive_decided : Reply Onu Passage
  onu_receive_decided = receiving_onu o (misfit p out) h

  -- what a unit receives fits
  pub onu_receive_fits : onu_receive_decided.verdict ≡ no_refusal
      → seal_verdict (length p) (length out) (passage_nonce h.channel onu_receive_decided.handed) ≡ no_refusal
  unfolding receiving_onu onu_reply passage_of
  onu_receive_fits e =
      let v = sym (reply_verdict _ o no_passage _ _) ∙ e in
      let a = refuse_accepted _ _ _ v in
      let r = onu_in_range o (not-false _ a.0) in
      let s = onu_receive_accepted o (misfit p out) h a.1 in
      rw (reply_accepted _ o no_passage _ _ v)
      (judged p out _ s.fits (down_fits _ s.downstream r.oltmac (onu_clock_in_range o.clock r.clock).rx))

  pub onu_receive_done : (n : Work) (octets : List ℕ) → let d = onu_receive_decided in
      with_output n octets ≡ carried_after d.verdict h.channel d.handed p out
      → with_output {R = OnuReceived} (record { number = verdict_number d.verdict; onu = d.end; count = n.count; runs = n.runs }) octets
      ≡ onu_receive_of o h p out
  unfolding onu_receive_of onu_received receiving_onu onu_reply
  onu_receive_done n octets e =
      let w = e ∙ reply_carried (λ (q : Passage). q) _ o _ no_passage _ h.channel p out refl in
      rw (ap (λ y. y.answer) w, ap (λ y. y.output) w)
