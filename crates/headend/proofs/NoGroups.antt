-- Without groups each call of a head end answers as the OLT's own (02, C-14). Assumes nothing.
use Rattle.std.specs.Prelude.{Ok, Err, None}
use mathlib.Core.Path.{◌≡◌, refl, sym, ap, ◌∙◌}
use mathlib.Core.Bool.{Bool, true, false, not}
use mathlib.Core.List.{List, ◌++◌, map}
use Prim.Native.Nat.{ℕ}
use native.Mathlib.Nat.{add-zero}
use lib.Dec.{leb}
use lib.ListN.{take, drop}
use Rattle.octets.specs.Choice.{both, either, pick}
use Rattle.octets.specs.Lists.{all}
use Rattle.octets.proofs.Choice.{both_false_left}
use Rattle.refusal.specs.Number.{number_of}
use Rattle.refusal.specs.declared.Refusal.TheVariants.{OutOfRange}
use Rattle.envelope.specs.ControlMask.{eqs_of}
use Rattle.sealing.specs.Seal.{count_carried, runs_carried}
use Rattle.ends.specs.Identities.{distinct, llids_of, meets}
use Rattle.ends.specs.Limits.{max_units}
use Rattle.ends.specs.Table.{registered, table_llids}
use Rattle.ends.specs.Validity.{valid_olt}
use Rattle.ends.specs.declared.Identity.{Identity}
use Rattle.ends.specs.declared.Olt.{Olt}
use Rattle.protocol.specs.Messages.{no_key_message, no_stamps}
use Rattle.protocol.specs.Headers.{choice_enciphered, no_passage, no_sending}
use Rattle.protocol.specs.OltCalls.{acknowledge_of, advance_olt_of, advancing_olt, capture_of, clock_send_of, clock_sent, key_sent, measure_of, offer_of, olt_answer, registering, register_of, register_verdict, retry_of}
use Rattle.protocol.specs.OltTraffic.{receiving_olt, sending_olt}
use Rattle.protocol.specs.UnitTraffic.{receive_unit, send_unit}
use Rattle.protocol.specs.declared.Header.{Header}
use Rattle.traffic.specs.Passages.{output_after, passed_count, passed_runs}
use Rattle.traffic.specs.Receipts.{olt_received, olt_receive_of}
use Rattle.traffic.specs.Sends.{olt_send_of, olt_sent}
use Rattle.protocol.specs.Replies.{reply, silent}
use Rattle.protocol.specs.UnitCalls.{acknowledge_unit, capture_unit, clock_send_unit, measure_unit, offer_unit, retry_unit}
use Rattle.protocol.specs.declared.KeySent.{KeySent}
use Rattle.protocol.specs.declared.OltAnswer.{OltAnswer}
use Rattle.protocol.proofs.Lift.{lift_invalid}
use Rattle.group_protocol.specs.GroupCalls.{group_advanced}
use Rattle.group_protocol.specs.Head.{apart_llids, find_group, group_from, group_llids, valid_groups, valid_head, with_olt}
use Rattle.group_protocol.specs.declared.Answer.{Answer}
use Rattle.group_protocol.specs.declared.GroupRecord.{GroupRecord}
use Rattle.group_protocol.specs.declared.Groups.{Groups}
use Rattle.group_protocol.specs.declared.HeadEnd.{HeadEnd}
use Rattle.headend.specs.HeadCalls.{groups_advanced, head_acknowledge_of, head_advanced, head_advance_of, head_answer, head_capture_of, head_clock_send_of, head_measure_of, head_offer_of, head_register_of, head_retry_of, olt_answered, olt_clock_sent, olt_key_sent, own_acknowledgement, unit_verdict}
use Rattle.headend.specs.HeadTraffic.{head_receive_of, head_send_of, olt_received_in, olt_sent_in}
use Rattle.headend.specs.WithoutGroups.{WithoutGroups, answered_in, clock_sent_in, key_sent_in, received_in, sent_in}
use Rattle.headend.proofs.GroupSends.{received_valid, sent_valid}
use Rattle.headend.proofs.HeadAnswers.{answered_valid, clock_sent_valid, key_sent_valid, by_nowhere}
use Rattle.refusal.specs.Verdict.{Verdict, no_refusal}

module _ (h : HeadEnd) (none : h.groups.count ≡ 0) where
  no_group-holds : (llid : ℕ) → find_group h llid ≡ None
  unfolding find_group group_from
  no_group-holds llid = rw none

  -- only the number of units is then a cause of the groups' 1, and it is one of the OLT's
  pub no_groups_invalid : valid_groups h ≡ false → valid_olt h.olt ≡ false
  unfolding valid_groups valid_olt group_llids apart_llids all distinct meets both
  no_groups_invalid e = both_false_left _ (by_places (leb h.olt.count max_units) (rw (none, add-zero) at e)) where
    by_places : (t : Bool) → both t true ≡ false → t ≡ false
    by_places true k = k
    by_places false k = refl

pub groups_rest : (g : Groups) (n : ℕ) → g.count ≡ 0 → groups_advanced g n ≡ g
unfolding groups_advanced
groups_rest g n none =
    let t = g.table in
    let e : map (group_advanced n) (take g.count t) ++ drop g.count t ≡ t =
    ap (λ (c : ℕ). map (group_advanced n) (take c t) ++ drop c t) none in
    ap (λ (l : List GroupRecord). record { count = g.count; table = l }) e

---- what the OLT answers, standing in the head end

module _ (h : HeadEnd) (none : h.groups.count ≡ 0) where
  as_answered : (r : OltAnswer) → (valid_olt h.olt ≡ false → r ≡ record { number = number_of OutOfRange; olt = h.olt })
      → olt_answered h r ≡ answered_in h r
  unfolding olt_answered pick with_olt
  as_answered r k = by_valid (valid_groups h) refl where
    by_valid : (t : Bool) → valid_groups h ≡ t → olt_answered h r ≡ answered_in h r
    by_valid true e = sym (answered_valid h r e)
    by_valid false e = rw (e, k (no_groups_invalid h none e))

  as_key_sent : (r : KeySent) → (valid_olt h.olt ≡ false → r ≡ record { number = number_of OutOfRange; olt = h.olt; message = no_key_message })
      → olt_key_sent h r ≡ key_sent_in h r
  unfolding olt_key_sent pick with_olt
  as_key_sent r k = by_valid (valid_groups h) refl where
    by_valid : (t : Bool) → valid_groups h ≡ t → olt_key_sent h r ≡ key_sent_in h r
    by_valid true e = sym (key_sent_valid h r e)
    by_valid false e = rw (e, k (no_groups_invalid h none e))

  as_offer : (llid : ℕ) (key : List ℕ) → head_offer_of h llid key ≡ key_sent_in h (offer_of h.olt llid key)
  unfolding head_offer_of offer_of key_sent
  as_offer llid key =
      sym (by_nowhere (find_group h llid) _ _ (no_group-holds h none llid))
      ∙ as_key_sent _ (λ e. ap key_sent (lift_invalid h.olt no_key_message no_refusal llid (offer_unit llid key) e))

  as_retry : (llid : ℕ) → head_retry_of h llid ≡ key_sent_in h (retry_of h.olt llid)
  unfolding head_retry_of retry_of key_sent
  as_retry llid =
      sym (by_nowhere (find_group h llid) _ _ (no_group-holds h none llid))
      ∙ as_key_sent _ (λ e. ap key_sent (lift_invalid h.olt no_key_message no_refusal llid (retry_unit llid) e))

  as_acknowledge : (llid : ℕ) (a : Answer) → head_acknowledge_of h llid a ≡ answered_in h (acknowledge_of h.olt llid (own_acknowledgement a))
  unfolding head_acknowledge_of acknowledge_of olt_answer
  as_acknowledge llid a =
      sym (by_nowhere (find_group h llid) _ _ (no_group-holds h none llid))
      ∙ as_answered _ (λ e. ap olt_answer (lift_invalid h.olt silent no_refusal llid (acknowledge_unit (own_acknowledgement a)) e))

  as_capture : (llid : ℕ) → head_capture_of h llid ≡ answered_in h (capture_of h.olt llid)
  unfolding head_capture_of capture_of olt_answer
  as_capture llid = as_answered _ (λ e. ap olt_answer (lift_invalid h.olt silent no_refusal llid capture_unit e))

  as_measure : (llid trip : ℕ) → head_measure_of h llid trip ≡ answered_in h (measure_of h.olt llid trip)
  unfolding head_measure_of measure_of olt_answer
  as_measure llid trip = as_answered _ (λ e. ap olt_answer (lift_invalid h.olt silent _ llid (measure_unit trip) e))

  as_clock_send : (llid : ℕ) → head_clock_send_of h llid ≡ clock_sent_in h (clock_send_of h.olt llid)
  unfolding head_clock_send_of clock_send_of clock_sent olt_clock_sent pick with_olt
  as_clock_send llid = by_valid (valid_groups h) refl where
    by_valid : (t : Bool) → valid_groups h ≡ t → let r = clock_send_of h.olt llid in olt_clock_sent h r ≡ clock_sent_in h r
    by_valid true e = sym (clock_sent_valid h _ e)
    by_valid false e = rw (e, lift_invalid h.olt no_stamps no_refusal llid clock_send_unit (no_groups_invalid h none e))

---- register, advance, send, receive

module _ (h : HeadEnd) (none : h.groups.count ≡ 0) where
  head_as_olt : valid_head h ≡ valid_olt h.olt
  unfolding valid_head
  head_as_olt = by_groups (valid_groups h) refl where
    by_olt : (t : Bool) → both t true ≡ t
    by_olt true = unfold both in refl
    by_olt false = unfold both in refl

    by_groups : (t : Bool) → valid_groups h ≡ t → both (valid_olt h.olt) (valid_groups h) ≡ valid_olt h.olt
    by_groups true e = rw e (by_olt (valid_olt h.olt))
    by_groups false e = rw (no_groups_invalid h none e) (unfold both in refl)

  either_no : (a : Bool) → either a false ≡ a
  unfolding either
  either_no true = refl
  either_no false = refl

  -- the groups' causes are gone
  unit_as_olt : (i : Identity) (trip interval : ℕ) → unit_verdict h i trip interval ≡ register_verdict h.olt i trip interval
  unfolding unit_verdict register_verdict group_llids meets
  unit_as_olt i trip interval = rw (none, add-zero, either_no (either (not (distinct (llids_of i))) (meets (llids_of i) (table_llids (registered h.olt)))))

  reply_as_olt : (v : Verdict) (o : Olt) → head_answer (reply v h silent (with_olt h o) silent)
      ≡ answered_in h (olt_answer (reply v h.olt silent o silent))
  unfolding head_answer olt_answer reply with_olt
  reply_as_olt (Ok tt) o = refl
  reply_as_olt (Err r) o = refl

  as_register : (i : Identity) (trip interval : ℕ) → head_register_of h i trip interval ≡ answered_in h (register_of h.olt i trip interval)
  unfolding head_register_of register_of registering
  as_register i trip interval = rw (head_as_olt, unit_as_olt i trip interval) (reply_as_olt _ _)

  as_advance : (n : ℕ) → head_advance_of h n ≡ answered_in h (advance_olt_of h.olt n)
  unfolding head_advance_of head_advanced advance_olt_of advancing_olt with_olt
  as_advance n = rw (head_as_olt, groups_rest h.groups n none) (reply_as_olt _ _)

  as_send : (llid channel : ℕ) (p out : List ℕ) → head_send_of h llid channel p out ≡ sent_in h (olt_send_of h.olt llid channel p out)
  unfolding head_send_of olt_send_of olt_sent sending_olt olt_sent_in pick with_olt output_after passed_count passed_runs choice_enciphered
      count_carried runs_carried
  as_send llid channel p out = sym (by_nowhere (find_group h llid) _ _ (no_group-holds h none llid)) ∙ by_valid (valid_groups h) refl where
    by_valid : (t : Bool) → valid_groups h ≡ t → let r = olt_send_of h.olt llid channel p out in
        olt_sent_in h r out ≡ sent_in h r
    by_valid true e = sym (sent_valid h out _ e)
    by_valid false e = rw (e, lift_invalid h.olt no_sending _ llid (send_unit llid channel (eqs_of p)) (no_groups_invalid h none e))

  as_receive : (header : Header) (p out : List ℕ) → head_receive_of h header p out ≡ received_in h (olt_receive_of h.olt header p out)
  unfolding head_receive_of olt_receive_of olt_received receiving_olt olt_received_in pick with_olt output_after passed_count passed_runs
      choice_enciphered count_carried
      runs_carried
  as_receive header p out = sym (by_nowhere (find_group h header.llid) _ _ (no_group-holds h none header.llid)) ∙ by_valid (valid_groups h) refl where
    by_valid : (t : Bool) → valid_groups h ≡ t → let r = olt_receive_of h.olt header p out in
        olt_received_in h r out ≡ received_in h r
    by_valid true e = sym (received_valid h out _ e)
    by_valid false e = rw (e, lift_invalid h.olt no_passage _ header.llid (receive_unit header) (no_groups_invalid h none e))

---- together

pub without_groups : WithoutGroups
without_groups =
    record {
      as_olt = λ h none.
          record {
            register = as_register h none;
            advance = as_advance h none;
            capture = as_capture h none;
            measure = as_measure h none;
            clock_send = as_clock_send h none;
            offer = as_offer h none;
            retry = as_retry h none;
            acknowledge = as_acknowledge h none;
            send = as_send h none;
            receive = as_receive h none;
          };
    }
