-- On a valid head end each call is what the party that it names decides, put in its place. Assumes nothing.
use Rattle.std.specs.Prelude.{Ok, Err, Option, Some, None}
use mathlib.Core.Path.{◌≡◌, refl, sym, ap, ◌∙◌}
use mathlib.Core.Bool.{Bool, true, false, not}
use mathlib.Core.List.{List}
use Prim.Native.Nat.{ℕ}
use Rattle.octets.specs.Choice.{both, pick}
use Rattle.octets.proofs.Choice.{both_right}
use Rattle.refusal.specs.Number.{verdict_number}
use Rattle.refusal.specs.Order.{and_then, refuse_if}
use Rattle.refusal.specs.declared.Refusal.{Refusal}
use Rattle.refusal.specs.declared.Refusal.TheVariants.{BadLength, GroupLlid, OutOfRange, UnknownLlid}
use Rattle.envelope.specs.Channels.{upstream}
use Rattle.ends.specs.Records.{with_channels}
use Rattle.ends.specs.Table.{find, unit_at, with_olt_channels, with_unit}
use Rattle.ends.specs.Validity.{valid_olt}
use Rattle.ends.specs.declared.Olt.{Olt}
use Rattle.ends.specs.declared.Shared.{Shared}
use Rattle.ends.specs.declared.UnitRecord.{UnitRecord}
use Rattle.ends.proofs.Table.{with_itself}
use Rattle.protocol.specs.Headers.{choice_enciphered, no_passage, valid_header}
use Rattle.protocol.specs.Lift.{Outcome, after, at_unit, lift, put_back}
use Rattle.protocol.specs.OltCalls.{acknowledge_of, capture_of, clock_send_of, clock_sent, key_sent, measure_of, offer_of, olt_answer, retry_of}
use Rattle.protocol.specs.OltTraffic.{receiving_olt, sending_olt}
use Rattle.protocol.specs.Replies.{Reply, on_valid, reply}
use Rattle.protocol.specs.declared.Header.{Header}
use Rattle.sealing.specs.Seal.{count_carried, runs_carried}
use Rattle.traffic.specs.Passages.{misfit, output_after, passed_count, passed_runs}
use Rattle.traffic.specs.Receipts.{olt_received, olt_receive_of}
use Rattle.traffic.specs.Sends.{olt_send_of, olt_sent}
use Rattle.unit.specs.Reached.{if_accepted}
use Rattle.group_protocol.specs.GroupCalls.{GroupOutcome, group_outcome, members_set}
use Rattle.group_protocol.specs.Head.{find_group, group_at, valid_groups, valid_head, with_group, with_olt}
use Rattle.group_protocol.specs.declared.HeadEnd.{HeadEnd}
use Rattle.group_protocol.proofs.HeadValidity.{head_in_range}
use Rattle.headend.specs.HeadCalls.{head_acknowledge_of, head_answer, head_capture_of, head_clock_send_of, head_key_sent, head_measure_of, head_offer_of, head_retry_of, olt_answered, olt_clock_sent, olt_key_sent}
use Rattle.headend.specs.HeadTraffic.{group_receive_verdict, head_receive_of, head_send_of, head_sent, olt_received_in, olt_sent_in}
use Rattle.group_protocol.specs.Naming.{by_llid, group_lift, put_group}
use Rattle.headend.proofs.HeadLift.{with_group_itself}
use Rattle.orders.specs.Calls.{Call, Made, made, capture, measure, clock_send, offer, retry, acknowledge, send, receive, received}
use Rattle.orders.specs.Parties.{Party, group, llid_of, nobody, party_of, unit_party}
use Rattle.orders.proofs.Decisions.{asked, by_verdict, decided, made_by, own_of, put, seen, shape}
use Rattle.orders.proofs.Named.{group_no_unit}
use Rattle.refusal.specs.Verdict.{Verdict, no_refusal}

---- the lift at a place, and where nobody has the LLID

module _ {H : Type 0} (o : Olt) (nothing : H) (ahead : Verdict) (llid : ℕ) (call : Shared → UnitRecord → Outcome H) (valid : valid_olt o ≡ true) where
  lift_at : (i : ℕ) → find o llid ≡ Some i → let x = call o.shared (unit_at o i) in let w = and_then ahead x.verdict in
      lift o nothing ahead llid call
      ≡ record {
        verdict = w;
        end = with_unit o i (if_accepted w x.channels o.shared.channels) (if_accepted w x.unit (unit_at o i));
        handed = if_accepted w x.handed nothing;
      }
  unfolding lift after at_unit put_back refuse_if and_then reply if_accepted
  lift_at i f = rw (valid, f) (by_ahead ahead) where
    x : Outcome H
    x = call o.shared (unit_at o i)

    left : Verdict → Reply Olt H
    left w =
        record {
          verdict = w;
          end = with_unit o i (if_accepted w x.channels o.shared.channels) (if_accepted w x.unit (unit_at o i));
          handed = if_accepted w x.handed nothing;
        }

    by_verdict-holds : (w : Verdict) → reply w o nothing (with_unit o i x.channels x.unit) x.handed ≡ left w
    by_verdict-holds (Ok tt) = refl
    by_verdict-holds (Err r) = rw (with_itself o i)

    by_ahead : (a : Verdict) → after (on_valid true a) o nothing (put_back o nothing i x) ≡ left (and_then a x.verdict)
    by_ahead (Ok tt) = by_verdict-holds x.verdict
    by_ahead (Err r) = rw (with_itself o i)

  lift_nowhere : find o llid ≡ None → lift o nothing ahead llid call
      ≡ record { verdict = and_then ahead (Err UnknownLlid); end = o; handed = nothing }
  unfolding lift after at_unit refuse_if and_then reply
  lift_nowhere f = rw (valid, f) (by_ahead ahead) where
    by_ahead : (a : Verdict) → after (on_valid true a) o nothing (reply (Err UnknownLlid) o nothing o nothing)
        ≡ record { verdict = and_then a (Err UnknownLlid); end = o; handed = nothing }
    by_ahead (Ok tt) = refl
    by_ahead (Err r) = refl

---- what the OLT replies, standing in the head end

abbrev lifted : HeadEnd → (c : Call) → Reply Olt (shape c).Handed
lifted h c = lift h.olt (shape c).nothing (shape c).ahead (llid_of c) (shape c).on_unit

abbrev replied : HeadEnd → (c : Call) → Reply Olt (shape c).Handed → Made
replied h c r = record { told = (shape c).tell r.verdict r.handed; head = with_olt h r.end }

module _ (h : HeadEnd) (valid : valid_head h ≡ true) where
  olt_valid : valid_olt h.olt ≡ true
  olt_valid = (head_in_range h valid).olt

  groups_valid : valid_groups h ≡ true
  unfolding valid_head
  groups_valid = both_right _ _ valid

  -- no clock call knows the groups
  capture_made : (llid : ℕ) → made h (capture llid) ≡ replied h (capture llid) (lifted h (capture llid))
  unfolding made head_capture_of capture_of olt_answer olt_answered pick
  capture_made llid = rw groups_valid

  measure_made : (llid trip : ℕ) → made h (measure llid trip) ≡ replied h (measure llid trip) (lifted h (measure llid trip))
  unfolding made head_measure_of measure_of olt_answer olt_answered pick
  measure_made llid trip = rw groups_valid

  clock_send_made : (llid : ℕ) → made h (clock_send llid) ≡ replied h (clock_send llid) (lifted h (clock_send llid))
  unfolding made head_clock_send_of clock_send_of clock_sent olt_clock_sent pick
  clock_send_made llid = rw groups_valid

  -- where no group has the LLID
  olt_made : (c : Call) → find_group h (llid_of c) ≡ None → made h c ≡ replied h c (lifted h c)
  unfolding
      made by_llid pick
      head_offer_of offer_of head_retry_of retry_of key_sent olt_key_sent
      head_acknowledge_of acknowledge_of olt_answer olt_answered
      head_send_of olt_send_of olt_sent sending_olt olt_sent_in
      head_receive_of olt_receive_of olt_received receiving_olt olt_received_in
  olt_made (capture llid) n = capture_made llid
  olt_made (measure llid trip) n = measure_made llid trip
  olt_made (clock_send llid) n = clock_send_made llid
  olt_made (offer llid key) n = rw (n, groups_valid)
  olt_made (retry llid) n = rw (n, groups_valid)
  olt_made (acknowledge llid answer) n = rw (n, groups_valid)
  olt_made (send llid channel payload output) n = rw (n, groups_valid)
  olt_made (receive header payload output) n = rw (n, groups_valid)

---- what a group replies

refused_reply : {H : Type 0} (a : Verdict) (r : Refusal) (h : HeadEnd) (nothing : H) (next : HeadEnd) (handed : H)
    → reply (and_then a (Err r)) h nothing next handed ≡ record { verdict = and_then a (Err r); end = h; handed = nothing }
unfolding reply and_then
refused_reply (Ok tt) r h nothing next handed = refl
refused_reply (Err x) r h nothing next handed = refl

module _ (h : HeadEnd) (i : ℕ) where
  abbrev group_asked : (c : Call) → GroupOutcome (shape c).Handed
  group_asked c =
      (shape c).on_group (members_set h.olt (group_at h i).members) ((shape c).names h.olt (group_at h i).members) h.olt.shared (group_at h i)

  abbrev group_reply : (c : Call) → Reply HeadEnd (shape c).Handed
  group_reply c =
      let x = group_asked c in
      reply (and_then (shape c).ahead x.verdict) h (shape c).nothing (with_group h i x.channels x.group) x.handed

  abbrev group_replied : (c : Call) → Reply HeadEnd (shape c).Handed → Made
  group_replied c r = record { told = (shape c).tell r.verdict r.handed; head = r.end }

-- on a group's LLID the OLT receives nothing
receive_refused : (h next : HeadEnd) (header : Header) (payload output : List ℕ) (a b : Bool)
    → let c = receive header payload output in
    let r = reply (and_then (refuse_if a BadLength (refuse_if b OutOfRange no_refusal)) (Err GroupLlid)) h no_passage next no_passage in
    let m : Made =
    record { told = received (verdict_number (refuse_if a BadLength (refuse_if b OutOfRange (Err GroupLlid)))) 0 0 output; head = h } in
    m ≡ record { told = (shape c).tell r.verdict r.handed; head = r.end }
unfolding reply and_then refuse_if output_after passed_count passed_runs choice_enciphered count_carried runs_carried pick
receive_refused h next header payload output true b = refl
receive_refused h next header payload output false true = refl
receive_refused h next header payload output false false = refl

module _ (h : HeadEnd) (i : ℕ) (valid : valid_head h ≡ true) where
  clock_made : (c : Call) → find h.olt (llid_of c) ≡ None → made h c ≡ replied h c (lifted h c)
      → group_reply h i c ≡ record { verdict = and_then (shape c).ahead (Err UnknownLlid); end = h; handed = (shape c).nothing }
      → made h c ≡ group_replied h i c (group_reply h i c)
  unfolding with_olt
  clock_made c n m r =
      m ∙ ap (replied h c) (lift_nowhere h.olt (shape c).nothing (shape c).ahead (llid_of c) (shape c).on_unit (olt_valid h valid) n)
      ∙ ap (group_replied h i c) (sym r)

  group_made : (c : Call) → find_group h (llid_of c) ≡ Some i → made h c ≡ group_replied h i c (group_reply h i c)
  unfolding
      made by_llid group_lift put_group group_outcome refuse_if misfit
      head_offer_of head_retry_of head_key_sent head_acknowledge_of head_answer head_send_of head_sent head_receive_of group_receive_verdict
  group_made (capture llid) f =
      clock_made (capture llid) (group_no_unit h llid i valid f) (capture_made h valid llid) (refused_reply _ UnknownLlid h _ _ _)
  group_made (measure llid trip) f =
      clock_made (measure llid trip) (group_no_unit h llid i valid f) (measure_made h valid llid trip) (refused_reply _ UnknownLlid h _ _ _)
  group_made (clock_send llid) f =
      clock_made (clock_send llid) (group_no_unit h llid i valid f) (clock_send_made h valid llid) (refused_reply _ UnknownLlid h _ _ _)
  group_made (offer llid key) f = rw (f, valid)
  group_made (retry llid) f = rw (f, valid)
  group_made (acknowledge llid answer) f = rw (f, valid)
  group_made (send llid channel payload output) f = rw (f, valid)
  group_made (receive header payload output) f =
      rw (f, valid)
      (receive_refused h (with_group h i h.olt.shared.channels (group_at h i)) header payload output (misfit payload output)
      (not (both (upstream header.channel) (valid_header header))))

---- together

-- a group's reply is its decision, put in its place
reply_put : {H : Type 0} (h : HeadEnd) (nothing : H) (i : ℕ) (x : GroupOutcome H) (w : Verdict)
    → reply w h nothing (with_group h i x.channels x.group) x.handed
    ≡ record {
      verdict = w;
      end = with_group h i (if_accepted w x.channels h.olt.shared.channels) (if_accepted w x.group (group_at h i));
      handed = if_accepted w x.handed nothing;
    }
unfolding reply if_accepted
reply_put h nothing i x (Ok tt) = refl
reply_put h nothing i x (Err r) = rw (with_group_itself h i)

module _ (h : HeadEnd) (c : Call) (valid : valid_head h ≡ true) where
  abbrev decided_by : Party → Made
  decided_by p = made_by h c p (decided c p (seen h p c) (own_of h p))

  nobody_put : (a : Verdict) → let x = asked c nobody (seen h nobody c) tt in
      let d = by_verdict (and_then a (Err UnknownLlid)) (shape c).nothing h.olt.shared.channels tt x in
      replied h c (record { verdict = and_then a (Err UnknownLlid); end = h.olt; handed = (shape c).nothing }) ≡ made_by h c nobody d
  unfolding asked by_verdict put and_then if_accepted with_olt with_olt_channels with_channels
  nobody_put (Ok tt) = refl
  nobody_put (Err r) = refl

  by_found : (f g : Option ℕ) → find_group h (llid_of c) ≡ f → find h.olt (llid_of c) ≡ g → made h c ≡ decided_by (by_llid f (unit_party g) group)
  unfolding asked by_verdict put by_llid unit_party
  by_found (Some i) g e n = group_made h i valid c e ∙ ap (group_replied h i c) (reply_put h (shape c).nothing i (group_asked h i c) _)
  by_found None (Some i) e n =
      olt_made h valid c e
      ∙ ap (replied h c) (lift_at h.olt (shape c).nothing (shape c).ahead (llid_of c) (shape c).on_unit (olt_valid h valid) i n)
  by_found None None e n =
      olt_made h valid c e
      ∙ ap (replied h c) (lift_nowhere h.olt (shape c).nothing (shape c).ahead (llid_of c) (shape c).on_unit (olt_valid h valid) n)
      ∙ nobody_put (shape c).ahead

  pub made_decided : (p : Party) → party_of h c ≡ p → made h c ≡ made_by h c p (decided c p (seen h p c) (own_of h p))
  unfolding party_of
  made_decided p e = by_found (find_group h (llid_of c)) (find h.olt (llid_of c)) refl refl ∙ ap decided_by e
