-- A valid head end stays valid after each call. Assumes nothing.
use Rattle.std.specs.Prelude.{Option, Some, None}
use mathlib.Core.Path.{◌≡◌, refl}
use mathlib.Core.Bool.{true}
use mathlib.Core.List.{List}
use Prim.Native.Nat.{ℕ, ◌≤◌, ◌<◌}
use native.Mathlib.Omega.{arith}
use lib.ListN.{length-take}
use lib.Seq.{get_or-take}
use Rattle.octets.proofs.Choice.{pick_holds}
use Rattle.octets.proofs.Tests.{all_at}
use Rattle.refusal.proofs.Order.{refuse_accepted, then_accepted}
use Rattle.ends.specs.Occupancy.{valid_channels}
use Rattle.ends.specs.Records.{with_clock, with_keys}
use Rattle.ends.specs.Table.{registered, table_llids}
use Rattle.ends.specs.Validity.{valid_olt}
use Rattle.ends.specs.declared.Channels.{Channels}
use Rattle.ends.specs.declared.Olt.{Olt}
use Rattle.ends.specs.declared.Shared.{Shared}
use Rattle.ends.specs.declared.UnitRecord.{UnitRecord}
use Rattle.ends.proofs.Occupancy.{occupied_valid}
use Rattle.ends.proofs.Table.{table_same}
use Rattle.ends.proofs.Validity.{olt_in_range, shared_in_range, with_channels_valid}
use Rattle.envelope.specs.ControlMask.{eqs_of}
use Rattle.octets.specs.Eqs.{max_eqs}
use Rattle.octets.specs.Output.{WithOutput}
use Rattle.protocol.specs.Headers.{no_passage, no_sending}
use Rattle.protocol.specs.Lift.{Outcome, outcome, lift}
use Rattle.protocol.specs.Messages.{no_key_message, no_stamps}
use Rattle.protocol.specs.OltCalls.{acknowledge_of, capture_of, clock_send_of, clock_sent, key_sent, measure_of, offer_of, olt_answer, retry_of}
use Rattle.protocol.specs.OltTraffic.{receiving_olt, sending_olt}
use Rattle.protocol.specs.Replies.{silent}
use Rattle.protocol.specs.UnitCalls.{acknowledge_unit, capture_unit, clock_send_unit, measure_unit, offer_unit, retry_unit}
use Rattle.protocol.specs.UnitTraffic.{receive_unit, send_unit}
use Rattle.protocol.specs.declared.Header.{Header}
use Rattle.protocol.specs.declared.KeySent.{KeySent}
use Rattle.protocol.specs.declared.OltAnswer.{OltAnswer}
use Rattle.protocol.proofs.Lift.{lift_beside, lift_same_units}
use Rattle.protocol.proofs.OltCalls.{acknowledge_valid, capture_valid, clock_send_valid, measure_valid, offer_valid, retry_valid}
use Rattle.protocol.proofs.Replies.{reply_keeps}
use Rattle.protocol.proofs.UnitCalls.{acknowledge_keeps, capture_keeps, clock_send_keeps, offer_keeps, retry_keeps}
use Rattle.protocol.proofs.UnitTraffic.{receive_keeps}
use Rattle.traffic.specs.Receipts.{olt_received, olt_receive_of}
use Rattle.traffic.specs.Sends.{olt_send_of, olt_sent}
use Rattle.traffic.specs.declared.OltReceived.{OltReceived}
use Rattle.traffic.specs.declared.OltSent.{OltSent}
use Rattle.traffic.proofs.Passages.{few_eqs}
use Rattle.traffic.proofs.Receipts.{olt_receive_valid}
use Rattle.traffic.proofs.Sends.{olt_send_valid}
use Rattle.group_protocol.specs.GroupCalls.{GroupOutcome, acknowledge_group, group_offered, group_outcome, group_send_choice, member_named, members_set, offer_group, retry_group, send_group}
use Rattle.group_protocol.specs.Head.{find_group, group_at, past_group, registered_groups, valid_group, valid_groups, valid_head, with_group, with_group_keys, with_members, with_olt}
use Rattle.group_protocol.specs.declared.Answer.{Answer}
use Rattle.group_protocol.specs.declared.GroupRecord.{GroupRecord}
use Rattle.group_protocol.specs.declared.HeadEnd.{HeadEnd}
use Rattle.group_protocol.proofs.Found.{Stands, group_at-holds}
use Rattle.group_protocol.proofs.GroupSteps.{group_marked_valid, group_offered_valid, group_sent_valid, marked_llid}
use Rattle.group_protocol.proofs.HeadGroups.{replaced_groups_valid}
use Rattle.group_protocol.proofs.HeadValidity.{groups_in_range, groups_valid, head_in_range, head_valid}
use Rattle.headend.specs.HeadCalls.{head_acknowledge_of, head_answer, head_capture_of, head_clock_send_of, head_key_sent, head_measure_of, head_offer_of, head_retry_of, olt_answered, olt_clock_sent, olt_key_sent, own_acknowledgement}
use Rattle.headend.specs.HeadTraffic.{head_receive_of, head_send_of, head_sent, olt_received_in, olt_sent_in}
use Rattle.group_protocol.specs.Naming.{by_llid, group_lift, put_group}
use Rattle.headend.specs.declared.HeadAnswer.{HeadAnswer}
use Rattle.headend.specs.declared.HeadClockSent.{HeadClockSent}
use Rattle.headend.specs.declared.HeadKeySent.{HeadKeySent}
use Rattle.headend.specs.declared.HeadReceived.{HeadReceived}
use Rattle.headend.specs.declared.HeadSent.{HeadSent}
use Rattle.refusal.specs.Verdict.{Verdict, no_refusal}

---- the OLT replaced

-- the same units at the same tick
pub record SameTable (o p : Olt) : Type 0 where
  pub tick : p.shared.tick ≡ o.shared.tick
  pub count : p.count ≡ o.count
  pub llids : table_llids (registered p) ≡ table_llids (registered o)

pub with_olt_valid : (h : HeadEnd) (o : Olt) → SameTable h.olt o → valid_olt o ≡ true → valid_head h ≡ true → valid_head (with_olt h o) ≡ true
unfolding with_olt
with_olt_valid h o s v w =
    let r = groups_in_range h (head_in_range h w).groups in
    head_valid (with_olt h o)
    (record {
      olt = v;
      groups =
          groups_valid (with_olt h o)
          (record {
            places = rw s.count r.places;
            each = rw (s.tick, s.count) r.each;
            distinct = r.distinct;
            apart = rw s.llids r.apart;
          });
    })

---- one group replaced

-- a group of a valid head end is valid
pub group_at_valid : (h : HeadEnd) (llid i : ℕ) → valid_head h ≡ true → Stands h llid i
    → valid_group h.olt.shared.tick h.olt.count (group_at h i) ≡ true
group_at_valid h llid i v s =
    rw (get_or-take h.groups.count h.groups.table i past_group s.used)
    at
    (all_at (valid_group h.olt.shared.tick h.olt.count) (registered_groups h) i past_group (groups_in_range h (head_in_range h v).groups).each
    (omega (arith, length-take h.groups.count h.groups.table, s.used, s.place)))

pub with_group_valid : (h : HeadEnd) (i : ℕ) (c : Channels) (g : GroupRecord) → i < h.groups.count → g.llid ≡ (group_at h i).llid
    → valid_group h.olt.shared.tick h.olt.count g ≡ true → valid_channels c ≡ true → valid_head h ≡ true
    → valid_head (with_group h i c g) ≡ true
unfolding with_group
with_group_valid h i c g k e v w u =
    let r = head_in_range h u in
    head_valid (with_group h i c g)
    (record { olt = with_channels_valid h.olt c w r.olt; groups = replaced_groups_valid h i c g k e v r.groups })

-- an accepted call on a group leaves a valid group, of the same LLID, and valid channels
pub record GroupKeeps {H : Type 0} (call : Olt → GroupRecord → GroupOutcome H) : Type 0 where
  pub llid : (o : Olt) (g : GroupRecord) → (call o g).group.llid ≡ g.llid
  pub group : (o : Olt) (g : GroupRecord) → valid_group o.shared.tick o.count g ≡ true
      → valid_group o.shared.tick o.count (call o g).group ≡ true
  pub channels : (o : Olt) (g : GroupRecord) → valid_olt o ≡ true → valid_channels (call o g).channels ≡ true

pub group_lift_valid : {H : Type 0} (h : HeadEnd) (nothing : H) (ahead : Verdict) (call : Olt → GroupRecord → GroupOutcome H) (llid i : ℕ)
    → (ahead ≡ no_refusal → GroupKeeps call) → Stands h llid i → valid_head h ≡ true → valid_head (group_lift h nothing ahead call i).end ≡ true
unfolding group_lift put_group
group_lift_valid h nothing ahead call llid i keeps s v =
    reply_keeps (λ (x : HeadEnd). valid_head x ≡ true) _ h nothing _ _ v
    (λ a.
    let k = keeps (then_accepted _ _ (refuse_accepted _ _ _ a).1).0 in
    with_group_valid h i _ _ s.used (k.llid h.olt (group_at h i)) (k.group h.olt (group_at h i) (group_at_valid h llid i v s))
    (k.channels h.olt (group_at h i) (head_in_range h v).olt) v)

---- calls on the OLT

lift_table : {H : Type 0} (o : Olt) (nothing : H) (ahead : Verdict) (llid : ℕ) (call : Shared → UnitRecord → Outcome H)
    → ((s : Shared) (u : UnitRecord) → (call s u).unit.identity ≡ u.identity) → SameTable o (lift o nothing ahead llid call).end
lift_table o nothing ahead llid call k =
    let b = lift_beside o nothing ahead llid call in
    record { tick = b.tick; count = b.count; llids = table_same _ o (lift_same_units o nothing ahead llid call k) }

module _ (h : HeadEnd) (v : valid_head h ≡ true) where
  answered_after : (r : OltAnswer) → SameTable h.olt r.olt → valid_olt r.olt ≡ true → valid_head (olt_answered h r).head ≡ true
  unfolding olt_answered
  answered_after r s w = pick_holds (λ (x : HeadAnswer). valid_head x.head ≡ true) (valid_groups h) _ _ (λ e. with_olt_valid h r.olt s w v) (λ e. v)

  key_sent_after : (r : KeySent) → SameTable h.olt r.olt → valid_olt r.olt ≡ true → valid_head (olt_key_sent h r).head ≡ true
  unfolding olt_key_sent
  key_sent_after r s w = pick_holds (λ (x : HeadKeySent). valid_head x.head ≡ true) (valid_groups h) _ _ (λ e. with_olt_valid h r.olt s w v) (λ e. v)

  sent_after : (r : WithOutput OltSent) (out : List ℕ) → SameTable h.olt r.answer.olt → valid_olt r.answer.olt ≡ true
      → valid_head (olt_sent_in h r out).answer.head ≡ true
  unfolding olt_sent_in
  sent_after r out s w =
      pick_holds (λ (x : WithOutput HeadSent). valid_head x.answer.head ≡ true) (valid_groups h) _ _ (λ e. with_olt_valid h r.answer.olt s w v)
      (λ e. v)

  received_after : (r : WithOutput OltReceived) (out : List ℕ) → SameTable h.olt r.answer.olt → valid_olt r.answer.olt ≡ true
      → valid_head (olt_received_in h r out).answer.head ≡ true
  unfolding olt_received_in
  received_after r out s w =
      pick_holds (λ (x : WithOutput HeadReceived). valid_head x.answer.head ≡ true) (valid_groups h) _ _ (λ e. with_olt_valid h r.answer.olt s w v)
      (λ e. v)

  pub valid_after_capture : (llid : ℕ) → valid_head (head_capture_of h llid).head ≡ true
  unfolding head_capture_of capture_of olt_answer
  valid_after_capture llid =
      answered_after _ (lift_table h.olt silent no_refusal llid capture_unit capture_keeps.identity)
      (capture_valid h.olt llid (head_in_range h v).olt)

  pub valid_after_measure : (llid trip : ℕ) → valid_head (head_measure_of h llid trip).head ≡ true
  unfolding head_measure_of measure_of olt_answer measure_unit outcome with_clock
  valid_after_measure llid trip =
      answered_after _ (lift_table h.olt silent _ llid (measure_unit trip) (λ s u. refl))
      (measure_valid h.olt llid trip (head_in_range h v).olt)

  pub valid_after_clock_send : (llid : ℕ) → valid_head (head_clock_send_of h llid).head ≡ true
  unfolding head_clock_send_of olt_clock_sent clock_send_of clock_sent
  valid_after_clock_send llid =
      pick_holds (λ (x : HeadClockSent). valid_head x.head ≡ true) (valid_groups h) _ _
      (λ e.
      with_olt_valid h _ (lift_table h.olt no_stamps no_refusal llid clock_send_unit clock_send_keeps.identity)
      (clock_send_valid h.olt llid (head_in_range h v).olt) v)
      (λ e. v)

---- calls on a unit or a group

by_llid-holds : {R : Type 0} (P : R → Type 0) (f : Option ℕ) (alone : R) (group : ℕ → R) → P alone → ((i : ℕ) → f ≡ Some i → P (group i))
    → P (by_llid f alone group)
unfolding by_llid
by_llid-holds P None alone group p q = p
by_llid-holds P (Some i) alone group p q = q i refl

olt_channels : (o : Olt) → valid_olt o ≡ true → valid_channels o.shared.channels ≡ true
olt_channels o v = (shared_in_range o.shared (olt_in_range o v).shared).channels

offer_group_keeps : (llid : ℕ) (key : List ℕ) → GroupKeeps (λ o g. offer_group llid key (members_set o g.members) o.shared g)
unfolding offer_group group_outcome group_offered with_group_keys with_members
offer_group_keeps llid key =
    record {
      llid = λ o g. refl;
      group = λ o g w. group_offered_valid o.shared.tick o.count g w key;
      channels = λ o g w. olt_channels o w;
    }

retry_group_keeps : (llid : ℕ) → GroupKeeps (λ o g. retry_group llid o.shared g)
unfolding retry_group group_outcome
retry_group_keeps llid = record { llid = λ o g. refl; group = λ o g w. w; channels = λ o g w. olt_channels o w }

acknowledge_group_keeps : (a : Answer) → GroupKeeps (λ o g. acknowledge_group a (member_named o g.members a) o.shared g)
unfolding acknowledge_group group_outcome
acknowledge_group_keeps a =
    record {
      llid = λ o g. marked_llid g _;
      group = λ o g w. group_marked_valid o.shared.tick o.count g w _;
      channels = λ o g w. olt_channels o w;
    }

send_group_keeps : (llid channel eqs : ℕ) → eqs ≤ max_eqs → GroupKeeps (λ o g. send_group llid channel eqs o.shared g)
unfolding send_group with_group_keys
send_group_keeps llid channel eqs few =
    record {
      llid = λ o g. refl;
      group = λ o g w. group_sent_valid o.shared.tick o.count g w (group_send_choice g.keys);
      channels = λ o g w.
          let s = shared_in_range o.shared (olt_in_range o w).shared in
          occupied_valid o.shared.channels channel o.shared.tick eqs s.tick few s.channels;
    }

pub send_identity : (llid channel eqs : ℕ) (s : Shared) (u : UnitRecord) → (send_unit llid channel eqs s u).unit.identity ≡ u.identity
unfolding send_unit with_keys
send_identity llid channel eqs s u = refl

module _ (h : HeadEnd) (v : valid_head h ≡ true) where
  pub valid_after_offer : (llid : ℕ) (key : List ℕ) → valid_head (head_offer_of h llid key).head ≡ true
  unfolding head_offer_of offer_of key_sent head_key_sent
  valid_after_offer llid key =
      by_llid-holds (λ (x : HeadKeySent). valid_head x.head ≡ true) (find_group h llid) _ _
      (key_sent_after h v _ (lift_table h.olt no_key_message no_refusal llid (offer_unit llid key) (offer_keeps llid key).identity)
      (offer_valid h.olt llid key (head_in_range h v).olt))
      (λ i f. group_lift_valid h no_key_message no_refusal _ llid i (λ a. offer_group_keeps llid key) (group_at-holds h llid i f) v)

  pub valid_after_retry : (llid : ℕ) → valid_head (head_retry_of h llid).head ≡ true
  unfolding head_retry_of retry_of key_sent head_key_sent
  valid_after_retry llid =
      by_llid-holds (λ (x : HeadKeySent). valid_head x.head ≡ true) (find_group h llid) _ _
      (key_sent_after h v _ (lift_table h.olt no_key_message no_refusal llid (retry_unit llid) (retry_keeps llid).identity)
      (retry_valid h.olt llid (head_in_range h v).olt))
      (λ i f. group_lift_valid h no_key_message no_refusal _ llid i (λ a. retry_group_keeps llid) (group_at-holds h llid i f) v)

  pub valid_after_acknowledge : (llid : ℕ) (a : Answer) → valid_head (head_acknowledge_of h llid a).head ≡ true
  unfolding head_acknowledge_of acknowledge_of olt_answer head_answer
  valid_after_acknowledge llid a =
      by_llid-holds (λ (x : HeadAnswer). valid_head x.head ≡ true) (find_group h llid) _ _
      (answered_after h v _
      (lift_table h.olt silent no_refusal llid (acknowledge_unit (own_acknowledgement a)) (acknowledge_keeps (own_acknowledgement a)).identity)
      (acknowledge_valid h.olt llid (own_acknowledgement a) (head_in_range h v).olt))
      (λ i f. group_lift_valid h silent no_refusal _ llid i (λ e. acknowledge_group_keeps a) (group_at-holds h llid i f) v)

  pub valid_after_send : (llid channel : ℕ) (p out : List ℕ) → valid_head (head_send_of h llid channel p out).answer.head ≡ true
  unfolding head_send_of olt_send_of olt_sent sending_olt head_sent
  valid_after_send llid channel p out =
      by_llid-holds (λ (x : WithOutput HeadSent). valid_head x.answer.head ≡ true) (find_group h llid) _ _
      (sent_after h v _ out (lift_table h.olt no_sending _ llid (send_unit llid channel (eqs_of p)) (send_identity llid channel (eqs_of p)))
      (olt_send_valid h.olt llid channel p out (head_in_range h v).olt))
      (λ i f.
      group_lift_valid h no_sending _ _ llid i (λ a. send_group_keeps llid channel (eqs_of p) (few_eqs p out (refuse_accepted _ _ _ a).0))
      (group_at-holds h llid i f) v)

  pub valid_after_receive : (header : Header) (p out : List ℕ) → valid_head (head_receive_of h header p out).answer.head ≡ true
  unfolding head_receive_of olt_receive_of olt_received receiving_olt
  valid_after_receive header p out =
      by_llid-holds (λ (x : WithOutput HeadReceived). valid_head x.answer.head ≡ true) (find_group h header.llid) _ _
      (received_after h v _ out (lift_table h.olt no_passage _ header.llid (receive_unit header) (receive_keeps header).identity)
      (olt_receive_valid h.olt header p out (head_in_range h v).olt))
      (λ i f. v)
