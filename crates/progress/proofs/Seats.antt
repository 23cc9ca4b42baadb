-- Each place of the OLT's table is that of a unit, and each place in a group's record that of a unit which its registration named.
-- Assumes nothing.
use Rattle.std.specs.Prelude.{Option, Some, None}
use mathlib.Core.Path.{◌≡◌, refl, sym, ◌∙◌, ap}
use mathlib.Core.Bool.{true}
use mathlib.Core.List.{List}
use Prim.Native.Nat.{ℕ, ◌<◌}
use native.Mathlib.Omega.{arith}
use lib.ListN.{length, get_or}
use Rattle.octets.specs.Choice.{both}
use Rattle.octets.proofs.Choice.{pick_holds}
use Rattle.octets.proofs.Maps.{get_d_first}
use Rattle.octets.specs.Output.{WithOutput, with_output}
use Rattle.refusal.specs.Number.{verdict_number}
use Rattle.envelope.specs.ControlMask.{eqs_of}
use Rattle.ends.specs.Identities.{llids_of, meets}
use Rattle.ends.specs.declared.Olt.{Olt}
use Rattle.protocol.specs.Headers.{no_sending}
use Rattle.protocol.specs.Messages.{no_key_message}
use Rattle.protocol.specs.OltCalls.{capture_of, measure_of, clock_send_of, offer_of, retry_of, acknowledge_of}
use Rattle.protocol.specs.Replies.{Reply, silent}
use Rattle.protocol.specs.declared.ClockSent.{ClockSent}
use Rattle.protocol.specs.declared.Header.{Header}
use Rattle.protocol.specs.declared.KeySent.{KeySent}
use Rattle.protocol.specs.declared.OltAnswer.{OltAnswer}
use Rattle.protocol.proofs.Replies.{reply_keeps}
use Rattle.traffic.specs.Receipts.{olt_receive_of}
use Rattle.traffic.specs.Sends.{olt_send_of}
use Rattle.traffic.specs.declared.OltReceived.{OltReceived}
use Rattle.traffic.specs.declared.OltSent.{OltSent}
use Rattle.group_protocol.specs.GroupCalls as calls
use Rattle.group_protocol.specs.GroupCalls.{GroupOutcome, group_outcome, group_advanced, members_set, offer_group, retry_group, member_named, group_marked, acknowledge_group, send_group}
use Rattle.group_protocol.specs.Head.{find_group, group_at, past_group, with_group_keys, with_members, with_olt, with_group, valid_groups}
use Rattle.group_protocol.specs.Members.{unmarked, marked}
use Rattle.group_protocol.specs.declared.Answer.{Answer}
use Rattle.group_protocol.specs.declared.GroupRecord.{GroupRecord}
use Rattle.group_protocol.specs.declared.Groups.{Groups}
use Rattle.group_protocol.specs.declared.HeadEnd.{HeadEnd}
use Rattle.group_protocol.specs.Naming.{by_llid, group_lift}
use Rattle.headend.specs.HeadCalls.{head_answer, head_key_sent, olt_answered, olt_clock_sent, olt_key_sent, head_advanced, groups_advanced, head_advance_of, head_capture_of, head_measure_of, head_clock_send_of, group_offer_of, head_offer_of, group_retry_of, head_retry_of, own_acknowledgement, group_acknowledge_of, head_acknowledge_of}
use Rattle.headend.specs.HeadTraffic.{send_ahead, head_sent, olt_sent_in, group_send_of, head_send_of, head_not_received, olt_received_in, group_receive_verdict, head_receive_of}
use Rattle.headend.specs.declared.HeadAnswer.{HeadAnswer}
use Rattle.headend.specs.declared.HeadClockSent.{HeadClockSent}
use Rattle.headend.specs.declared.HeadKeySent.{HeadKeySent}
use Rattle.headend.specs.declared.HeadSent.{HeadSent}
use Rattle.headend.specs.declared.HeadReceived.{HeadReceived}
use Rattle.unicast.specs.Setting.{Site}
use Rattle.unicast.specs.History.{Entry, Lane}
use Rattle.unicast.specs.Run as run
use Rattle.unicast.specs.Run.{lane_at}
use Rattle.line.specs.History.{GroupLane, is_member}
use Rattle.line.specs.Run.{State, alone, group_lane_at}
use Rattle.line.proofs.GroupCalls.{Ends, accepted, refused, lift_ends}
use Rattle.line.proofs.Places.{set_field}
use Rattle.progress.proofs.Owned.{whose}
use Rattle.refusal.specs.Verdict.{Verdict, no_refusal}

pub record Seat (s : State) (p : ℕ) : Type 0 where
  pub unit : ℕ
  pub registered : (lane_at (alone s) unit).entry.registered ≡ true
  pub place : (lane_at (alone s) unit).entry.place ≡ p

pub record MemberSeat (l : GroupLane) (s : run.State) (p : ℕ) : Type 0 where
  pub unit : ℕ
  pub member : is_member l (lane_at s unit) ≡ true
  pub place : (lane_at s unit).entry.place ≡ p

pub record Seated (s : State) : Type 0 where
  pub units : (p : ℕ) → p < s.history.units.registrations → Seat s p
  pub members : (g j : ℕ) → g < length s.history.groups → j < (group_at s.head g).members.count
      → MemberSeat (group_lane_at s g) (alone s) (get_or (group_at s.head g).members.places j 0)

abbrev pub seats_of : GroupRecord → ℕ × List ℕ
seats_of r = (r.members.count, r.members.places)

-- nobody is registered, unit or group
pub record Sits (s t : State) : Type 0 where
  pub registrations : t.history.units.registrations ≡ s.history.units.registrations
  pub whose : (u : ℕ) → whose (lane_at (alone t) u) ≡ whose (lane_at (alone s) u)
  pub count : length t.history.groups ≡ length s.history.groups
  pub roster : (g : ℕ) → (group_lane_at t g).roster ≡ (group_lane_at s g).roster
  pub seats : (g : ℕ) → g < length s.history.groups → seats_of (group_at t.head g) ≡ seats_of (group_at s.head g)

pub member_whose : (g h : GroupLane) (l m : Lane) → h.roster ≡ g.roster → whose m ≡ whose l → is_member h m ≡ is_member g l
unfolding is_member
member_whose g h l m r e =
    rw r (ap (λ (p : Site × Entry). both p.1.registered (meets (llids_of p.0.identity) g.roster)) e)

pub seated_sits : (s t : State) → Sits s t → Seated s → Seated t
seated_sits s t b d =
    record {
      units = λ p h.
          let q = d.units p (omega (arith, h, b.registrations)) in
          record {
            unit = q.unit;
            registered = ap (λ (x : Site × Entry). x.1.registered) (b.whose q.unit) ∙ q.registered;
            place = ap (λ (x : Site × Entry). x.1.place) (b.whose q.unit) ∙ q.place;
          };
      members = λ g j h k.
          let known : g < length s.history.groups = omega (arith, h, b.count) in
          let same = b.seats g known in
          let q = d.members g j known (omega (arith, k, ap (λ (x : ℕ × List ℕ). x.0) same)) in
          record {
            unit = q.unit;
            member = member_whose (group_lane_at s g) (group_lane_at t g) _ _ (b.roster g) (b.whose q.unit) ∙ q.member;
            place = ap (λ (x : Site × Entry). x.1.place) (b.whose q.unit) ∙ q.place ∙ ap (λ (x : ℕ × List ℕ). get_or x.1 j 0) (sym same);
          };
    }

---- the records of the groups

marked_seats : (r : GroupRecord) (f : Option ℕ) → seats_of (group_marked r f) ≡ seats_of r
unfolding group_marked with_members marked
marked_seats r None = refl
marked_seats r (Some j) = refl

module _ (h : HeadEnd) where
  same_groups : (k : HeadEnd) → k.groups ≡ h.groups → (g : ℕ) → seats_of (group_at k g) ≡ seats_of (group_at h g)
  same_groups k e g = ap (λ (x : Groups). seats_of (get_or x.table g past_group)) e

  lift_seats : {H : Type 0} (nothing : H) (ahead : Verdict) (call : Olt → GroupRecord → GroupOutcome H) (i : ℕ)
      → seats_of (call h.olt (group_at h i)).group ≡ seats_of (group_at h i) → (g : ℕ)
      → seats_of (group_at (group_lift h nothing ahead call i).end g) ≡ seats_of (group_at h g)
  unfolding with_group
  lift_seats {H} nothing ahead call i e g = by_end (lift_ends h nothing ahead call i) where
    by_end : Ends h nothing ahead call i → seats_of (group_at (group_lift h nothing ahead call i).end g) ≡ seats_of (group_at h g)
    by_end (refused r q) = ap (λ (x : Reply HeadEnd H). seats_of (group_at x.end g)) q
    by_end (accepted l) =
        ap (λ (x : Reply HeadEnd H). seats_of (group_at x.end g)) l.is
        ∙ set_field seats_of h.groups.table i (call h.olt (group_at h i)).group past_group e g

  ---- a call on the OLT leaves the groups

  answered_groups : (r : OltAnswer) → (olt_answered h r).head.groups ≡ h.groups
  unfolding olt_answered with_olt
  answered_groups r = pick_holds (λ (x : HeadAnswer). x.head.groups ≡ h.groups) (valid_groups h) _ _ (λ e. refl) (λ e. refl)

  clock_sent_groups : (r : ClockSent) → (olt_clock_sent h r).head.groups ≡ h.groups
  unfolding olt_clock_sent with_olt
  clock_sent_groups r = pick_holds (λ (x : HeadClockSent). x.head.groups ≡ h.groups) (valid_groups h) _ _ (λ e. refl) (λ e. refl)

  key_sent_groups : (r : KeySent) → (olt_key_sent h r).head.groups ≡ h.groups
  unfolding olt_key_sent with_olt
  key_sent_groups r = pick_holds (λ (x : HeadKeySent). x.head.groups ≡ h.groups) (valid_groups h) _ _ (λ e. refl) (λ e. refl)

  sent_groups : (r : WithOutput OltSent) (out : List ℕ) → (olt_sent_in h r out).answer.head.groups ≡ h.groups
  unfolding olt_sent_in with_olt
  sent_groups r out = pick_holds (λ (x : WithOutput HeadSent). x.answer.head.groups ≡ h.groups) (valid_groups h) _ _ (λ e. refl) (λ e. refl)

  received_groups : (r : WithOutput OltReceived) (out : List ℕ) → (olt_received_in h r out).answer.head.groups ≡ h.groups
  unfolding olt_received_in with_olt
  received_groups r out = pick_holds (λ (x : WithOutput HeadReceived). x.answer.head.groups ≡ h.groups) (valid_groups h) _ _ (λ e. refl) (λ e. refl)

  ---- the calls

  pub advance_seats : (n g : ℕ) → g < h.groups.count → g < length h.groups.table
      → seats_of (group_at (head_advance_of h n).head g) ≡ seats_of (group_at h g)
  unfolding head_advance_of head_answer head_advanced groups_advanced group_advanced with_group_keys
  advance_seats n g used place =
      reply_keeps (λ (k : HeadEnd). seats_of (group_at k g) ≡ seats_of (group_at h g)) _ h silent _ silent refl
      (λ a. ap seats_of (get_d_first (group_advanced n) h.groups.count h.groups.table g past_group used place))

  pub capture_seats : (llid g : ℕ) → seats_of (group_at (head_capture_of h llid).head g) ≡ seats_of (group_at h g)
  unfolding head_capture_of
  capture_seats llid g = same_groups (olt_answered h (capture_of h.olt llid)).head (answered_groups (capture_of h.olt llid)) g

  pub measure_seats : (llid trip g : ℕ) → seats_of (group_at (head_measure_of h llid trip).head g) ≡ seats_of (group_at h g)
  unfolding head_measure_of
  measure_seats llid trip g = same_groups (olt_answered h (measure_of h.olt llid trip)).head (answered_groups (measure_of h.olt llid trip)) g

  pub clock_send_seats : (llid g : ℕ) → seats_of (group_at (head_clock_send_of h llid).head g) ≡ seats_of (group_at h g)
  unfolding head_clock_send_of
  clock_send_seats llid g = same_groups (olt_clock_sent h (clock_send_of h.olt llid)).head (clock_sent_groups (clock_send_of h.olt llid)) g

  pub offer_seats : (llid : ℕ) (key : List ℕ) (g : ℕ) → seats_of (group_at (head_offer_of h llid key).head g) ≡ seats_of (group_at h g)
  unfolding head_offer_of by_llid head_key_sent offer_group group_outcome calls.group_offered with_members with_group_keys unmarked
  offer_seats llid key g = by_found (find_group h llid) where
    by_found : (f : Option ℕ) → seats_of (group_at (by_llid f (olt_key_sent h (offer_of h.olt llid key)) (group_offer_of h llid key)).head g)
        ≡ seats_of (group_at h g)
    by_found None = same_groups (olt_key_sent h (offer_of h.olt llid key)).head (key_sent_groups (offer_of h.olt llid key)) g
    by_found (Some i) =
        lift_seats no_key_message no_refusal (λ o x. offer_group llid key (members_set o x.members) o.shared x) i refl g

  pub retry_seats : (llid g : ℕ) → seats_of (group_at (head_retry_of h llid).head g) ≡ seats_of (group_at h g)
  unfolding head_retry_of by_llid head_key_sent retry_group group_outcome
  retry_seats llid g = by_found (find_group h llid) where
    by_found : (f : Option ℕ) → seats_of (group_at (by_llid f (olt_key_sent h (retry_of h.olt llid)) (group_retry_of h llid)).head g)
        ≡ seats_of (group_at h g)
    by_found None = same_groups (olt_key_sent h (retry_of h.olt llid)).head (key_sent_groups (retry_of h.olt llid)) g
    by_found (Some i) = lift_seats no_key_message no_refusal (λ o x. retry_group llid o.shared x) i refl g

  pub send_seats : (llid channel : ℕ) (p out : List ℕ) (g : ℕ)
      → seats_of (group_at (head_send_of h llid channel p out).answer.head g) ≡ seats_of (group_at h g)
  unfolding head_send_of by_llid head_sent send_group with_group_keys
  send_seats llid channel p out g = by_found (find_group h llid) where
    by_found : (f : Option ℕ)
        → seats_of (group_at (by_llid f (olt_sent_in h (olt_send_of h.olt llid channel p out) out) (group_send_of h llid channel p out)).answer.head g)
        ≡ seats_of (group_at h g)
    by_found None = let r = olt_send_of h.olt llid channel p out in same_groups (olt_sent_in h r out).answer.head (sent_groups r out) g
    by_found (Some i) = lift_seats no_sending (send_ahead p out channel) (λ o x. send_group llid channel (eqs_of p) o.shared x) i refl g

  pub acknowledge_seats : (llid : ℕ) (a : Answer) (g : ℕ) → seats_of (group_at (head_acknowledge_of h llid a).head g) ≡ seats_of (group_at h g)
  unfolding head_acknowledge_of by_llid head_answer acknowledge_group group_outcome
  acknowledge_seats llid a g = by_found (find_group h llid) where
    by_found : (f : Option ℕ)
        → seats_of (group_at (by_llid f (olt_answered h (acknowledge_of h.olt llid (own_acknowledgement a))) (group_acknowledge_of h a)).head g)
        ≡ seats_of (group_at h g)
    by_found None =
        let r = acknowledge_of h.olt llid (own_acknowledgement a) in
        same_groups (olt_answered h r).head (answered_groups r) g
    by_found (Some i) =
        lift_seats silent no_refusal (λ o x. acknowledge_group a (member_named o x.members a) o.shared x) i
        (marked_seats (group_at h i) (member_named h.olt (group_at h i).members a)) g

  pub receive_seats : (x : Header) (p out : List ℕ) (g : ℕ) → seats_of (group_at (head_receive_of h x p out).answer.head g) ≡ seats_of (group_at h g)
  unfolding head_receive_of by_llid
  receive_seats x p out g = by_found (find_group h x.llid) where
    by_found : (f : Option ℕ)
        → seats_of (group_at (by_llid f (olt_received_in h (olt_receive_of h.olt x p out) out)
        (λ i. with_output (head_not_received h (verdict_number (group_receive_verdict h x (length p) (length out)))) out)).answer.head g)
        ≡ seats_of (group_at h g)
    by_found None = same_groups (olt_received_in h (olt_receive_of h.olt x p out) out).answer.head (received_groups (olt_receive_of h.olt x p out) out) g
    by_found (Some i) = refl
