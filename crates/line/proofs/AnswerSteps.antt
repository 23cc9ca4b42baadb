-- An acknowledgement of a group's key keeps the invariant, and so does what the OLT refuses. Assumes nothing.
use Rattle.std.specs.Prelude.{Option, Some, None}
use mathlib.Core.Path.{◌≡◌, refl, ◌∙◌, ap}
use mathlib.Core.Bool.{Bool, true, false}
use mathlib.Core.List.{List}
use Prim.Native.Nat.{ℕ, ◌<◌}
use native.Mathlib.Omega.{arith}
use lib.Dec.{ltb}
use lib.ListN.{length, set, get_or-eq_default}
use lib.Seq.{set-get_or}
use borrow.Author.Tests.{ltb-true, ltb-false}
use Rattle.octets.specs.Output.{WithOutput}
use Rattle.protocol.specs.Headers.{no_passage}
use Rattle.protocol.specs.OltCalls.{acknowledge_of}
use Rattle.protocol.specs.OltTraffic.{receiving_olt}
use Rattle.protocol.specs.Replies.{silent}
use Rattle.protocol.specs.declared.Header.{Header}
use Rattle.protocol.proofs.OltCalls.{acknowledge_refused}
use Rattle.protocol.proofs.OltTraffic.{receiving_untouched}
use Rattle.protocol.proofs.Replies.{number_refused}
use Rattle.traffic.specs.Passages.{misfit}
use Rattle.traffic.specs.Receipts.{olt_received, olt_receive_of}
use Rattle.group_protocol.specs.GroupCalls.{group_outcome, member_named, group_marked, acknowledge_group}
use Rattle.group_protocol.specs.Head.{find_group, group_at, with_members, with_olt, valid_groups}
use Rattle.group_protocol.specs.declared.Answer.{Answer}
use Rattle.group_protocol.specs.declared.GroupRecord.{GroupRecord}
use Rattle.group_protocol.specs.declared.HeadEnd.{HeadEnd}
use Rattle.group_protocol.proofs.GroupSteps.{marked_llid, group_marked_valid}
use Rattle.group_protocol.specs.Naming.{by_llid}
use Rattle.headend.specs.HeadCalls.{head_answer, own_acknowledgement, head_acknowledge_of}
use Rattle.headend.specs.HeadTraffic.{head_receive_of}
use Rattle.headend.specs.declared.HeadAnswer.{HeadAnswer}
use Rattle.headend.specs.declared.HeadReceived.{HeadReceived}
use Rattle.unicast.specs.Setting.{Setting}
use Rattle.line.specs.History.{GroupLane}
use Rattle.line.specs.Events.{arrive_group_answer, stray_answer, stray_up}
use Rattle.line.specs.Run.{State, alone, group_lane_at, no_group_lane, group_answer_at, at_head, head_after, step}
use Rattle.line.specs.Premises.{Fits}
use Rattle.line.proofs.Invariant.{Recorded, Invariant}
use Rattle.line.proofs.AloneHead.{answered_olt, receive_olt}
use Rattle.line.proofs.GroupCalls.{Ends, accepted, refused, lift_ends}
use Rattle.line.proofs.GroupKeySteps.{group_valid, channels_right}
use Rattle.line.proofs.GroupSteps.{same, Replaced, replaced_right}
use Rattle.line.proofs.Lines.{group_finds}
use Rattle.line.proofs.Queues.{itself}
use Rattle.refusal.specs.Verdict.{no_refusal}

-- a group past the end has nothing
pub known_line : (s : State) (g : ℕ) → (group_lane_at s g ≡ no_group_lane → ⊥) → g < length s.history.groups
known_line s g n = by_length (ltb g (length s.history.groups)) refl where
  by_length : (t : Bool) → ltb g (length s.history.groups) ≡ t → g < length s.history.groups
  by_length true e = ltb-true g (length s.history.groups) e
  by_length false e = absurd (n (get_or-eq_default s.history.groups no_group_lane (ltb-false g (length s.history.groups) e)))

---- a member's mark

marked_keys : (r : GroupRecord) (member : Option ℕ) → (group_marked r member).keys ≡ r.keys
unfolding group_marked with_members
marked_keys r None = refl
marked_keys r (Some j) = refl

module _ (w : Setting) (s : State) (g : ℕ) (i : Invariant w s) (known : g < length s.history.groups) (member : Option ℕ) where
  abbrev r : GroupRecord
  r = group_at s.head g

  marked_recorded : Recorded w s.head.olt.shared.channels s.history.units.now (group_lane_at s g) (group_marked r member)
  marked_recorded =
      let j = i.group g known in
      let k = marked_keys r member in
      record {
        llid = marked_llid r member ∙ j.llid;
        counted = rw k j.counted;
        listed = rw k j.listed;
        mid = rw k j.mid;
        next = rw k j.next;
        stored = rw k j.stored;
        timing = rw k j.timing;
        sends = rw k j.sends;
        spaced = j.spaced;
        arrived = j.arrived;
      }

  marked_replaced : Replaced w s g s.head.olt.shared.channels (group_marked r member) (group_lane_at s g)
  unfolding alone
  marked_replaced =
      record {
        known = known;
        rises = λ k. omega arith;
        frees = i.units.shared.free;
        channels = channels_right w s i;
        valid = group_marked_valid s.head.olt.shared.tick s.head.olt.count r (group_valid w s g i known) member;
        grown = itself (group_lane_at s g) r.keys.offered;
        roster = refl;
        queues = i.queues g known;
        answered = refl;
        recorded = marked_recorded;
        follows = λ u h. rw (marked_keys r member) (i.follows u g h known);
        offers = same refl;
      }

-- the head end replaced, and nothing noted
head_replaced : (w : Setting) (s : State) (g : ℕ) (h : HeadEnd) → Invariant w
    (at_head s h s.history.units (set s.history.groups g (group_lane_at s g)))
    → Invariant w (head_after s h)
unfolding at_head head_after
head_replaced w s g h i = rw (set-get_or s.history.groups g no_group_lane) at i

pub same_head : (w : Setting) (s : State) → Invariant w s → Invariant w (head_after s s.head)
unfolding head_after
same_head w s i = i

group_answer_right : (w : Setting) (s : State) (g llid : ℕ) (a : Answer) → Invariant w s → find_group s.head llid ≡ Some g
    → g < length s.history.groups
    → Invariant w (head_after s (head_acknowledge_of s.head llid a).head)
unfolding head_acknowledge_of by_llid head_answer acknowledge_group group_outcome
group_answer_right w s g llid a i found known =
    by_end (lift_ends s.head silent no_refusal (λ o x. acknowledge_group a (member_named o x.members a) o.shared x) g) where
      by_end : Ends s.head silent no_refusal (λ o x. acknowledge_group a (member_named o x.members a) o.shared x) g
          → Invariant w (head_after s (head_acknowledge_of s.head llid a).head)
      by_end (refused x e) = rw (found, e) (same_head w s i)
      by_end (accepted l) =
          rw (found, l.is)
          (head_replaced w s g _ (replaced_right w s g _ _ _ i (marked_replaced w s g i known (member_named s.head.olt (group_at s.head g).members a))))

pub group_acknowledged_right : (w : Setting) (s : State) (g k : ℕ) → Invariant w s → Fits w s (arrive_group_answer g k)
    → Invariant w (step s (arrive_group_answer g k))
unfolding step no_group_lane
group_acknowledged_right w s g k i due =
    let known = known_line s g (λ e. omega (arith, due.some, ap (λ (x : GroupLane). length x.answered) e)) in
    group_answer_right w s g (group_lane_at s g).llid (group_answer_at s g k).answer i (group_finds w s i g known) known

---- what is refused leaves the head end

own_answer_refused : (h : HeadEnd) (llid : ℕ) (a : Answer) → valid_groups h ≡ true → find_group h llid ≡ None
    → ((head_acknowledge_of h llid a).number ≡ 0 → ⊥) → (head_acknowledge_of h llid a).head ≡ h
unfolding head_acknowledge_of by_llid with_olt
own_answer_refused h llid a v e n =
    let is : head_acknowledge_of h llid a ≡ record {
      number = (acknowledge_of h.olt llid (own_acknowledgement a)).number;
      head = with_olt h (acknowledge_of h.olt llid (own_acknowledgement a)).olt;
    } = rw e (answered_olt h v (acknowledge_of h.olt llid (own_acknowledgement a))) in
    ap (λ (x : HeadAnswer). x.head) is
    ∙ ap (with_olt h) (acknowledge_refused h.olt llid (own_acknowledgement a) (λ z. n (ap (λ (x : HeadAnswer). x.number) is ∙ z)))

group_answer_refused : (h : HeadEnd) (llid : ℕ) (a : Answer) (g : ℕ) → find_group h llid ≡ Some g
    → ((head_acknowledge_of h llid a).number ≡ 0 → ⊥) → (head_acknowledge_of h llid a).head ≡ h
unfolding head_acknowledge_of by_llid head_answer
group_answer_refused h llid a g e n =
    by_end (lift_ends h silent no_refusal (λ o x. acknowledge_group a (member_named o x.members a) o.shared x) g) where
      by_end : Ends h silent no_refusal (λ o x. acknowledge_group a (member_named o x.members a) o.shared x) g → (head_acknowledge_of h llid a).head ≡ h
      by_end (refused x f) = rw (e, f)
      by_end (accepted l) = absurd (n (rw (e, l.is)))

own_receive_refused : (h : HeadEnd) (header : Header) (p out : List ℕ) → valid_groups h ≡ true → find_group h header.llid ≡ None
    → ((head_receive_of h header p out).answer.number ≡ 0 → ⊥) → (head_receive_of h header p out).answer.head ≡ h
unfolding with_olt olt_receive_of olt_received
own_receive_refused h header p out v e n =
    let is = receive_olt h v header p out e in
    ap (λ (x : WithOutput HeadReceived). x.answer.head) is
    ∙ ap (with_olt h)
    (number_refused h.olt no_passage (receiving_olt h.olt (misfit p out) header) (receiving_untouched h.olt (misfit p out) header)
    (λ z. n (ap (λ (x : WithOutput HeadReceived). x.answer.number) is ∙ z))).end

group_receive_refused : (h : HeadEnd) (header : Header) (p out : List ℕ) (g : ℕ) → find_group h header.llid ≡ Some g
    → (head_receive_of h header p out).answer.head ≡ h
unfolding head_receive_of by_llid
group_receive_refused h header p out g e = rw e

pub answer_refused : (h : HeadEnd) (llid : ℕ) (a : Answer) → valid_groups h ≡ true → ((head_acknowledge_of h llid a).number ≡ 0 → ⊥)
    → (head_acknowledge_of h llid a).head ≡ h
answer_refused h llid a v n = by_found (find_group h llid) refl where
  by_found : (f : Option ℕ) → find_group h llid ≡ f → (head_acknowledge_of h llid a).head ≡ h
  by_found None e = own_answer_refused h llid a v e n
  by_found (Some g) e = group_answer_refused h llid a g e n

pub receive_refused : (h : HeadEnd) (header : Header) (p out : List ℕ) → valid_groups h ≡ true
    → ((head_receive_of h header p out).answer.number ≡ 0 → ⊥)
    → (head_receive_of h header p out).answer.head ≡ h
receive_refused h header p out v n = by_found (find_group h header.llid) refl where
  by_found : (f : Option ℕ) → find_group h header.llid ≡ f → (head_receive_of h header p out).answer.head ≡ h
  by_found None e = own_receive_refused h header p out v e n
  by_found (Some g) e = group_receive_refused h header p out g e

pub stray_answer_right : (w : Setting) (s : State) (llid : ℕ) (a : Answer) → Invariant w s → Fits w s (stray_answer llid a)
    → Invariant w (step s (stray_answer llid a))
unfolding step
stray_answer_right w s llid a i n = rw (answer_refused s.head llid a i.valid n) (same_head w s i)

pub stray_up_right : (w : Setting) (s : State) (h : Header) (p out : List ℕ) → Invariant w s → Fits w s (stray_up h p out)
    → Invariant w (step s (stray_up h p out))
unfolding step
stray_up_right w s h p out i n = rw (receive_refused s.head h p out i.valid n) (same_head w s i)
