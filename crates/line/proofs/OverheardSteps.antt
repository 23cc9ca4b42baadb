-- What a unit overhears, of another unit or of a group of which it is no member, leaves it as it was, and is refused where it has not joined
-- the LLID; so does what it refuses. Assumes nothing.
use Rattle.std.specs.Prelude.{Err, Option, Some, None}
use mathlib.Core.Path.{◌≡◌, refl, sym, ◌∙◌, ap, subst}
use mathlib.Core.Bool.{Bool, true, false}
use mathlib.Core.List.{List}
use Prim.Native.Nat.{ℕ, ◌<◌}
use native.Mathlib.Omega.{arith}
use lib.ListN.{length}
use lib.Seq.{set-get_or}
use Rattle.octets.specs.Output.{WithOutput, with_output}
use Rattle.octets.proofs.Choice.{not_of_true}
use Rattle.octets.proofs.Members.{mem_at}
use Rattle.refusal.specs.Order.{refuse_if}
use Rattle.refusal.specs.declared.Refusal.TheVariants.{OutOfRange, UnknownLlid, BadLength}
use Rattle.refusal.proofs.Order.{refuse_passed}
use Rattle.envelope.specs.Channels.{downstream}
use Rattle.ends.specs.Identities.{has}
use Rattle.ends.specs.Validity.{valid_onu}
use Rattle.protocol.specs.Headers.{valid_header, envelope_header, no_passage}
use Rattle.protocol.specs.OnuTraffic.{onu_receive_verdict}
use Rattle.protocol.specs.declared.Header.{Header}
use Rattle.protocol.specs.declared.KeyChoice.{KeyChoice}
use Rattle.protocol.specs.declared.KeyChoice.TheVariants.{Clear, Current, Next, Barred}
use Rattle.protocol.proofs.Headers.{header_valid}
use Rattle.protocol.proofs.OnuTraffic.{overheard_down-holds}
use Rattle.traffic.specs.Passages.{misfit}
use Rattle.traffic.specs.Receipts.{onu_not_received, onu_receive_of}
use Rattle.traffic.proofs.Receipts.{onu_receive_refused}
use Rattle.group_protocol.specs.Head.{find_group}
use Rattle.group_protocol.specs.JoinedCalls.{joined_choice, joined_after_receipt, receive_joined}
use Rattle.group_protocol.specs.Subscriber.{find_joined, joined_at, with_onu}
use Rattle.group_protocol.specs.declared.Joined.{Joined}
use Rattle.group_protocol.specs.declared.Subscriber.{Subscriber}
use Rattle.group_protocol.proofs.JoinedCalls.{next_held}
use Rattle.group_protocol.proofs.Places.{at_nowhere}
use Rattle.group_protocol.proofs.Subscribers.{with_itself}
use Rattle.group_protocol.specs.Naming.{by_llid}
use Rattle.subscriber.specs.SubscriberTraffic.{subscriber_received, group_receive_of, subscriber_receive_of}
use Rattle.subscriber.specs.declared.SubscriberReceived.{SubscriberReceived}
use Rattle.unicast.specs.Setting.{Setting}
use Rattle.unicast.specs.History.{Direction, downward, Envelope}
use Rattle.unicast.specs.Run.{lane_at, sent_at, no_envelope}
use Rattle.unicast.specs.Claim.{overheard_for}
use Rattle.unicast.specs.Premises.{Overhears}
use Rattle.unicast.proofs.Alive.{Alive, registered_alive, sent_alive}
use Rattle.unicast.proofs.OverheardSteps.{overheard_refused}
use Rattle.line.specs.History.{GroupLane, is_member, is_joined}
use Rattle.line.specs.Events.{overhear, overhear_group}
use Rattle.line.specs.Run.{State, alone, subscriber_at, no_subscriber, joined_by, group_lane_at, no_group_lane, group_sent_at, lanes, subscriber_after, step}
use Rattle.line.specs.Premises.{OverhearsGroup}
use Rattle.line.specs.Claim.{not_received, RefusedThere, LeftThere, OverheardRight}
use Rattle.line.proofs.Alone.{onu_alone}
use Rattle.line.proofs.AloneUnit.{receive_onu}
use Rattle.line.proofs.AnswerSteps.{known_line}
use Rattle.line.proofs.Arriving.{no_own, joined_listed}
use Rattle.line.proofs.Finding.{joined_none}
use Rattle.line.proofs.Invariant.{Empty, Stranger, Invariant}
use Rattle.line.proofs.JoinedLift.{Ends, accepted, refused, lift_ends}
use Rattle.line.proofs.Lines.{memberships_right, group_finds, line_once, unit_no_group}
use Rattle.line.proofs.Taken.{joined_for_at}

---- a group that the unit joined and has nothing of

empty_stays : (y : Joined) (h : Header) → Empty y → joined_after_receipt (joined_choice y h) y ≡ y
unfolding joined_after_receipt
empty_stays y h e = by_choice (joined_choice y h) refl where
  by_choice : (c : KeyChoice) → joined_choice y h ≡ c → joined_after_receipt c y ≡ y
  by_choice Clear q = refl
  by_choice (Current n) q = refl
  by_choice (Barred r) q = refl
  by_choice (Next n) q = absurd (omega (arith, e.held, (next_held y h n q).0))

joined_left : (x : Subscriber) (h : Header) (p out : List ℕ) (j : ℕ) → find_joined x h.llid ≡ Some j → Empty (joined_at x j)
    → (subscriber_receive_of x h p out).answer.subscriber ≡ x
unfolding subscriber_receive_of by_llid group_receive_of subscriber_received receive_joined
joined_left x h p out j found e = by_end (lift_ends x no_passage (receive_joined (misfit p out) h) j) where
  by_end : Ends x no_passage (receive_joined (misfit p out) h) j → (subscriber_receive_of x h p out).answer.subscriber ≡ x
  by_end (refused r z) = rw (found, z)
  by_end (accepted l) = rw (found, l.is, empty_stays (joined_at x j) h e) (with_itself x j)

unit_known : (w : Setting) (s : State) (u : ℕ) → Alive w (alone s) u → u < length (lanes s)
unfolding alone
unit_known w s u a = a.known

module _ (w : Setting) (s : State) (u : ℕ) (e : Envelope) (out : List ℕ) (i : Invariant w s) (r : (lane_at (alone s) u).entry.registered ≡ true)
    (llid : e.header.llid ≡ e.llid)
    (own : onu_receive_of (subscriber_at s u).onu e.header e.octets out
    ≡ with_output (onu_not_received (subscriber_at s u).onu (overheard_for (misfit e.octets out) e.direction)) out)
    (stranger : Stranger s.history.groups (lane_at (alone s) u) e.llid) where
  abbrev x : Subscriber
  x = subscriber_at s u

  refused_there : find_joined x e.llid ≡ None → RefusedThere s u e out
  unfolding not_received onu_not_received with_onu
  refused_there none = receive_onu x (memberships_right w s i u) e.header e.octets out (ap (find_joined x) llid ∙ none) ∙ rw own

  pub overheard_right : OverheardRight s u e out
  unfolding not_received
  overheard_right = record { refused = λ n. refused_there (nowhere n); left = by_found (find_joined x e.llid) refl } where
    a : Alive w (alone s) u
    a = registered_alive w (alone s) u i.units r

    nowhere : is_joined (joined_by s u) e.llid ≡ false → find_joined x e.llid ≡ None
    nowhere n = joined_none x e.llid (sym (joined_listed _ _ x (joined_by s u) e.llid (i.joins u (unit_known w s u a))) ∙ n)

    by_found : (f : Option ℕ) → find_joined x e.llid ≡ f → LeftThere s u e out
    by_found None none = ap (λ (y : WithOutput SubscriberReceived). y.answer.subscriber) (refused_there none)
    by_found (Some j) found =
        joined_left x e.header e.octets out j (ap (find_joined x) llid ∙ found)
        (rw (joined_for_at x e.llid j found) at ((i.joins u (unit_known w s u a)).stranger e.llid stranger))

---- of another unit

pub unit_overheard : (w : Setting) (s : State) → Invariant w s → (u v k : ℕ) (out : List ℕ) → Overhears (alone s) u v k
    → OverheardRight s u (sent_at (alone s) v k) out
unfolding envelope_header
unit_overheard w s i u v k out h =
    let e = sent_at (alone s) v k in
    let m = mem_at (lane_at (alone s) v).past.sent k no_envelope h.some in
    let b = sent_alive w (alone s) v i.units e m in
    let llid : e.header.llid ≡ e.llid = ap (λ (y : Header). y.llid) (b.joined.passing.sent e m).header in
    overheard_right w s u e out i h.registered llid (rw (onu_alone s u) at (overheard_refused w (alone s) i.units u v k out h))
    (λ g q z. at_nowhere g (sym (group_finds w s i g q) ∙ ap (find_group s.head) z ∙ unit_no_group w s i v e.llid b.registered
    (b.joined.passing.named e m)))

---- of a group

refused_for : (t : Bool) (y : Direction) → y ≡ downward → refuse_if t BadLength (Err UnknownLlid) ≡ Err (overheard_for t y)
unfolding refuse_if
refused_for true y e = refl
refused_for false y e = rw e

pub group_overheard : (w : Setting) (s : State) → Invariant w s → (u g k : ℕ) (out : List ℕ) → OverhearsGroup s u g k
    → OverheardRight s u (group_sent_at s g k) out
unfolding envelope_header no_group_lane refuse_if
group_overheard w s i u g k out h =
    let e = group_sent_at s g k in
    let known = known_line s g (λ q. omega (arith, h.some, ap (λ (y : GroupLane). length y.sent) q)) in
    let send = (i.group g known).sends e (mem_at (group_lane_at s g).sent k no_envelope h.some) in
    let x = subscriber_at s u in
    let a = registered_alive w (alone s) u i.units h.registered in
    let llid : e.header.llid ≡ e.llid = ap (λ (y : Header). y.llid) send.right.header in
    let strange : has x.onu.identity e.header.llid ≡ false =
    ap (has x.onu.identity) (llid ∙ send.llid) ∙ no_own w s u g i known h.registered in
    let verdict : onu_receive_verdict x.onu (misfit e.octets out) e.header ≡ Err (overheard_for (misfit e.octets out) e.direction) =
    overheard_down-holds x.onu (misfit e.octets out) e.header (ap (λ (y : Header). downstream y.channel) send.right.header ∙ send.down)
    (ap valid_header send.right.header ∙ header_valid e.number e.channel e.llid _) strange
    ∙ refused_for (misfit e.octets out) e.direction send.direction in
    let valid : valid_onu x.onu ≡ true = ap valid_onu (sym (onu_alone s u)) ∙ a.common.valid in
    overheard_right w s u e out i h.registered llid
    (sym (onu_receive_refused x.onu e.header e.octets out _ (refuse_passed _ OutOfRange _ (not_of_true valid) ∙ verdict)))
    (λ n q z. subst (λ (y : ℕ). is_member (group_lane_at s y) (lane_at (alone s) u) ≡ false) (sym (line_once w s i n g q known (z ∙ send.llid)))
    h.stranger)

---- the events

pub subscriber_stays : (w : Setting) (s : State) (u : ℕ) (x : Subscriber) → x ≡ subscriber_at s u → Invariant w s
    → Invariant w (subscriber_after s u x)
unfolding subscriber_after
subscriber_stays w s u x e i = rw (e, set-get_or s.subscribers u no_subscriber) i

pub overhear_right : (w : Setting) (s : State) (u v k : ℕ) (out : List ℕ) → Invariant w s → Overhears (alone s) u v k
    → Invariant w (step s (overhear u v k out))
unfolding step
overhear_right w s u v k out i h = subscriber_stays w s u _ (unit_overheard w s i u v k out h).left i

pub overhear_group_right : (w : Setting) (s : State) (u g k : ℕ) (out : List ℕ) → Invariant w s → OverhearsGroup s u g k
    → Invariant w (step s (overhear_group u g k out))
unfolding step
overhear_group_right w s u g k out i h = subscriber_stays w s u _ (group_overheard w s i u g k out h).left i
