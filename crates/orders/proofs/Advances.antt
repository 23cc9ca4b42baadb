-- Advances add up at both ends: the base laws, with the groups. Assumes nothing.
use mathlib.Core.Path.{◌≡◌, refl, sym, ap, ap₂, ◌∙◌, subst}
use mathlib.Core.Bool.{Bool, true, false}
use Prim.Native.Nat.{ℕ, ◌+◌, ◌≤◌}
use native.Mathlib.Omega.{arith}
use borrow.Author.Tests.{not-false}
use Rattle.octets.proofs.Choice.{pick_true}
use Rattle.octets.proofs.Maps.{drop_first, map_twice, take_first}
use Rattle.octets.specs.Choice.{pick}
use Rattle.refusal.specs.Number.{number_of}
use Rattle.refusal.specs.declared.Refusal.TheVariants.{OutOfRange}
use Rattle.refusal.proofs.Numbers.{number_accepted}
use Rattle.refusal.proofs.Order.{refuse_accepted}
use Rattle.clock.specs.Ticks.{max_tick}
use Rattle.ends.specs.Records.{with_timer}
use Rattle.ends.specs.Validity.{valid_onu}
use Rattle.ends.specs.declared.Olt.{Olt}
use Rattle.ends.specs.declared.Onu.{Onu}
use Rattle.ends.proofs.Timers.{timer_sum}
use Rattle.protocol.specs.OltCalls.{olt_advanced, shared_advanced}
use Rattle.protocol.specs.OnuCalls.{advance_onu_of, advancing_onu, onu_answer}
use Rattle.protocol.specs.Replies.{silent}
use Rattle.protocol.specs.declared.OnuAnswer.{OnuAnswer}
use Rattle.protocol.proofs.OltAdvance.{olt_sum}
use Rattle.protocol.proofs.OnuAdvance.{advance_onu_sum}
use Rattle.protocol.proofs.OnuCalls.{onu_accepted}
use Rattle.protocol.proofs.Replies.{advance_accepted, advance_accepts, reply_verdict}
use Rattle.group_protocol.specs.GroupCalls.{group_advanced}
use Rattle.group_protocol.specs.Head.{valid_head, with_group_keys}
use Rattle.group_protocol.specs.Subscriber.{valid_memberships, with_onu}
use Rattle.group_protocol.specs.declared.GroupRecord.{GroupRecord}
use Rattle.group_protocol.specs.declared.Groups.{Groups}
use Rattle.group_protocol.specs.declared.HeadEnd.{HeadEnd}
use Rattle.group_protocol.specs.declared.Subscriber.{Subscriber}
use Rattle.group_protocol.proofs.Subscribers.{valid_both, valid_joins}
use Rattle.headend.specs.HeadCalls.{groups_advanced, head_advanced, head_advance_of, head_answer}
use Rattle.subscriber.specs.SubscriberCalls.{onu_answered, own_answered, subscriber_advance_of}
use Rattle.headend.specs.declared.HeadAnswer.{HeadAnswer}
use Rattle.subscriber.specs.declared.SubscriberAnswer.{SubscriberAnswer}
use Rattle.headend.proofs.HeadGrowth as growth
use Rattle.subscriber.proofs.SubscriberSteps as steps
use Rattle.orders.specs.Advances.{Advances}

---- the head end

group_sum : (m n : ℕ) (g : GroupRecord) → group_advanced n (group_advanced m g) ≡ group_advanced (m + n) g
unfolding group_advanced with_group_keys with_timer
group_sum m n g = rw (timer_sum m n g.keys.timer)

groups_sum : (m n : ℕ) (g : Groups) → groups_advanced (groups_advanced g m) n ≡ groups_advanced g (m + n)
unfolding groups_advanced
groups_sum m n g =
    rw (
      take_first (group_advanced m) g.count g.table,
      drop_first (group_advanced m) g.count g.table,
      map_twice (group_advanced m) (group_advanced n) (group_advanced (m + n)) (group_sum m n) _,
    )

head_sum : (m n : ℕ) (h : HeadEnd) → head_advanced (head_advanced h m) n ≡ head_advanced h (m + n)
unfolding head_advanced
head_sum m n h = ap₂ (λ (o : Olt) (g : Groups). record { olt = o; groups = g }) (olt_sum m n h.olt) (groups_sum m n h.groups)

head_accepts : (h : HeadEnd) (n : ℕ) → valid_head h ≡ true → h.olt.shared.tick + n ≤ max_tick
    → head_advance_of h n ≡ record { number = 0; head = head_advanced h n }
head_accepts h n v k = growth.advance_moves h n v (advance_accepts h.olt.shared.tick n k)

head_advances-holds : (h : HeadEnd) (m n : ℕ) → (head_advance_of h (m + n)).number ≡ 0
    → head_advance_of (head_advance_of h m).head n ≡ head_advance_of h (m + n)
unfolding head_advance_of head_answer head_advanced olt_advanced shared_advanced
head_advances-holds h m n e =
    let a = refuse_accepted _ _ _ (sym (reply_verdict _ h silent (head_advanced h (m + n)) silent) ∙ number_accepted _ e) in
    let v = not-false _ a.0 in
    let k : h.olt.shared.tick + (m + n) ≤ max_tick = advance_accepted h.olt.shared.tick (m + n) a.1 in
    let first : (head_advance_of h m).head ≡ head_advanced h m = ap (λ (r : HeadAnswer). r.head) (head_accepts h m v (omega arith)) in
    let w : valid_head (head_advanced h m) ≡ true = subst (λ (x : HeadEnd). valid_head x ≡ true) first (growth.valid_after_advance h m v) in
    ap (λ (x : HeadEnd). head_advance_of x n) first
    ∙ head_accepts (head_advanced h m) n w (omega arith)
    ∙ ap (λ (x : HeadEnd). record { number = 0; head = x }) (head_sum m n h)
    ∙ sym (head_accepts h (m + n) v k)

---- the subscriber

-- what the unit answers stands in a subscriber whose groups are valid
unit_answers-holds : (s : Subscriber) (n : ℕ) → valid_memberships s ≡ true → subscriber_advance_of s n ≡ own_answered s (advance_onu_of s.onu n)
unfolding subscriber_advance_of onu_answered
unit_answers-holds s n v = pick_true _ _ v

subscriber_accepted : (s : Subscriber) (n : ℕ) → (subscriber_advance_of s n).number ≡ 0
    → (valid_memberships s ≡ true) × ((advance_onu_of s.onu n).number ≡ 0)
unfolding subscriber_advance_of onu_answered own_answered pick
subscriber_accepted s n e = by_valid (valid_memberships s) e where
  r : OnuAnswer
  r = advance_onu_of s.onu n

  by_valid : (t : Bool) → (pick t (own_answered s r) (record { number = number_of OutOfRange; subscriber = s })).number ≡ 0
      → (t ≡ true) × (r.number ≡ 0)
  by_valid true k = (refl, k)
  by_valid false k = absurd (omega arith)

onu_accepted_valid : (o : Onu) (n : ℕ) → (advance_onu_of o n).number ≡ 0 → valid_onu o ≡ true
unfolding advance_onu_of advancing_onu onu_answer
onu_accepted_valid o n e = (onu_accepted o silent _ _ silent (number_accepted _ e)).0

subscriber_advances : (s : Subscriber) (m n : ℕ) → (subscriber_advance_of s (m + n)).number ≡ 0
    → subscriber_advance_of (subscriber_advance_of s m).subscriber n ≡ subscriber_advance_of s (m + n)
unfolding own_answered with_onu
subscriber_advances s m n e =
    let a = subscriber_accepted s (m + n) e in
    let v = valid_both s (onu_accepted_valid s.onu (m + n) a.1) a.0 in
    let next = with_onu s (advance_onu_of s.onu m).onu in
    let first : (subscriber_advance_of s m).subscriber ≡ next = ap (λ (r : SubscriberAnswer). r.subscriber) (unit_answers-holds s m a.0) in
    let w : valid_memberships next ≡ true =
    subst (λ (x : Subscriber). valid_memberships x ≡ true) first (valid_joins _ (steps.valid_after_advance s m v)) in
    ap (λ (x : Subscriber). subscriber_advance_of x n) first
    ∙ unit_answers-holds next n w
    ∙ ap (own_answered s) (advance_onu_sum s.onu m n a.1)
    ∙ sym (unit_answers-holds s (m + n) a.0)

pub advances : Advances
advances = record { head = head_advances-holds; subscriber = subscriber_advances }
