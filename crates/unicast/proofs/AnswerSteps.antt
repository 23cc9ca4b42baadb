-- An acknowledgement that the OLT accepts keeps what holds of a registered unit. Assumes nothing.
use mathlib.Core.Path.{◌≡◌, refl, sym, ◌∙◌, ap, subst}
use mathlib.Core.Bool.{Bool, true, false}
use mathlib.Core.List.{Memᴰ}
use Prim.Native.Nat.{ℕ, ◌≤◌}
use native.Mathlib.Omega.{arith}
use lib.Dec.{eqb}
use lib.ListN.{length}
use borrow.Author.Tests.{eqb-true, eq-eqb, ne_eqb}
use Rattle.octets.proofs.Choice.{both_true, pick_true, pick_false, both_false_left}
use Rattle.refusal.specs.declared.Refusal.TheVariants.{NothingOutstanding}
use Rattle.protocol.specs.Lift.{Outcome, outcome}
use Rattle.protocol.specs.Messages.{clock_kind, key_kind}
use Rattle.ends.specs.Records.{with_confirmation, with_clock}
use Rattle.protocol.specs.Replies.{Silence}
use Rattle.protocol.specs.UnitCalls.{key_acknowledged_unit, clock_acknowledged_unit, acknowledge_unit}
use Rattle.protocol.specs.declared.Acknowledgement.{Acknowledgement}
use Rattle.ends.specs.declared.Onu.{Onu}
use Rattle.ends.specs.declared.Shared.{Shared}
use Rattle.ends.specs.declared.UnitRecord.{UnitRecord}
use Rattle.refusal.proofs.Order.{refused_accepts}
use Rattle.protocol.proofs.UnitCalls.{key_acknowledged_accepted, key_kind-holds, clock_kind-holds, no_kind}
use Rattle.unicast.specs.Setting.{Setting}
use Rattle.unicast.specs.History.{Answered, Lane, due, lane_with, lane_acknowledged}
use Rattle.unicast.proofs.Invariant.{reach_of, Joined, AtTick}
use Rattle.unicast.proofs.Past.{moved_keeps}
use Rattle.refusal.specs.Verdict.{no_refusal}

---- the mark of the last offer

marked_lane : Lane → Bool → Lane
marked_lane l b =
    lane_with l
    (record { offers = l.keys.offers; acknowledged = b; switches = l.keys.switches; switched = l.keys.switched; number = l.keys.number })
    l.transit l.past

-- an acknowledgement of the last offer marks it
lane_marked : (a : Acknowledgement) (l : Lane) → a.kind ≡ key_kind → a.number ≡ length l.keys.offers → lane_acknowledged a l ≡ marked_lane l true
unfolding lane_acknowledged lane_with marked_lane
lane_marked a l e f = ap (marked_lane l) (pick_true true l.keys.acknowledged (both_true (eq-eqb a.kind key_kind e) (eq-eqb _ _ f)))

-- one of the clock leaves the mark
pub lane_unmarked : (a : Acknowledgement) (l : Lane) → a.kind ≡ clock_kind → lane_acknowledged a l ≡ l
unfolding lane_acknowledged lane_with marked_lane
lane_unmarked a l e =
    ap (marked_lane l) (pick_false true l.keys.acknowledged (both_false_left _ (ne_eqb a.kind key_kind (λ f. omega arith))))

---- what is handed over

module _ (w : Setting) (sh : Shared) (now : ℕ) (l : Lane) (u : UnitRecord) (o : Onu) where
  -- one that the unit handed over: the unit is synced, or holds the key that it names
  handed_over : (a : Acknowledgement) (x : Answered) → Joined w sh now l u o → Memᴰ x l.transit.answered → x.acknowledgement ≡ a
      → (a.kind ≡ clock_kind → o.clock.synced ≡ 1) × (a.kind ≡ key_kind → a.number ≤ reach_of o.keys)
  handed_over a x j m e =
      subst (λ (b : Acknowledgement). (b.kind ≡ clock_kind → o.clock.synced ≡ 1) × (b.kind ≡ key_kind → b.number ≤ reach_of o.keys)) e
      (j.answers.each x m)

  -- the offer is held, and is marked
  marked_keeps : Joined w sh now l u o → u.keys.offered ≤ reach_of o.keys
      → Joined w sh now (marked_lane l true) (with_confirmation u (record { confirmed = u.confirmation.confirmed; acknowledged = 1 })) o
  unfolding lane_with with_confirmation due marked_lane
  marked_keeps j held = let moved = moved_keeps w sh now l (marked_lane l true) u o j (search) refl in search

  pub key_answer_keeps : (a : Acknowledgement) (x : Answered) → AtTick w now sh → Joined w sh now l u o → a.kind ≡ key_kind
      → Memᴰ x l.transit.answered → x.acknowledgement ≡ a → (acknowledge_unit a sh u).verdict ≡ no_refusal
      → Joined w sh now (lane_acknowledged a l) (acknowledge_unit a sh u).unit o
  unfolding key_acknowledged_unit outcome
  key_answer_keeps a x at j kind m e accepted =
      let same = key_kind-holds a sh u kind in
      let last = (key_acknowledged_accepted a.number sh u (sym (ap (λ (c : Outcome Silence). c.verdict) same) ∙ accepted)).1 in
      rw (same, lane_marked a l kind (last ∙ j.numbers.listed)) (marked_keeps j (rw last at ((handed_over a x j m e).1 kind)))

  -- the unit of an accepted clock acknowledgement is synced
  clock_marked_keeps : Joined w sh now l u o → o.clock.synced ≡ 1 → Joined w sh now l (clock_acknowledged_unit sh u).unit o
  unfolding clock_acknowledged_unit outcome with_clock
  clock_marked_keeps j synced = search

  pub clock_answer_keeps : (a : Acknowledgement) (x : Answered) → AtTick w now sh → Joined w sh now l u o → a.kind ≡ clock_kind
      → Memᴰ x l.transit.answered → x.acknowledgement ≡ a → (acknowledge_unit a sh u).verdict ≡ no_refusal
      → Joined w sh now (lane_acknowledged a l) (acknowledge_unit a sh u).unit o
  clock_answer_keeps a x at j kind m e accepted =
      rw (clock_kind-holds a sh u kind, lane_unmarked a l kind) (clock_marked_keeps j ((handed_over a x j m e).0 kind))

  -- an acknowledgement that the OLT accepts is of either kind
  pub answer_keeps : (a : Acknowledgement) (x : Answered) → AtTick w now sh → Joined w sh now l u o → Memᴰ x l.transit.answered
      → x.acknowledgement ≡ a → (acknowledge_unit a sh u).verdict ≡ no_refusal
      → Joined w sh now (lane_acknowledged a l) (acknowledge_unit a sh u).unit o
  unfolding outcome
  answer_keeps a x at j m e accepted = by_kind (eqb a.kind clock_kind) (eqb a.kind key_kind) refl refl where
    by_kind : (s t : Bool) → eqb a.kind clock_kind ≡ s → eqb a.kind key_kind ≡ t
        → Joined w sh now (lane_acknowledged a l) (acknowledge_unit a sh u).unit o
    by_kind true t p q = clock_answer_keeps a x at j (eqb-true _ _ p) m e accepted
    by_kind false true p q = key_answer_keeps a x at j (eqb-true _ _ q) m e accepted
    by_kind false false p q = refused_accepts NothingOutstanding (sym (ap (λ (c : Outcome Silence). c.verdict) (no_kind a sh u p q)) ∙ accepted)
