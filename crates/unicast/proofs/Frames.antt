-- Laws of a registered unit of which only a part changes. Assumes nothing.
use mathlib.Core.Path.{◌≡◌, refl, sym, subst}
use mathlib.Core.Bool.{Bool, true, false}
use mathlib.Core.List.{List, [], ◌∷◌, ◌++◌, Memᴰ}
use mathlib.Core.Logic.{⊎_elim}
use Prim.Native.Nat.{ℕ, suc, ◌≤◌}
use native.Mathlib.Omega.{arith}
use borrow.Author.Tests.{eqb-true, eq-eqb}
use Rattle.octets.proofs.Choice.{either_left, either_right, either_cases, true_false}
use Rattle.octets.proofs.Members.{each_more}
use Rattle.clock.specs.declared.Stamps.{Stamps}
use Rattle.protocol.specs.Messages.{clock_kind, key_kind, of_clock}
use Rattle.protocol.specs.declared.Acknowledgement.{Acknowledgement}
use Rattle.ends.specs.declared.Olt.{Olt}
use Rattle.ends.specs.declared.Onu.{Onu}
use Rattle.ends.specs.declared.OnuClock.{OnuClock}
use Rattle.ends.specs.declared.OnuKeys.{OnuKeys}
use Rattle.ends.specs.declared.Shared.{Shared}
use Rattle.ends.specs.declared.UnitRecord.{UnitRecord}
use Rattle.unicast.specs.Setting.{Setting}
use Rattle.unicast.specs.History.{Envelope, InFlight, clock_message, envelope, left_at, Answered, Transit, Lane, lane_with, leaving, lane_leaving, lane_taken, lane_answered, clock_answered}
use Rattle.unicast.proofs.Invariant.{reach_of, Answers, UnderWay, Towards, From, Asked, InOrder, Joined, Common, Standing, LaneRight}
use Rattle.unicast.proofs.Pace.{rising_dropped, order_leaving, asked_leaving}
use Rattle.unicast.proofs.Queues.{Knows, dropped_among, sealed_more, towards_moved, towards_dropped, from_moved}
use Rattle.unicast.proofs.Past.{moved_keeps}

---- clock acknowledgements

pub clock_more : (xs : List Answered) (x : Answered) → clock_answered xs ≡ true → clock_answered (xs ++ (x ∷ [])) ≡ true
unfolding clock_answered
clock_more [] x e = true_false (sym e)
clock_more (y ∷ ys) x e = ⊎_elim (λ h. either_left _ h) (λ h. either_right _ (clock_more ys x h)) (either_cases _ _ e)

pub clock_last : (xs : List Answered) (x : Answered) → x.acknowledgement.kind ≡ clock_kind → clock_answered (xs ++ (x ∷ [])) ≡ true
unfolding clock_answered
clock_last [] x e = either_left _ (eq-eqb x.acknowledgement.kind clock_kind e)
clock_last (y ∷ ys) x e = either_right _ (clock_last ys x e)

-- what each clock acknowledgement tells holds where there is one
pub clock_some : {P : Type 0} (xs : List Answered) → ((x : Answered) → Memᴰ x xs → x.acknowledgement.kind ≡ clock_kind → P)
    → clock_answered xs ≡ true → P
unfolding clock_answered
clock_some [] tells e = true_false (sym e)
clock_some (y ∷ ys) tells e =
    ⊎_elim (λ h. tells y (Memᴰ.head refl) (eqb-true y.acknowledgement.kind clock_kind h))
    (λ h. clock_some ys (λ x m. tells x (Memᴰ.tail m)) h) (either_cases _ _ e)

-- what an answer of the unit tells
abbrev Tells : OnuKeys → OnuClock → Answered → Type 0
Tells k c x =
    (x.acknowledgement.kind ≡ clock_kind → c.synced ≡ 1) × (x.acknowledgement.kind ≡ key_kind → x.acknowledgement.number ≤ reach_of k)

-- the unit takes a clock message, and answers
pub answers_clock : (now : ℕ) (k : OnuKeys) (c d : OnuClock) (answered : List Answered) → d.synced ≡ 1 → Answers now k c answered
    → Answers now k d (answered ++ (record { acknowledgement = of_clock; tick = now } ∷ []))
answers_clock now k c d answered synced a =
    record {
      each = each_more (Tells k d) answered _ (λ y m. (λ e. synced, (a.each y m).1)) (λ e. synced, λ e. absurd (omega arith));
      set = λ e. clock_last answered _ refl;
    }

-- an answer more, of a synced unit, for a key that it holds
pub answers_more : (now : ℕ) (k : OnuKeys) (c : OnuClock) (answered : List Answered) (x : Answered) → Tells k c x → Answers now k c answered
    → Answers now k c (answered ++ (x ∷ []))
answers_more now k c answered x tells a =
    record { each = each_more (Tells k c) answered x a.each tells; set = λ e. clock_more answered x (a.set e) }

module _ (w : Setting) (sh : Shared) (now : ℕ) (l : Lane) (u : UnitRecord) (o : Onu) where
  -- only what is under way changes
  pub transit_replaced : (t : Transit) → Joined w sh now l u o → Answers now o.keys o.clock t.answered
      → UnderWay l.path o.clock.synced t → Towards w.first l.path l o.keys.active u.keys.active u.keys.offered t.towards
      → From l u.confirmation.confirmed o.keys.active t.from → Asked now u.clock.sent t → InOrder now t
      → Joined w sh now (lane_with l l.keys t l.past) u o
  unfolding lane_with
  transit_replaced t j answers under towards from asked order =
      let after = lane_with l l.keys t l.past in
      let knows : Knows l after u.keys.offered = search in
      let passing = (moved_keeps w sh now l after u o j knows refl).2 in
      let ahead =
      towards_moved w.first l.path l after o.keys.active u.keys.active u.keys.offered t.towards knows towards in
      let back = from_moved l after u.keys.offered u.confirmation.confirmed o.keys.active t.from knows from in
      search

  -- a thing leaves for the unit
  pub leaving_keeps : (x : InFlight) → ((e : Envelope) → x ≡ envelope e → ⊥)
      → ((m : Stamps) (c left : ℕ) → x ≡ clock_message m c left → u.clock.sent ≡ 1)
      → left_at x ≡ now → Joined w sh now l u o
      → Towards w.first l.path l o.keys.active u.keys.active u.keys.offered (l.transit.towards ++ (x ∷ []))
      → Joined w sh now (lane_leaving x l) u o
  unfolding lane_leaving leaving
  leaving_keeps x n sent left j q =
      transit_replaced (leaving l.transit x) j j.answers
      (record {
        sealed = sealed_more o.clock.synced l.transit.towards x j.under_way.sealed (λ e same. absurd (n e same));
        present = j.under_way.present;
      }) q j.from (asked_leaving now u.clock.sent l.transit x sent j.asked) (order_leaving now l.transit x left j.order)

  -- the first of what is under way to the unit are taken from it, or lost
  pub taken_keeps : (k : ℕ) → Joined w sh now l u o → Joined w sh now (lane_taken k l) u o
  unfolding lane_taken
  taken_keeps k j =
      transit_replaced _ j j.answers
      (record {
        sealed = λ e m. j.under_way.sealed e (dropped_among (envelope e) l.transit.towards (suc k) m);
        present = j.under_way.present;
      })
      (towards_dropped w.first l.path l o.keys.active u.keys.active u.keys.offered l.transit.towards (suc k) j.towards) j.from
      (record { under = λ x m. j.asked.under x (dropped_among x l.transit.towards (suc k) m); answered = j.asked.answered })
      (record { towards = rising_dropped left_at 0 now l.transit.towards (suc k) j.order.towards; from = j.order.from })

  -- the unit answers, for a key that it holds
  pub answered_keeps : (a : Acknowledgement) → Joined w sh now l u o → (a.kind ≡ clock_kind → o.clock.synced ≡ 1)
      → (a.kind ≡ key_kind → a.number ≤ reach_of o.keys)
      → Joined w sh now (lane_answered a now l) u o
  unfolding lane_answered
  answered_keeps a j synced held =
      transit_replaced _ j
      (answers_more now o.keys o.clock l.transit.answered (record { acknowledgement = a; tick = now }) (synced, held) j.answers)
      (record { sealed = j.under_way.sealed; present = j.under_way.present }) j.towards
      j.from
      (record {
        under = j.asked.under;
        answered =
            each_more (λ (x : Answered). (x.acknowledgement.kind ≡ clock_kind → u.clock.sent ≡ 1) × (x.tick ≤ now)) l.transit.answered
            (record { acknowledgement = a; tick = now }) j.asked.answered
            (λ kind. clock_some l.transit.answered (λ x m. (j.asked.answered x m).0) (j.answers.set (synced kind)), omega arith);
      })
      (record { towards = j.order.towards; from = j.order.from })

-- nothing of the lane but its site and its path matters
pub common_moved : (w : Setting) (now : ℕ) (l l' : Lane) (o : Onu) → l.site ≡ l'.site → l.path ≡ l'.path
    → Common w now l o → Common w now l' o
common_moved w now l l' o e p c = search (c.llids, ← e, ← p)

-- a lane that is registered, with the OLT's record of it
pub lane_joined : (w : Setting) (t : Olt) (now : ℕ) (l : Lane) (o : Onu) → l.entry.registered ≡ true → Common w now l o → Standing true w t now l o
    → LaneRight w t now l o
lane_joined w t now l o e c s = record { common = c; standing = subst (λ (b : Bool). Standing b w t now l o) (sym e) s }

-- a lane of which nothing changes but the OLT, and stands with it still if it is registered
pub lane_kept : (w : Setting) (t t' : Olt) (now : ℕ) (l : Lane) (o : Onu)
    → (l.entry.registered ≡ true → Standing true w t now l o → Standing true w t' now l o) → LaneRight w t now l o → LaneRight w t' now l o
lane_kept w t t' now l o keeps r = record { common = r.common; standing = by_registered l.entry.registered refl r.standing } where
  by_registered : (b : Bool) → l.entry.registered ≡ b → Standing b w t now l o → Standing b w t' now l o
  by_registered true e s = keeps e s
  by_registered false e s = s
