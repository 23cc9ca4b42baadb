-- Laws of replies: what each verdict leaves, once for all calls. Assumes nothing.
use Rattle.std.specs.Prelude.{Ok, Err}
use mathlib.Core.Path.{◌≡◌, refl, ap}
use mathlib.Core.Bool.{Bool, false}
use Prim.Native.Nat.{ℕ, ◌+◌, ◌≤◌}
use native.Mathlib.Omega.{arith}
use borrow.Author.Tests.{ltb-true, ltb-false, leb-true, leb-false, le-ltb, eqb-true, not-false}
use Rattle.octets.specs.Choice.{either}
use Rattle.octets.proofs.Choice.{both_left, both_right, either_false}
use Rattle.refusal.specs.declared.Refusal.{Refusal}
use Rattle.refusal.specs.Number.{verdict_number}
use Rattle.refusal.specs.declared.Refusal.TheVariants.{AtEnd}
use Rattle.clock.specs.Ticks.{max_tick}
use Rattle.refusal.specs.Order.{refuse_if}
use Rattle.refusal.proofs.Order.{refuse_accepted, refuse_passed}
use Rattle.protocol.specs.Replies.{Reply, reply, advance_verdict}
use Rattle.refusal.specs.Verdict.{Verdict, no_refusal}

---- what an accepted call has met

pub no_cause : (cause : Bool) (r : Refusal) (v : Verdict) → refuse_if cause r v ≡ no_refusal → cause ≡ false
no_cause cause r v e = (refuse_accepted cause r v e).0

pub rest_accepted : (cause : Bool) (r : Refusal) (v : Verdict) → refuse_if cause r v ≡ no_refusal → v ≡ no_refusal
rest_accepted cause r v e = (refuse_accepted cause r v e).1

pub neither_left : (a b : Bool) → either a b ≡ false → a ≡ false
neither_left a b e = (either_false a b e).0

pub neither_right : (a b : Bool) → either a b ≡ false → b ≡ false
neither_right a b e = (either_false a b e).1

-- from a chain of refusals that accepts, each test that was passed
pub ruleset met = (no_cause, rest_accepted, neither_left, neither_right, both_left, both_right, not-false, eqb-true, leb-true, leb-false, ltb-true, ltb-false)

---- what a verdict leaves

pub reply_verdict : {E H : Type 0} (v : Verdict) (lent : E) (nothing : H) (next : E) (handed : H) → (reply v lent nothing next handed).verdict ≡ v
unfolding reply
reply_verdict (Ok tt) lent nothing next handed = refl
reply_verdict (Err r) lent nothing next handed = refl

pub reply_accepted : {E H : Type 0} (v : Verdict) (lent : E) (nothing : H) (next : E) (handed : H) → v ≡ no_refusal
    → reply v lent nothing next handed ≡ record { verdict = no_refusal; end = next; handed = handed }
unfolding reply
reply_accepted v lent nothing next handed e = rw e

-- refused: the very end that was lent, and nothing
pub reply_refused : {E H : Type 0} (v : Verdict) (lent : E) (nothing : H) (next : E) (handed : H) (r : Refusal) → v ≡ Err r
    → reply v lent nothing next handed ≡ record { verdict = Err r; end = lent; handed = nothing }
unfolding reply
reply_refused v lent nothing next handed r e = rw e

-- what holds of the lent end and, where the call accepts, of the next one holds of the end that is left
pub reply_keeps : {E H : Type 0} (P : E → Type 0) (v : Verdict) (lent : E) (nothing : H) (next : E) (handed : H) → P lent → (v ≡ no_refusal → P next)
    → P (reply v lent nothing next handed).end
unfolding reply
reply_keeps P (Ok tt) lent nothing next handed p q = q refl
reply_keeps P (Err r) lent nothing next handed p q = p

-- a reply that refuses is that of the lent end
pub record Untouched {E H : Type 0} (lent : E) (nothing : H) (r : Reply E H) : Type 0 where
  pub end : r.end ≡ lent
  pub handed : r.handed ≡ nothing

pub reply_untouched : {E H : Type 0} (v : Verdict) (lent : E) (nothing : H) (next : E) (handed : H) (r : Refusal)
    → (reply v lent nothing next handed).verdict ≡ Err r → Untouched lent nothing (reply v lent nothing next handed)
unfolding reply
reply_untouched (Ok tt) lent nothing next handed r e = let z : ◌≡◌ {A = ℕ} 0 1 = cc in absurd (omega arith)
reply_untouched (Err x) lent nothing next handed r e = record { end = refl; handed = refl }

---- advances

pub advance_accepted : (tick n : ℕ) → advance_verdict tick n ≡ no_refusal → tick + n ≤ max_tick
unfolding advance_verdict
advance_accepted tick n e = ltb-false max_tick (tick + n) (refuse_accepted _ _ _ e).0

pub advance_accepts : (tick n : ℕ) → tick + n ≤ max_tick → advance_verdict tick n ≡ no_refusal
unfolding advance_verdict
advance_accepts tick n h = refuse_passed _ AtEnd no_refusal (le-ltb max_tick (tick + n) h)

---- numbers

-- a reply that does not accept is refused
pub not_accepted : {E H : Type 0} (lent : E) (nothing : H) (r : Reply E H) → ((x : Refusal) → r.verdict ≡ Err x → Untouched lent nothing r)
    → (r.verdict ≡ no_refusal → ⊥) → Untouched lent nothing r
not_accepted lent nothing r h n = by_verdict-holds r.verdict refl where
  by_verdict-holds : (v : Verdict) → r.verdict ≡ v → Untouched lent nothing r
  by_verdict-holds (Ok tt) e = absurd (n e)
  by_verdict-holds (Err x) e = h x e

-- a reply of any other number is refused
pub number_refused : {E H : Type 0} (lent : E) (nothing : H) (r : Reply E H) → ((x : Refusal) → r.verdict ≡ Err x → Untouched lent nothing r)
    → (verdict_number r.verdict ≡ 0 → ⊥) → Untouched lent nothing r
number_refused lent nothing r h n = not_accepted lent nothing r h (λ e. n (ap verdict_number e))
