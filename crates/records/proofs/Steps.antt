-- Laws of the nearest clock: low six bits go round with the clock, since 2^48 is a multiple of 64. Assumes nothing.
use Rattle.std.specs.Prelude.{Some, None}
use mathlib.Core.Path.{◌≡◌, sym, ap, ◌∙◌}
use Prim.Native.Nat.{ℕ, ◌+◌, ◌≤◌, ◌<◌}
use native.Mathlib.Omega.{arith}
use mathlib.Core.Bool.{true}
use mathlib.Core.Logic.{◌⊎◌, ⊎_elim, inl, inr}
use lib.Dec.{ltb, leb}
use borrow.Author.Tests.{ltb-true, leb-true, lt-ltb, le-leb}
use Rattle.octets.specs.Choice.{both, pick}
use Rattle.octets.proofs.Choice.{both_left, both_right, both_true, either_cases, pick_true, pick_first}
use Rattle.clock.specs.Ticks.{epam_turn, epam_of}
use Rattle.envelope.specs.Channels.{downstream, upstream, channel_fits}
use Rattle.records.specs.declared.header.Header.{Header}
use Rattle.records.specs.declared.near.Drift.{Drift}
use Rattle.records.specs.declared.near.Heard.{Heard}
use Rattle.records.specs.Verdict.{record_verdict, RecordVerdict}
use Rattle.records.specs.Near.{most_slip, last_step, stepped, step_to, nearest, IsNearest, sum_at, expected, corrected, own, heard_at, heard}

-- a channel index c is 00 or 01, 80 or 81 hex, and p its place
abbrev Place : ℕ → ℕ → Type 0
Place c p = ((c ≤ 1) × (p ≡ c)) ⊎ ((128 ≤ c) × (c ≤ 129) × (p + 126 ≡ c))

place_of : (c : ℕ) → channel_fits c ≡ true → Place c (sum_at c)
unfolding channel_fits downstream upstream
place_of c f =
    ⊎_elim
    (λ d. let h = leb-true c 1 d in inl (h, omega arith))
    (λ u. let h = leb-true 128 c (both_left _ _ u) in let k = leb-true c 129 (both_right _ _ u) in inr (h, k, omega arith))
    (either_cases _ _ f)

one_place : (c d p : ℕ) → Place c p → Place d p → c ≡ d
one_place c d p x y =
    ⊎_elim (λ a. ⊎_elim (λ b. omega arith) (λ b. omega arith) y) (λ a. ⊎_elim (λ b. omega arith) (λ b. omega arith) y) x

-- so each has one of its own, among four
pub own_place : (c d : ℕ) → channel_fits c ≡ true → channel_fits d ≡ true → sum_at c ≡ sum_at d → c ≡ d
own_place c d f g e = one_place c d (sum_at d) (rw e at (place_of c f)) (place_of d g)

pub place_below : (c : ℕ) → channel_fits c ≡ true → sum_at c < 4
place_below c f = ⊎_elim (λ a. omega arith) (λ a. omega arith) (place_of c f)

-- the step found has the low bits asked for
step_hits : (t e : ℕ) → e < epam_turn → epam_of (stepped t (step_to t e)) ≡ e
step_hits t e h = omega arith

-- no other has
step_only : (t e d : ℕ) → d ≤ last_step → epam_of (stepped t d) ≡ e → (e < epam_turn) × (step_to t e ≡ d)
step_only t e d h q = (omega arith, omega arith)

found : (t e d : ℕ) → e < epam_turn → step_to t e ≡ d → d ≤ last_step → nearest t e ≡ Some d
unfolding nearest
found t e d h q l = pick_true _ _ (both_true (lt-ltb e epam_turn h) (le-leb (step_to t e) last_step (rw q l))) ∙ ap Some q

pub is_nearest : (t e : ℕ) → IsNearest t e
unfolding nearest
is_nearest t e =
    record {
      among = λ d q.
          let p = pick_first (both (ltb e epam_turn) (leb (step_to t e) last_step)) (Some (step_to t e)) None (Some d) (λ z. cc) q in
          let s : step_to t e ≡ d = cc in (
            omega (arith, leb-true (step_to t e) last_step (both_right _ _ p.0), s),
            ap (λ (x : ℕ). epam_of (stepped t x)) (sym s) ∙ step_hits t e (ltb-true e epam_turn (both_left _ _ p.0)),
          );
      only = λ d h q. let o = step_only t e d h q in found t e d o.0 o.1 h;
      itself = λ h q. (found t e most_slip (omega arith) (omega arith) (omega arith), omega arith);
    }

-- a header that is heard at the clock of a step
pub heard_step : (presence llid t d u : ℕ) (v : RecordVerdict) (drift next : Drift) (h : Header) → t ≡ expected drift h → nearest t h.epam ≡ Some d
    → u ≡ stepped t d → v ≡ record_verdict presence llid u h → next ≡ pick (own llid h) (corrected drift h.channel d) drift
    → ◌≡◌ {A = Heard RecordVerdict} (record { verdict = v; drift = next }) (heard presence llid drift h)
unfolding heard heard_at
heard_step presence llid t d u v drift next h et en eu ev ed = rw (← et, en, ed, ev, eu, ← et)
