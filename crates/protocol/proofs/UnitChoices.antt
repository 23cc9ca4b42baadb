-- Which key the OLT takes an envelope from a unit under. Assumes nothing.
use mathlib.Core.Path.{◌≡◌, refl, ◌∙◌}
use Prim.Native.Nat.{ℕ, ◌+◌, ◌%◌, ◌≤◌}
use native.Mathlib.Omega.{arith}
use lib.Dec.{leb}
use borrow.Author.Tests.{le-leb, eq-eqb, ne_eqb}
use Rattle.octets.specs.Choice.{both, pick}
use Rattle.octets.proofs.Choice.{not_of_true, both_false_right}
use Rattle.refusal.specs.declared.Refusal.TheVariants.{EpamDiffers}
use Rattle.clock.specs.Ticks.{epam_of}
use Rattle.protocol.specs.Headers.{choice_verdict}
use Rattle.protocol.specs.UnitTraffic.{unit_receive_choice, unit_receive_verdict}
use Rattle.ends.specs.declared.UnitRecord.{UnitRecord}
use Rattle.ends.specs.declared.Shared.{Shared}
use Rattle.protocol.specs.declared.Header.{Header}
use Rattle.protocol.specs.declared.KeyChoice.TheVariants.{Clear, Current, Next}
use Rattle.refusal.proofs.Order.{refuse_passed}
use Rattle.refusal.specs.Verdict.{no_refusal}

-- an envelope's header by its number: 0 is clear, C is the key in use, and A = C + 1 comes into use
pub receive_clear : (u : UnitRecord) (h : Header) → h.encenabled ≡ 0 → u.confirmation.confirmed ≡ 0 → unit_receive_choice u h ≡ Clear
unfolding unit_receive_choice pick both
receive_clear u h e c = rw (e, c)

pub receive_current : (u : UnitRecord) (h : Header) (n : ℕ) → h.encenabled ≡ 1 → h.enckey ≡ n % 2 → 1 ≤ n → n ≡ u.confirmation.confirmed
    → unit_receive_choice u h ≡ Current n
unfolding unit_receive_choice pick both
receive_current u h n e k p c = rw (e, ← c, le-leb 1 n p, k, eq-eqb (n % 2) (n % 2) refl)

pub receive_next : (u : UnitRecord) (h : Header) (n : ℕ) → h.encenabled ≡ 1 → h.enckey ≡ n % 2 → n ≡ u.keys.active
    → n ≡ u.confirmation.confirmed + 1
    → unit_receive_choice u h ≡ Next n
unfolding unit_receive_choice pick both
receive_next u h n e k a c =
    let other = both_false_right (leb 1 u.confirmation.confirmed) (ne_eqb h.enckey (u.confirmation.confirmed % 2) (λ z. omega arith)) in
    rw (e, other, ← a, ← c, eq-eqb n n refl, k, eq-eqb (n % 2) (n % 2) refl)

pub record Receives (s : Shared) (u : UnitRecord) (h : Header) : Type 0 where
  pub epam : h.epam ≡ epam_of s.clock
  pub choice : choice_verdict (unit_receive_choice u h) ≡ no_refusal

pub receive_accepts : (s : Shared) (u : UnitRecord) (h : Header) → Receives s u h → unit_receive_verdict s u h ≡ no_refusal
unfolding unit_receive_verdict
receive_accepts s u h r = refuse_passed _ EpamDiffers _ (not_of_true (eq-eqb _ _ r.epam)) ∙ r.choice
