-- Laws of the calls: what an accepted one tells, and what each verdict has them answer. Assumes nothing.
use mathlib.Core.Path.{◌≡◌, ap, ◌∙◌}
use mathlib.Core.List.{List}
use Prim.Native.Nat.{ℕ, ◌*◌, ◌/◌, ◌%◌, ◌≤◌}
use native.Mathlib.Omega.{arith}
use lib.ListN.{length}
use borrow.Author.Tests.{not-false, eq-eqb, le-leb}
use Rattle.octets.specs.Eqs.{eq_octets, max_eqs}
use Rattle.octets.specs.Output.{WithOutput, with_output}
use Rattle.octets.proofs.Choice.{both_true, not_of_true}
use Rattle.refusal.specs.declared.Refusal.{Refusal}
use Rattle.std.specs.Prelude.{Err}
use Rattle.refusal.specs.declared.Refusal.TheVariants.{BadLength}
use Rattle.refusal.proofs.Order.{refuse_accepted, refuse_passed}
use Rattle.envelope.specs.Acceptance.{lengths_fit}
use Rattle.envelope.proofs.Acceptance.{Lengths, lengths_fit-holds}
use Rattle.planes.specs.Calls.{length_verdict, writing}
use Rattle.planes.specs.Duties.{Sized}
use Rattle.refusal.specs.Verdict.{Verdict, no_refusal}

pub accepted : (n m : ℕ) → length_verdict n m ≡ no_refusal → Lengths n m
unfolding length_verdict
accepted n m e = lengths_fit-holds n m (not-false _ (refuse_accepted _ BadLength no_refusal e).0)

pub accepted_size : (p out : List ℕ) → length_verdict (length p) (length out) ≡ no_refusal → Sized p out (length p / eq_octets)
accepted_size p out e =
    let l = accepted _ _ e in
    record { read = omega arith; room = omega arith }

pub writing_accepted : (v : Verdict) (made out out' : List ℕ) → v ≡ no_refusal → out' ≡ made → with_output no_refusal out' ≡ writing v made out
unfolding writing
writing_accepted v made out out' e same = rw (e, same)

pub writing_refused : (v : Verdict) (r : Refusal) (made out : List ℕ) → v ≡ Err r → with_output (Err r) out ≡ writing v made out
unfolding writing
writing_refused v r made out e = rw e

-- what an accepted call has written
pub wrote : (v answer : Verdict) (made out out' : List ℕ) → with_output answer out' ≡ writing v made out → v ≡ no_refusal → out' ≡ made
unfolding writing
wrote v answer made out out' e a =
    let q : with_output answer out' ≡ with_output no_refusal made = e ∙ rw a in
    ap (λ (w : WithOutput Verdict). w.output) q

pub accepts : (n m : ℕ) → n % eq_octets ≡ 0 → n ≤ eq_octets * max_eqs → m ≡ n → length_verdict n m ≡ no_refusal
unfolding length_verdict lengths_fit
accepts n m whole bounded same =
    refuse_passed _ BadLength no_refusal (not_of_true (both_true (eq-eqb _ _ whole) (both_true (le-leb _ _ bounded) (eq-eqb _ _ same))))
