-- Laws of a record that is opened by itself. Assumes nothing.
use mathlib.Core.Path.{◌≡◌, sym}
use mathlib.Core.Bool.{true, false}
use mathlib.Core.List.{List}
use Prim.Native.Nat.{ℕ, ◌+◌, ◌≤◌}
use lib.ListN.{length, set}
use borrow.Author.Tests.{eqb-true, leb-true, eq-eqb, le-leb}
use Rattle.octets.specs.Lists.{replaced}
use Rattle.octets.specs.Output.{with_output}
use Rattle.octets.proofs.Choice.{both_left, both_right, both_true, pick_true, pick_false}
use Rattle.envelope.specs.Acceptance.{nonce_fits}
use Rattle.envelope.specs.ControlMask.{count_enciphered, runs}
use Rattle.envelope.specs.declared.Nonce.{Nonce}
use Rattle.sealing.specs.Payload.{sealed}
use Rattle.records.specs.Record.{record_octets}
use Rattle.envelope.specs.declared.Work.{Work}
use Rattle.capture.specs.Span.{span_fits, span_payload, span_opening}

-- what the test tells
pub record Lies (nonce : Nonce) (size room to : ℕ) : Type 0 where
  pub inside : to ≤ size
  pub same : room ≡ size
  pub most : size ≤ 65536
  pub fits : nonce_fits nonce ≡ true

pub lies : (nonce : Nonce) (size room to : ℕ) → span_fits nonce size room to ≡ true → Lies nonce size room to
unfolding span_fits
lies nonce size room to e =
    let p = both_left _ _ e in
    let q = both_right _ _ p in
    record { inside = leb-true _ _ (both_left _ _ p); same = eqb-true _ _ (both_left _ _ q); most = leb-true _ _ (both_right _ _ q); fits = both_right _ _ e }

-- and conversely
pub lies_fits : (nonce : Nonce) (size room to : ℕ) → Lies nonce size room to → span_fits nonce size room to ≡ true
unfolding span_fits
lies_fits nonce size room to l =
    both_true (both_true (le-leb _ _ l.inside) (both_true (eq-eqb _ _ l.same) (le-leb _ _ l.most))) l.fits

-- an answer by its parts
pub opening_is : {r : Work} {m n : ℕ} {o p : List ℕ} → r.count ≡ m → r.runs ≡ n → o ≡ p
    → with_output r o ≡ with_output (record { count = m; runs = n }) p
opening_is e f g = rw (← e, ← f, ← g)

module _ (w : List ℕ) (nonce : Nonce) (flags : ℕ) (b out : List ℕ) (from eqs : ℕ) where
  pub span_opened : span_fits nonce (length b) (length out) (from + record_octets eqs) ≡ true
      → span_opening w nonce flags b out from eqs
      ≡ with_output (record { count = count_enciphered (span_payload b from eqs); runs = runs (span_payload b from eqs) })
      (replaced (set out (from + 4) flags) (from + 16) (sealed w nonce (span_payload b from eqs)))
  unfolding span_opening
  span_opened e = pick_true _ _ e

  pub span_left : span_fits nonce (length b) (length out) (from + record_octets eqs) ≡ false
      → with_output (record { count = 0; runs = 0 }) out ≡ span_opening w nonce flags b out from eqs
  unfolding span_opening
  span_left e = sym (pick_false _ _ e)
