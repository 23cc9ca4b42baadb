-- Laws of a text that is written piece by piece: what is put behind its first octets, where there is room. Assumes nothing.
use mathlib.Core.Path.{◌≡◌, sym, ap, ◌∙◌}
use mathlib.Core.List.{List, ◌++◌, append_assoc}
use Prim.Native.Nat.{ℕ, ◌+◌, ◌≤◌, min}
use native.Mathlib.Omega.{arith}
use lib.Dec.{leb}
use lib.ListN.{length, take, drop, length-append, length-take}
use lib.Seq.{take_at, drop_at, drop-drop, length-take-le}
use borrow.Author.Tests.{leb-true, leb-false, le-leb}
use Rattle.octets.specs.Choice.{pick}
use Rattle.octets.specs.Lists.{part, copied_at}
use Rattle.octets.specs.Output.{WithOutput, with_output}
use Rattle.octets.proofs.Choice.{pick_holds, pick_true}
use Rattle.octets.proofs.Lists.{copied_inside}
use Rattle.rows.specs.declared.Line.{Line}
use Rattle.rows.specs.Text.{text_of, with_line}

-- the end of a piece, which is that of the text where there is no room for more
end_inside : (end size : ℕ) → end ≤ size → pick (leb end size) end size ≡ end
end_inside end size h = pick_true _ _ (le-leb end size h)

ends : (x end size : ℕ) → x ≡ min size end → pick (leb end size) end size ≡ x
ends x end size h = pick_holds (λ y. y ≡ x) (leb end size) end size (λ e. omega (arith, leb-true end size e)) (λ e. omega (arith, leb-false end size e))

-- a piece that is copied behind the first `at` octets
pub record Put (text next piece : List ℕ) (at : ℕ) : Type 0 where
  pub front : take (at + length piece) next ≡ take at text ++ piece
  pub rest : drop (at + length piece) next ≡ drop (at + length piece) text

pub put : (text next piece : List ℕ) (at : ℕ) → at + length piece ≤ length text → next ≡ copied_at piece at text → Put text next piece at
put text next piece at h e =
    let whole : next ≡ (take at text ++ piece) ++ drop (at + length piece) text =
    e ∙ copied_inside piece text at h ∙ rw (drop-drop (length piece) at text) (sym (append_assoc (take at text) piece _)) in
    let size : length (take at text ++ piece) ≡ at + length piece =
    length-append (take at text) piece ∙ ap (λ (n : ℕ). n + length piece) (length-take-le at text (omega arith)) in
    record {
      front = ap (take (at + length piece)) whole ∙ take_at (take at text ++ piece) _ (at + length piece) size;
      rest = ap (drop (at + length piece)) whole ∙ drop_at (take at text ++ piece) _ (at + length piece) size;
    }

-- a line's own octets, copied, and where they end: with the text, or before it
module _ (text next piece : List ℕ) (at : ℕ) (l : Line) (p : piece ≡ part l.octets 0 l.used) (e : next ≡ copied_at piece at text) where
  pub line_ends : (end : ℕ) → end ≡ min (length text) (at + length piece) → with_output end next ≡ with_line text at l
  unfolding with_line
  line_ends end h = rw (e, p, ends end (at + length (text_of l)) (length text) (rw p at h))

-- a line of at most m octets, put where there is room for as many
pub line_put : (text next : List ℕ) (at end m : ℕ) (l : Line) → with_output end next ≡ with_line text at l → l.used ≤ m → at + m ≤ length text
    → ((at ≤ end) × (end ≤ at + m)) × ((take end next ≡ take at text ++ text_of l) × (drop end next ≡ drop end text))
unfolding with_line
line_put text next at end m l e few room =
    let size : length (text_of l) ≤ m = simp length-take (omega arith) in
    let fits : at + length (text_of l) ≤ length text = omega arith in
    let place : end ≡ at + length (text_of l) = ap (λ (w : WithOutput ℕ). w.answer) e ∙ end_inside _ _ fits in
    let p = put text next (text_of l) at fits (ap (λ (w : WithOutput ℕ). w.output) e) in
    ((omega (arith, place), omega (arith, place)), (rw place p.front, rw place p.rest))
