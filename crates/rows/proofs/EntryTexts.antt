-- Laws of the rows of two recordings: how long their pieces can be. Assumes nothing.
use mathlib.Core.List.{[], ◌∷◌}
use Prim.Native.Nat.{ℕ, ◌≤◌, ◌<◌}
use native.Mathlib.Omega.{arith}
use lib.Dec.{eqb}
use lib.ListN.{length, length-append}
use Rattle.octets.proofs.Choice.{pick_holds}
use Rattle.records.specs.declared.header.Header.{Header}
use Rattle.rows.specs.Text.{decimal_of}
use Rattle.rows.specs.Entries.{number_text, alone_text, same_text, different_text, mark_text, entry_head, entry_tail, block_text}
use Rattle.rows.proofs.Lines.{decimal_below, decimal_few}

pub u16_few : (k : ℕ) → k < 65536 → length (decimal_of k) ≤ 5
u16_few k h = decimal_below 4 k (omega arith)

pub number_text_few : (k : ℕ) → k < 65536 → length (number_text k) ≤ 5
unfolding number_text
number_text_few k h = pick_holds (λ t. length t ≤ 5) (eqb k 0) (45 ∷ []) _ (λ e. omega arith) (λ e. u16_few k h)

pub mark_few : (mark : ℕ) → length (mark_text mark) ≤ 9
unfolding mark_text
mark_few mark =
    pick_holds (λ t. length t ≤ 9) (eqb mark 0) alone_text _ (λ e. omega arith)
    (λ e. pick_holds (λ t. length t ≤ 9) (eqb mark 1) same_text different_text (λ f. omega arith) (λ f. omega arith))

pub head_text_few : (first second : ℕ) (h : Header) → first < 65536 → second < 65536 → length (entry_head first second h) ≤ 20
unfolding entry_head
head_text_few first second h f s = simp length-append (omega (arith, number_text_few first f, number_text_few second s))

pub tail_text_few : (clock mark : ℕ) → length (entry_tail clock mark) ≤ 31
unfolding entry_tail
tail_text_few clock mark = simp length-append (omega (arith, decimal_few clock, mark_few mark))

pub block_few : (block : ℕ) → length (block_text block) ≤ 21
unfolding block_text
block_few block = pick_holds (λ t. length t ≤ 21) (eqb block 0) [] _ (λ e. omega arith) (λ e. omega (arith, decimal_few block))
