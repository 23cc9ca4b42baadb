-- Laws of the expanded keys of a class. Assumes nothing.
use mathlib.Core.Path.{◌≡◌, refl, sym, ap, ◌∙◌}
use mathlib.Core.Bool.{true, false}
use mathlib.Core.Logic.{⊎_elim}
use mathlib.Core.List.{List, ◌++◌}
use Prim.Native.Nat.{ℕ, ◌+◌, ◌*◌, ◌/◌, ◌%◌, ◌≤◌, ◌<◌}
use native.Mathlib.Nat.{eq-or-lt_of_le}
use native.Mathlib.Omega.{arith}
use lib.ListN.{length, take, drop, replicate, length-append, length-drop, length-replicate, take-append-drop}
use lib.Seq.{take_at, drop_at, drop-append-le, take-append-le, length-take-le}
use Rattle.octets.specs.Choice.{pick}
use Rattle.octets.specs.Lists.{sum, copied, copied_at, replaced}
use Rattle.octets.proofs.Choice.{pick_true, pick_false, pick_holds, true_false}
use Rattle.octets.proofs.Lists.{sum_below, part_length, copied_whole, copied_inside}
use Rattle.cipher.specs.KeyExpansion.{key_expansion}
use Rattle.records.specs.Settings.{key_of}
use Rattle.rights.specs.declared.settings.Caller.{Caller}
use Rattle.rights.specs.Settings.{set_of}
use Rattle.class.specs.Opening.{is_expanded}
use Rattle.class.specs.Duties.{keys_octets, expanded_at, ExpandedNext, Expanded}

-- a key among those that there is room for, as a record is handed it
pub handed : (keys : List ℕ) (k : ℕ) → length keys ≡ keys_octets → k < 32 → copied (expanded_at keys k) (replicate 176 0) ≡ expanded_at keys k
handed keys k size h =
    copied_whole (expanded_at keys k) (replicate 176 0) (length-replicate {A = ℕ} 176 0 ∙ sym (part_length keys (176 * k) 176 (omega arith)))

-- a part of the first list of two
early : (x y : List ℕ) (at n : ℕ) → at + n ≤ length x → take n (drop at (x ++ y)) ≡ take n (drop at x)
early x y at n h = rw (drop-append-le at x y (omega arith)) (take-append-le n (drop at x) y (omega (arith, length-drop at x)))

module _ (c : Caller) (s q keys : List ℕ) (k : ℕ) where
  -- a key that is not to be expanded
  pub not_expanded : is_expanded c s q k ≡ false → ExpandedNext c s q keys keys k 0
  not_expanded e = record { size = refl; kept = λ m h. refl; there = λ f. true_false (sym f ∙ e); told = sym (pick_false _ _ e) }

  -- one that is
  pub expanded_there : (w next : List ℕ) → length keys ≡ keys_octets → k < 32 → length w ≡ 176 → is_expanded c s q k ≡ true
      → w ≡ key_expansion (key_of (set_of s (k / 2)) (k % 2)) → next ≡ copied_at w (176 * k) keys → ExpandedNext c s q keys next k 1
  expanded_there w next size h l e f g =
      let whole = g ∙ copied_inside w keys (176 * k) (omega arith) in
      let front : length (take (176 * k) keys) ≡ 176 * k = length-take-le (176 * k) keys (omega arith) in
      let back = drop (length w) (drop (176 * k) keys) in
      let size : length next ≡ length keys =
      ap length whole
      ∙ simp (length-append, length-drop) (omega (arith, front)) in
      record {
        size = size;
        kept = λ m b. ap (λ (t : List ℕ). expanded_at t m) whole ∙ before m b;
        there = λ x. ap (λ (t : List ℕ). expanded_at t k) whole ∙ rw (drop_at (take (176 * k) keys) (w ++ back) (176 * k) front)
            (take_at w back 176 l ∙ f);
        told = sym (pick_true _ _ e);
      } where
        before : (m : ℕ) → m < k → expanded_at (replaced keys (176 * k) w) m ≡ expanded_at keys m
        before m b =
            let front : length (take (176 * k) keys) ≡ 176 * k = length-take-le (176 * k) keys (omega arith) in
            let x = take (176 * k) keys in
            early x (w ++ drop (length w) (drop (176 * k) keys)) (176 * m) 176 (omega arith)
            ∙ sym (early x (drop (176 * k) keys) (176 * m) 176 (omega arith)) ∙ ap (λ (t : List ℕ). expanded_at t m) (take-append-drop (176 * k) keys)

---- key by key
abbrev pub Counts : Caller → List ℕ → List ℕ → ℕ → ℕ
Counts c s q k = pick (is_expanded c s q k) 1 0

pub counts_few : (c : Caller) (s q : List ℕ) (k : ℕ) → sum 0 k (Counts c s q) ≤ k
counts_few c s q k = omega (
  arith,
  sum_below 0 k 1 (Counts c s q) (λ m. pick_holds (λ n. n ≤ 1) (is_expanded c s q m) 1 0 (λ e. omega arith)
      (λ e. omega arith)),
)

pub none_expanded : (c : Caller) (s q keys : List ℕ) → Expanded c s q keys 0
none_expanded c s q keys = record { there = λ k h e. absurd (omega arith) }

pub one_expanded : (c : Caller) (s q keys next : List ℕ) (k r : ℕ) → Expanded c s q keys k → ExpandedNext c s q keys next k r
    → Expanded c s q next (k + 1)
one_expanded c s q keys next k r x n =
    record {
      there = λ m h e.
          ⊎_elim (λ z. rw z (n.there (rw z at e))) (λ b. n.kept m b ∙ x.there m b e) (eq-or-lt_of_le {n = m} {m = k} (omega arith));
    }
