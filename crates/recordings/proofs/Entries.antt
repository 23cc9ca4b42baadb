-- Laws of the entries and of the total, one record at a time. Assumes nothing.
use mathlib.Core.Path.{◌≡◌, sym, ap, ap₂, ◌∙◌}
use mathlib.Core.Bool.{true, false}
use mathlib.Core.List.{List, [], ◌∷◌, ◌++◌, append-nil}
use Prim.Native.Nat.{ℕ, ◌+◌, ◌<◌}
use native.Mathlib.Numerals.{add-one}
use native.Mathlib.Omega.{arith}
use lib.ListN.{length, take, drop, set, length-append, take-append-drop}
use lib.Seq.{drop_at, drop-drop, drop-set-lt, take_at, take-suc-set}
use Rattle.octets.specs.Lists.{tabulate}
use Rattle.octets.proofs.Choice.{pick_true, pick_false}
use Rattle.octets.proofs.Lists.{tabulate_length}
use Rattle.records.specs.Block.{records_in}
use Rattle.directory.proofs.Filling.{joined_next}
use Rattle.sameness.specs.Pairing.{alone}
use Rattle.recordings.specs.Comparing.{alone_mark, mark_of, alone_entry, alone_marks, entries_of}

-- one record more: one that is alone, and one that is not
pub alone_here : (b a : List ℕ) (j : ℕ) → alone b a j ≡ true → alone_marks b a (j + 1) ≡ alone_marks b a j ++ (alone_mark ∷ [])
alone_here b a j e = rw (pick_true _ _ e) at (joined_next (alone_entry b a) j)

pub alone_left : (b a : List ℕ) (j : ℕ) → alone b a j ≡ false → alone_marks b a (j + 1) ≡ alone_marks b a j
alone_left b a j e = rw (pick_false _ _ e, append-nil) at (joined_next (alone_entry b a) j)

-- one octet more behind the first e of a text
pub put_one : (o p : List ℕ) (e x : ℕ) → e < length o → take e o ≡ p → take (e + 1) (set o e x) ≡ p ++ (x ∷ [])
put_one o p e x h q = rw (add-one, take-suc-set o e x h, q)

-- what is the same from a place on stays so behind it, where an octet is put
pub stays_behind : (o s : List ℕ) (e x : ℕ) → drop e o ≡ drop e s → drop (e + 1) (set o e x) ≡ drop (e + 1) s
stays_behind o s e x q = drop-set-lt (e + 1) o e x (omega arith) ∙ sym (drop-drop 1 e o) ∙ ap (drop 1) q ∙ drop-drop 1 e s

---- the output

module _ (a b : List ℕ) where
  abbrev firsts : List ℕ
  firsts = tabulate 0 (records_in a) (mark_of a b)

  abbrev seconds : List ℕ
  seconds = alone_marks b a (records_in b)

  pub entries_length : length (entries_of a b) ≡ records_in a + length seconds
  unfolding entries_of
  entries_length = length-append firsts seconds ∙ rw (tabulate_length 0 (records_in a) (mark_of a b))

  -- what lies behind the entries, where those of a are written
  behind : (s o : List ℕ) (k : ℕ) → o ≡ firsts ++ drop (records_in a) s → drop (records_in a + k) o ≡ drop (records_in a + k) s
  behind s o k e =
      sym (drop-drop k (records_in a) o)
      ∙ ap (drop k) (ap (drop (records_in a)) e ∙ drop_at firsts (drop (records_in a) s) (records_in a) (tabulate_length 0 (records_in a) (mark_of a b)))
      ∙ drop-drop k (records_in a) s

  -- the entries of a, then those of b that are alone, make the output
  pub all_written : (s o t : List ℕ) (e : ℕ) → o ≡ firsts ++ drop (records_in a) s → e ≡ records_in a + length seconds
      → take e t ≡ take (records_in a) o ++ seconds → drop e t ≡ drop e o → t ≡ entries_of a b ++ drop (length (entries_of a b)) s
  unfolding entries_of
  all_written s o t e f n g h =
      let first : take (records_in a) o ≡ firsts =
      ap (take (records_in a)) f ∙ take_at firsts (drop (records_in a) s) (records_in a) (tabulate_length 0 (records_in a) (mark_of a b)) in
      let rest : drop e o ≡ drop (length (entries_of a b)) s = rw (entries_length, n) (behind s o (length seconds) f) in
      sym (take-append-drop e t) ∙ ap₂ (λ (x y : List ℕ). x ++ y) (g ∙ ap (λ (x : List ℕ). x ++ seconds) first) (h ∙ rest)
