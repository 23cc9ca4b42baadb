-- Laws of what is written for the records of a block, one after the other. Assumes nothing.
use mathlib.Core.Path.{◌≡◌, refl, sym, ap, ap₂, ◌∙◌}
use mathlib.Core.List.{List, ◌++◌, append_assoc, append-nil}
use Prim.Native.Nat.{ℕ, zero, suc, ◌+◌, ◌-◌, ◌*◌, ◌≤◌, ◌<◌}
use native.Mathlib.Nat.{add-zero, zero-add, add-suc, suc-add, mul-suc}
use native.Mathlib.Numerals.{add-one}
use native.Mathlib.Omega.{arith}
use lib.ListN.{length, get_or, set, take, drop}
use lib.Seq.{drop-cons, drop-drop, length-take-le, set_at}
use Rattle.octets.specs.Lists.{tabulate}
use Rattle.octets.proofs.Lists.{tabulate_length, tabulate_suc}
use Rattle.directory.specs.Rebuilt.{joined}

---- lists that are joined

pub joined_split : (f : ℕ → List ℕ) (j m k : ℕ) → joined f j (m + k) ≡ joined f j m ++ joined f (j + m) k
unfolding joined
joined_split f j zero k = rw (zero-add, add-zero)
joined_split f j (suc m) k = rw (suc-add, append_assoc) (ap (λ (t : List ℕ). f j ++ t) (joined_split f (suc j) m k ∙ rw (suc-add, add-suc)))

-- one more
pub joined_next : (f : ℕ → List ℕ) (i : ℕ) → joined f 0 (i + 1) ≡ joined f 0 i ++ f i
unfolding joined
joined_next f i = joined_split f 0 i 1 ∙ rw (zero-add, append-nil)

pub joined_ext : (f g : ℕ → List ℕ) (i m : ℕ) → ((k : ℕ) → i ≤ k → k < i + m → f k ≡ g k) → joined f i m ≡ joined g i m
unfolding joined
joined_ext f g i zero h = refl
joined_ext f g i (suc m) h =
    ap₂ (λ (x y : List ℕ). x ++ y) (h i (omega arith) (omega arith)) (joined_ext f g (suc i) m (λ k l u. h k (omega arith) (omega arith)))

-- one turn of a loop that writes them behind what is there
pub joined_behind : (f : ℕ → List ℕ) (front : List ℕ) (i : ℕ) → (front ++ joined f 0 i) ++ f i ≡ front ++ joined f 0 (i + 1)
joined_behind f front i = rw (joined_next f i) (append_assoc front (joined f 0 i) (f i))

---- an output that stays behind what is written

-- what is the same from a place on is the same from a later one on
pub same_behind : (s t : List ℕ) (a b : ℕ) → a ≤ b → drop a s ≡ drop a t → drop b s ≡ drop b t
same_behind s t a b h e =
    let n : b ≡ a + (b - a) = omega arith in
    rw n (sym (drop-drop (b - a) a s) ∙ ap (drop (b - a)) e ∙ drop-drop (b - a) a t)

-- one turn of a loop that fills a list from the front
pub fill_more : (f : ℕ → ℕ) (s : List ℕ) (i : ℕ) → i < length s
    → set (tabulate 0 i f ++ drop i s) i (f i) ≡ tabulate 0 (i + 1) f ++ drop (i + 1) s
fill_more f s i h =
    rw (add-one, drop-cons s i 0 h)
    (set_at (tabulate 0 i f) (get_or s i 0) (drop (suc i) s) (f i) i (tabulate_length 0 i f)
    ∙ sym (tabulate_suc 0 i f (drop (suc i) s) ∙ rw zero-add))

---- a text that is written piece by piece

-- what is put behind the first `at` octets of a text in at most m octets, and where it ends
abbrev pub Appended : List ℕ → List ℕ → List ℕ → ℕ → ℕ → ℕ → Type 0
Appended text next piece at end m =
    ((at ≤ end) × (end ≤ at + m)) × ((take end next ≡ take at text ++ piece) × (drop end next ≡ drop end text))

-- the same piece by another name, in no fewer octets
pub appended_as : (text next : List ℕ) (at end m n : ℕ) {piece other : List ℕ} → Appended text next piece at end m → piece ≡ other → m ≤ n
    → Appended text next other at end n
appended_as text next at end m n q e h = ((q.0.0, omega (arith, q.0.1)), (rw (← e) q.1.0, q.1.1))

-- a loop that appends f 0, f 1 and so on to the first `at` octets of a text, each in at most m octets: what holds once i of them are there
pub record Rows (f : ℕ → List ℕ) (m : ℕ) (text : List ℕ) (at : ℕ) (next : List ℕ) (end i : ℕ) : Type 0 where
  pub size : length next ≡ length text
  pub low : at ≤ end
  pub high : end ≤ at + m * i
  pub front : take end next ≡ take at text ++ joined f 0 i
  pub rest : drop end next ≡ drop end text

pub no_rows : (f : ℕ → List ℕ) (m : ℕ) (text : List ℕ) (at : ℕ) → Rows f m text at text at 0
unfolding joined
no_rows f m text at = record { size = refl; low = omega arith; high = omega arith; front = rw append-nil; rest = refl }

pub one_row : {f : ℕ → List ℕ} {m : ℕ} {text : List ℕ} {at : ℕ} {now next row : List ℕ} {end to i : ℕ} → Rows f m text at now end i
    → length next ≡ length now → Appended now next row end to m → row ≡ f i → Rows f m text at next to (i + 1)
one_row {f} {m} {text} {at} {i = i} r e q row =
    record {
      size = e ∙ r.size;
      low = omega (arith, r.low, q.0.0);
      high = rw (add-one, mul-suc) (omega (arith, r.high, q.0.1));
      front = q.1.0 ∙ rw (r.front, row) (joined_behind f (take at text) i);
      rest = q.1.1 ∙ same_behind _ text _ _ q.0.0 r.rest;
    }

-- a text of a heading and what is appended to it
pub headed : (text top next rest : List ℕ) (at end : ℕ) {heading : List ℕ} → take at top ≡ heading → drop at top ≡ drop at text → at ≤ end
    → (take end next ≡ take at top ++ rest) × (drop end next ≡ drop end top) → end ≤ length next
    → ((end ≤ length next) × (end ≡ length (take end next))) × ((take end next ≡ heading ++ rest) × (drop end next ≡ drop end text))
headed text top next rest at end e f l q h = ((h, sym (length-take-le _ _ h)), (rw (← e) q.0, q.1 ∙ same_behind _ _ _ _ l f))
