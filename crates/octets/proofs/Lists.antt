-- Laws of lists by their elements: what a loop fills from the front, parts, and sums. Assumes nothing.
use mathlib.Core.Path.{◌≡◌, refl, ap, ap₂, sym, ◌∙◌}
use mathlib.Core.Bool.{true, false}
use mathlib.Core.List.{List, [], ◌∷◌, ◌++◌, append_assoc, append-nil}
use Prim.Native.Nat.{ℕ, zero, suc, ◌+◌, ◌-◌, ◌*◌, ◌<◌, ◌≤◌}
use native.Mathlib.Nat.{add-zero, zero-add, add-suc, suc-add, le_of_suc-le-suc, not-suc-le-zero, add_assoc, sub-zero, suc-sub-suc, mul-zero}
use native.Mathlib.Numerals.{add-one}
use native.Mathlib.Omega.{arith}
use lib.ListN.{length, get_or, drop, take, length-append, length-take, length-drop}
use lib.Seq.{ext_get_or, take_all, take_at, drop_at, drop-length, drop-drop, take-add, get_or-take, get_or-drop, paste, take-length, take-nil}
use borrow.Author.Tests.{eqb-true, eq-eqb}
use Rattle.std.specs.Simd.{first_chunks}
use Rattle.octets.specs.Lists.{tabulate, sum, same, replaced, written, part, copied, copied_at}
use Rattle.octets.proofs.Choice.{both_left, both_right, both_true}

pub tabulate_length : {A : Type 0} (i n : ℕ) (f : ℕ → A) → length (tabulate i n f) ≡ n
tabulate_length i zero f = refl
tabulate_length i (suc n) f = ap suc (tabulate_length (suc i) n f)

pub tabulate_at : {A : Type 0} (i n : ℕ) (f : ℕ → A) (k : ℕ) (d : A) → k < n → get_or (tabulate i n f) k d ≡ f (i + k)
tabulate_at i zero f k d h = absurd (not-suc-le-zero h)
tabulate_at i (suc n) f zero d h = rw add-zero
tabulate_at i (suc n) f (suc k) d h = tabulate_at (suc i) n f k d (le_of_suc-le-suc h) ∙ rw (suc-add, add-suc)

-- what depends only on the elements tabulated
pub tabulate_ext : {A : Type 0} (i n : ℕ) (f g : ℕ → A) → ((k : ℕ) → i ≤ k → k < i + n → f k ≡ g k) → tabulate i n f ≡ tabulate i n g
tabulate_ext i zero f g h = refl
tabulate_ext {A} i (suc n) f g h =
    rw (h i (omega arith) (omega arith))
    (ap (λ (l : List A). g i ∷ l) (tabulate_ext (suc i) n f g (λ k a b. h k (omega arith) (omega arith))))

-- a list is what its elements make
pub tabulate_self : {A : Type 0} (l : List A) (d : A) → tabulate 0 (length l) (λ i. get_or l i d) ≡ l
tabulate_self l d =
    ext_get_or d (tabulate 0 (length l) (λ i. get_or l i d)) l (tabulate_length 0 (length l) (λ i. get_or l i d))
    (λ i h.
    tabulate_at 0 (length l) (λ i. get_or l i d) i d (rw tabulate_length at h)
    ∙ rw zero-add)

pub tabulate_suc : {A : Type 0} (i n : ℕ) (f : ℕ → A) (ys : List A) → tabulate i (suc n) f ++ ys ≡ tabulate i n f ++ (f (i + n) ∷ ys)
tabulate_suc i zero f ys = rw add-zero
tabulate_suc {A} i (suc n) f ys = rw (add-suc, ← suc-add) (ap (λ (l : List A). f i ∷ l) (tabulate_suc (suc i) n f ys))

-- a copy of a list of the same length: the list itself
pub copied_whole : {A : Type 0} (s t : List A) → length t ≡ length s → copied s t ≡ s
copied_whole s t e = rw (e, take-length, ← e, drop-length, append-nil)

pub sum_suc : (i n : ℕ) (f : ℕ → ℕ) → sum i (suc n) f ≡ sum i n f + f (i + n)
sum_suc i zero f = rw (add-zero, add-zero, zero-add)
sum_suc i (suc n) f = rw (sum_suc (suc i) n f) (rw (add-suc, suc-add) (sym (add_assoc (f i) (sum (suc i) n f) (f (suc (i + n))))))

-- one number more
pub sum_more : (f : ℕ → ℕ) (n : ℕ) → sum 0 (n + 1) f ≡ sum 0 n f + f n
sum_more f n = rw add-one (sum_suc 0 n f ∙ rw zero-add)

pub sum_ext : (i n : ℕ) (f g : ℕ → ℕ) → ((k : ℕ) → i ≤ k → k < i + n → f k ≡ g k) → sum i n f ≡ sum i n g
sum_ext i zero f g h = refl
sum_ext i (suc n) f g h =
    rw (h i (omega arith) (omega arith))
    (ap (λ (x : ℕ). g i + x) (sum_ext (suc i) n f g (λ k a b. h k (omega arith) (omega arith))))

-- a sum of numbers each at most b is at most n times b
pub sum_below : (i n b : ℕ) (f : ℕ → ℕ) → ((k : ℕ) → f k ≤ b) → sum i n f ≤ n * b
sum_below i zero b f h = omega arith
sum_below i (suc n) b f h = omega (arith, h i, sum_below (suc i) n b f h)

-- where there is room for all of s, it stands in its places
pub copied_inside : (s t : List ℕ) (at : ℕ) → at + length s ≤ length t → copied_at s at t ≡ replaced t at s
copied_inside s t at h = rw (take_all (length (drop at t)) s (omega (arith, length-drop at t)))

-- a copy of all elements of t to the places from `at` on
pub paste_all : {A : Type 0} (s : List A) (at : ℕ) (t : List A) → paste s at t (length t) ≡ replaced s at t
paste_all {A} s at t =
    append_assoc (take at s) (take (length t) t) (drop (at + length t) s)
    ∙ ap₂ (λ (a b : List A). take at s ++ (a ++ b)) (take-length t) (sym (drop-drop (length t) at s))

-- the part after p, of a list that begins with p and goes on as z
pub replaced_next : {A : Type 0} (p z t : List A) (at : ℕ) → length p ≡ at
    → replaced (p ++ drop at z) at t ≡ (p ++ t) ++ drop (at + length t) z
replaced_next {A} p z t at e =
    ap₂ (λ (a b : List A). a ++ (t ++ drop (length t) b)) (take_at p (drop at z) at e) (drop_at p (drop at z) at e)
    ∙ ap (λ (b : List A). p ++ (t ++ b)) (drop-drop (length t) at z)
    ∙ sym (append_assoc p t (drop (at + length t) z))

-- an element of a part
pub part_at : {A : Type 0} (s : List A) (a n i : ℕ) (d : A) → i < n → get_or (take n (drop a s)) i d ≡ get_or s (a + i) d
part_at s a n i d h = rw (get_or-take n (drop a s) i d h, get_or-drop a s i d)

pub part_length : {A : Type 0} (s : List A) (a n : ℕ) → a + n ≤ length s → length (take n (drop a s)) ≡ n
part_length s a n h = simp (length-take, length-drop) (omega arith)

-- a part that is all there, by its elements
pub part_tabulated : {A : Type 0} (s : List A) (a n : ℕ) (d : A) → a + n ≤ length s → part s a n ≡ tabulate 0 n (λ i. get_or s (a + i) d)
part_tabulated s a n d h =
    ext_get_or d (part s a n) (tabulate 0 n (λ i. get_or s (a + i) d))
    (part_length s a n h ∙ sym (tabulate_length 0 n (λ i. get_or s (a + i) d)))
    (λ i k.
    let l : i < n = rw (part_length s a n h) at k in
    part_at s a n i d l ∙ sym (tabulate_at 0 n (λ i. get_or s (a + i) d) i d l ∙ rw zero-add))

-- piece i of the first k of a list, each of n elements
pub chunk_at : {A : Type 0} (n k i : ℕ) (s d : List _) → i < k → get_or (first_chunks {X = A} n k s) i d ≡ part s (n * i) n
chunk_at n zero i s d h = absurd (not-suc-le-zero h)
chunk_at n (suc k) zero s d h = rw mul-zero
chunk_at n (suc k) (suc i) s d h =
    let next : n + n * i ≡ n * suc i = omega arith in
    chunk_at n k i (drop n s) d (le_of_suc-le-suc h) ∙ rw drop-drop (rw next)

pub written_length : {A : Type 0} (t : List A) (a e : ℕ) (s : List A) → a ≤ e → e ≤ length s → e ≤ length t
    → length (written t a e s) ≡ length s
written_length t a e s h k l = simp (length-append, length-take, length-drop) (omega arith)

-- what lies past the written places is as it was
pub written_rest : {A : Type 0} (t : List A) (b a : ℕ) (s : List A) → b ≤ a → a ≤ length s → a ≤ length t
    → drop a (written t b a s) ≡ drop a s
written_rest t b a s h k l =
    let p = take (a - b) (drop b t) in
    let n : length (take b s ++ p) ≡ a = simp (length-append, length-take, length-drop) (omega arith) in
    rw (← append_assoc (take b s) p (drop a s)) (drop_at (take b s ++ p) (drop a s) a n)

-- all is written
pub written_all : {A : Type 0} (t s : List A) → length t ≡ length s → written t 0 (length s) s ≡ t
written_all {A} t s h =
    let whole : take (length s) t ≡ t = take_all (length s) t (omega arith) in
    let z : length s - 0 ≡ length s = omega arith in
    rw (z, whole, drop-length s, append-nil)

-- what is written from b up to a, and then from a up to e, is written from b up to e
pub written_more : {A : Type 0} (t : List A) (b a e : ℕ) (s : List A) → b ≤ a → a ≤ e → e ≤ length s → e ≤ length t
    → written t a e (written t b a s) ≡ written t b e s
written_more {A} t b a e s g h k l =
    let p = take (a - b) (drop b t) in
    let n : length (take b s ++ p) ≡ a = simp (length-append, length-take, length-drop) (omega arith) in
    let regroup : written t b a s ≡ (take b s ++ p) ++ drop a s = sym (append_assoc (take b s) p (drop a s)) in
    let low : take a ((take b s ++ p) ++ drop a s) ≡ take b s ++ p = take_at (take b s ++ p) (drop a s) a n in
    let m : e ≡ a + (e - a) = omega arith in
    let high : drop e ((take b s ++ p) ++ drop a s) ≡ drop e s =
    rw m (rw (← drop-drop (e - a) a ((take b s ++ p) ++ drop a s), drop_at (take b s ++ p) (drop a s) a n) (drop-drop (e - a) a s)) in
    let u : e - b ≡ (a - b) + (e - a) = omega arith in
    let v : b + (a - b) ≡ a = omega arith in
    let joined : take (e - b) (drop b t) ≡ p ++ take (e - a) (drop a t) = rw (u, take-add (a - b) (e - a) (drop b t), drop-drop (a - b) b t, v) in
    rw (regroup, low, high, joined) (simp append_assoc)

-- a part that was lent and has come back holding what t has there
pub written_part : {A : Type 0} (t : List A) (a k : ℕ) (s ys : List A) → ys ≡ take k (drop a t)
    → take a s ++ (ys ++ drop k (drop a s)) ≡ written t a (a + k) s
written_part t a k s ys e =
    let z : a + k - a ≡ k = omega arith in
    rw (e, z, drop-drop)

pub same_true : (a b : List ℕ) → same a b ≡ true → a ≡ b
unfolding same
same_true [] [] e = refl
same_true [] (y ∷ ys) e = let z : false ≡ true = e in cc
same_true (x ∷ xs) [] e = let z : false ≡ true = e in cc
same_true (x ∷ xs) (y ∷ ys) e =
    let head : x ≡ y = eqb-true x y (both_left _ _ e) in
    let tail : xs ≡ ys = same_true xs ys (both_right _ _ e) in
    cc

pub same_refl : (a : List ℕ) → same a a ≡ true
unfolding same
same_refl [] = refl
same_refl (x ∷ xs) = both_true (eq-eqb x x refl) (same_refl xs)

-- a part without its first elements
pub drop_part : (s : List ℕ) (at k m : ℕ) → m ≤ k → drop m (part s at k) ≡ part s (at + m) (at + k - (at + m))
drop_part s at k m h =
    let e : at + k - (at + m) ≡ k - m = omega arith in
    rw (e, ← drop-drop m at s) (drop_take m k (drop at s) h) where
      drop_take : (m k : ℕ) (l : List ℕ) → m ≤ k → drop m (take k l) ≡ take (k - m) (drop m l)
      drop_take zero k l h = rw sub-zero
      drop_take (suc m) zero l h = absurd (omega arith)
      drop_take (suc m) (suc k) [] h = sym (take-nil (suc k - suc m))
      drop_take (suc m) (suc k) (x ∷ l) h = rw suc-sub-suc (drop_take m k l (le_of_suc-le-suc h))

-- a part is no longer than the whole
pub part_below : (s : List ℕ) (at k : ℕ) → length (part s at k) ≤ length s
part_below s at k = simp (length-take, length-drop) (omega arith)
