-- Laws of LLIDs. Assumes nothing.
use Rattle.std.proofs.Common.{◌≡◌, ℕ, zero, suc, ◌+◌, ◌<◌, ◌≤◌, true, false, eqb, ltb, List, [], ◌∷◌, ◌++◌, length, get_or, take, drop, sym, refl, ap, ◌∙◌, ⊎_elim, zero-add, add-one, arith, take-append-drop, take-suc, lt-ltb, eq-eqb, ne_eqb, eqb-true, leb-true}
use borrow.Author.Tests.{not-true}
use Rattle.octets.specs.Choice.{both, either, pick}
use Rattle.octets.specs.Lists.{tabulate}
use Rattle.octets.proofs.Choice.{both_left, both_right, both_true, either_false, true_false, either_left, either_right, either_none, either_cases, either_assoc, either_swap, not_of_false, not_of_true, not_both}
use Rattle.octets.proofs.Lists.{tabulate_at, tabulate_ext}
use Rattle.octets.proofs.Steps.{drop_step}
use Rattle.ends.specs.Limits.{max_llids}
use Rattle.ends.specs.Identities.{among, meets, distinct, no_identity, llids_of, has, kept, valid_mac, valid_identity}
use Rattle.ends.specs.declared.Identity.{Identity}

---- lists of numbers

pub among_append : (x : ℕ) (xs ys : List ℕ) → among x (xs ++ ys) ≡ either (among x xs) (among x ys)
unfolding among either
among_append x [] ys = refl
among_append x (y ∷ xs) ys = ap (either (eqb y x)) (among_append x xs ys) ∙ sym (either_assoc (eqb y x) (among x xs) (among x ys))

pub among_head : (x : ℕ) (xs : List ℕ) → among x (x ∷ xs) ≡ true
unfolding among
among_head x xs = either_left _ (eq-eqb x x refl)

-- lists that do not meet have no element in common
pub meets_apart : (xs ys : List ℕ) (x : ℕ) → meets xs ys ≡ false → among x xs ≡ true → among x ys ≡ false
unfolding meets among
meets_apart [] ys x m a = true_false (sym a)
meets_apart (y ∷ xs) ys x m a =
    ⊎_elim (λ e. ap (λ (z : ℕ). among z ys) (sym (eqb-true y x e)) ∙ (either_false _ _ m).0)
    (λ e. meets_apart xs ys x (either_false _ _ m).1 e)
    (either_cases (eqb y x) (among x xs) a)

pub meets_nil : (xs : List ℕ) → meets xs [] ≡ false
unfolding meets among either
meets_nil [] = refl
meets_nil (x ∷ xs) = meets_nil xs

pub meets_append : (xs ys zs : List ℕ) → meets xs (ys ++ zs) ≡ either (meets xs ys) (meets xs zs)
unfolding meets either
meets_append [] ys zs = refl
meets_append (x ∷ xs) ys zs =
    rw (among_append x ys zs, meets_append xs ys zs) (either_swap (among x ys) (among x zs) (meets xs ys) (meets xs zs))

pub distinct_append : (xs ys : List ℕ) → distinct xs ≡ true → distinct ys ≡ true → ((x : ℕ) → among x xs ≡ true → among x ys ≡ false)
    → distinct (xs ++ ys) ≡ true
unfolding distinct among
distinct_append [] ys d e h = e
distinct_append (x ∷ xs) ys d e h =
    let new : among x (xs ++ ys) ≡ false =
    among_append x xs ys ∙ either_none (not-true _ (both_left _ _ d)) (h x (among_head x xs)) in
    both_true (not_of_false new) (distinct_append xs ys (both_right _ _ d) e (λ z a. h z (either_right _ a)))

pub distinct_right : (xs ys : List ℕ) → distinct (xs ++ ys) ≡ true → distinct ys ≡ true
unfolding distinct
distinct_right [] ys d = d
distinct_right (x ∷ xs) ys d = distinct_right xs ys (both_right _ _ d)

-- in a list with no number twice, what is in the first part is not in the second
pub distinct_apart : (xs ys : List ℕ) (x : ℕ) → distinct (xs ++ ys) ≡ true → among x xs ≡ true → among x ys ≡ false
unfolding distinct among
distinct_apart [] ys x d a = true_false (sym a)
distinct_apart (y ∷ xs) ys x d a =
    let new = either_false _ _ (sym (among_append y xs ys) ∙ not-true _ (both_left _ _ d)) in
    ⊎_elim (λ e. ap (λ (z : ℕ). among z ys) (sym (eqb-true y x e)) ∙ new.1)
    (λ e. distinct_apart xs ys x (both_right _ _ d) e)
    (either_cases (eqb y x) (among x xs) a)

-- a number of the first part once more
pub distinct_again : (xs : List ℕ) (x : ℕ) (ys : List ℕ) → among x xs ≡ true → distinct (xs ++ (x ∷ ys)) ≡ false
distinct_again xs x ys a = not_both _ _ (λ d. distinct_apart xs (x ∷ ys) x d a) (among_head x ys)

pub distinct_more : (xs : List ℕ) (x : ℕ) → distinct xs ≡ true → among x xs ≡ false → distinct (xs ++ (x ∷ [])) ≡ true
unfolding distinct among both
distinct_more xs x d a =
    distinct_append xs (x ∷ []) d refl
    (λ y b. either_none (ne_eqb x y (λ e. true_false (sym b ∙ ap (λ (z : ℕ). among z xs) (sym e) ∙ a))) refl)

distinct_left : (xs ys : List ℕ) → distinct (xs ++ ys) ≡ true → distinct xs ≡ true
unfolding distinct
distinct_left [] ys d = refl
distinct_left (x ∷ xs) ys d =
    let new = either_false _ _ (sym (among_append x xs ys) ∙ not-true _ (both_left _ _ d)) in
    both_true (not_of_false new.0) (distinct_left xs ys (both_right _ _ d))

-- one number more, which is none of those before
pub distinct_step : (l : List ℕ) (i : ℕ) → i < length l → distinct (take i l) ≡ true → among (get_or l i 0) (take i l) ≡ false
    → distinct (take (i + 1) l) ≡ true
distinct_step l i h e a = rw (add-one, take-suc l i 0 h) (distinct_more (take i l) (get_or l i 0) e a)

-- one that is
pub distinct_stop : (l : List ℕ) (i : ℕ) → i < length l → among (get_or l i 0) (take i l) ≡ true → distinct l ≡ false
distinct_stop l i h a =
    let split : l ≡ take i l ++ (get_or l i 0 ∷ drop (i + 1) l) = sym (take-append-drop i l)
    ∙ ap (λ (b : List ℕ). take i l ++ b) (drop_step l i 0 h) in
    ap distinct split ∙ distinct_again (take i l) (get_or l i 0) (drop (i + 1) l) a

-- a number twice in the first part
pub distinct_no : (xs ys : List ℕ) → distinct xs ≡ false → distinct (xs ++ ys) ≡ false
distinct_no xs ys e = not_both _ _ (λ d. not_of_true (distinct_left xs ys d)) (not_of_false e)

---- identities

pub identity_valid : (i : Identity) → valid_identity i ≡ true → (1 ≤ i.count) × (i.count ≤ max_llids)
unfolding valid_identity
identity_valid i e = let c = both_right _ _ e in (leb-true _ _ (both_left _ _ c), leb-true _ _ (both_right _ _ c))

-- an identity with a count has its first LLID
pub first_has : (i : Identity) → 1 ≤ i.count → has i (get_or i.llids 0 0) ≡ true
unfolding has llids_of
first_has i h = by_count i.count h where
  by_count : (n : ℕ) → 1 ≤ n → among (get_or i.llids 0 0) (tabulate 0 n (λ j. get_or i.llids j 0)) ≡ true
  by_count zero g = absurd (omega arith)
  by_count (suc n) g = among_head (get_or i.llids 0 0) _

-- the LLIDs are kept
pub kept_llids : (i : Identity) → i.count ≤ max_llids → llids_of (kept i) ≡ llids_of i
unfolding llids_of kept pick
kept_llids i h =
    let used : ℕ → ℕ = λ j. pick (ltb j i.count) (get_or i.llids j 0) 0 in
    tabulate_ext 0 i.count (λ j. get_or (tabulate 0 max_llids used) j 0) _
    (λ k a b. tabulate_at 0 max_llids used k 0 (omega arith) ∙ rw (zero-add, lt-ltb k i.count (omega arith)))

pub kept_has : (i : Identity) (llid : ℕ) → i.count ≤ max_llids → has (kept i) llid ≡ has i llid
unfolding has
kept_has i llid h = ap (among llid) (kept_llids i h)

pub kept_valid : (i : Identity) → valid_identity (kept i) ≡ valid_identity i
unfolding valid_identity kept
kept_valid i = refl

-- an identity of zeros has no LLID, and is not valid
pub none_invalid : valid_identity no_identity ≡ false
unfolding valid_identity valid_mac both
none_invalid = refl
