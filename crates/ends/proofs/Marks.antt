-- What the marks of a list tell: of an empty one, and of one that a number more is put behind. Assumes nothing.
use Rattle.std.proofs.Common.{◌≡◌, ℕ, ◌+◌, ◌-◌, ◌<◌, ◌≤◌, Bool, true, false, eqb, List, [], ◌∷◌, ◌++◌, length, get_or, take, set, replicate, sym, refl, ap, ◌∙◌, arith, length-append, length-set, length-take-le, get_or-take, get_or-set_other, get_or-set_same, ne_eqb, eqb-true}
use lib.ListN.{get_or-replicate, get_or-append}
use lib.Seq.{get_or-append_seam}
use borrow.Author.Tests.{eqb-false}
use Rattle.octets.specs.Choice.{either, pick}
use Rattle.ends.specs.Identities.{among}
use Rattle.ends.specs.Marks.{mark_places, crowded, mark_place, next_mark, by_mark, Names, Marked}
use Rattle.ends.proofs.Identities.{among_append}
use Rattle.ends.proofs.Walks.{take_more}

pub place_below : (x : ℕ) → mark_place x < mark_places
unfolding mark_place
place_below x = omega arith

---- what a mark says

pub by_none : (l : List ℕ) (x mark : ℕ) → mark ≡ 0 → by_mark l x mark ≡ false
unfolding by_mark pick
by_none l x mark e = rw e

by_own : (l : List ℕ) (x mark : ℕ) → (mark ≡ 0 → ⊥) → (mark ≡ crowded → ⊥) → by_mark l x mark ≡ eqb (get_or l (mark - 1) 0) x
unfolding by_mark pick
by_own l x mark h k = rw (ne_eqb mark 0 h, ne_eqb mark crowded k)

-- the same among the first n
pub by_first : (l : List ℕ) (n x mark : ℕ) → n ≤ length l → Names (take n l) mark → (mark ≡ 0 → ⊥) → (mark ≡ crowded → ⊥)
    → by_mark (take n l) x mark ≡ eqb (get_or l (mark - 1) 0) x
by_first l n x mark h names some one =
    let low : mark - 1 < n = omega (arith, names one, length-take-le n l h) in
    by_own (take n l) x mark some one ∙ ap (λ (w : ℕ). eqb w x) (get_or-take n l (mark - 1) 0 low)

by_search : (l : List ℕ) (x : ℕ) → by_mark l x crowded ≡ among x l
unfolding by_mark pick
by_search l x = refl

---- one number more

pub either_no : (t : Bool) → either t false ≡ t
unfolding either
either_no true = refl
either_no false = refl

among_more : (y : ℕ) (l : List ℕ) (x : ℕ) → among y (l ++ (x ∷ [])) ≡ either (among y l) (eqb x y)
unfolding among
among_more y l x = among_append y l (x ∷ []) ∙ ap (either (among y l)) (either_no (eqb x y))

-- what a mark tells of a number
record Told (l : List ℕ) (y mark : ℕ) : Type 0 where
  names : Names l mark
  tells : among y l ≡ by_mark l y mark

-- at a place that the new number does not have, the mark tells what it told
told_old : (l : List ℕ) (x y mark : ℕ) → (x ≡ y → ⊥) → Told l y mark → Told (l ++ (x ∷ [])) y mark
unfolding by_mark pick
told_old l x y mark h t =
    record { names = λ k. simp length-append (omega (arith, t.names k)); tells = by_mark-holds (eqb mark 0) (eqb mark crowded) refl refl t.tells } where
      told_by : List ℕ → Bool → Bool → Bool
      told_by m none many = pick none false (pick many (among y m) (eqb (get_or m (mark - 1) 0) y))

      same : among y (l ++ (x ∷ [])) ≡ among y l
      same = among_more y l x ∙ rw (ne_eqb x y h) (either_no (among y l))

      by_mark-holds : (none many : Bool) → eqb mark 0 ≡ none → eqb mark crowded ≡ many → among y l ≡ told_by l none many
          → among y (l ++ (x ∷ [])) ≡ told_by (l ++ (x ∷ [])) none many
      by_mark-holds true many p q f = same ∙ f
      by_mark-holds false true p q f = refl
      by_mark-holds false false p q f =
          let low : mark - 1 < length l = omega (arith, eqb-false mark 0 p, t.names (eqb-false mark crowded q)) in
          rw (get_or-append l (x ∷ []) 0 (mark - 1) low) (same ∙ f)

-- at its place the mark names the new number, if it is the first there, and else has all searched
told_new : (l : List ℕ) (x y mark : ℕ) → length l + 1 < crowded → Told l y mark → Told (l ++ (x ∷ [])) y (next_mark mark (length l))
unfolding next_mark pick either
told_new l x y mark few t = by_zero (eqb mark 0) refl where
  by_zero : (b : Bool) → eqb mark 0 ≡ b → Told (l ++ (x ∷ [])) y (pick b (length l + 1) crowded)
  by_zero true q =
      let none : among y l ≡ false = t.tells ∙ by_none l y mark (eqb-true mark 0 q) in
      let here : length l + 1 - 1 ≡ length l = omega arith in
      record {
        names = λ k. simp length-append (omega arith);
        tells =
            among_more y l x ∙ rw none
            (sym (by_own (l ++ (x ∷ [])) y (length l + 1) (λ e. omega arith) (λ e. omega arith) ∙ rw (here, get_or-append_seam l x [] 0)));
      }
  by_zero false q = record { names = λ k. absurd (k refl); tells = sym (by_search (l ++ (x ∷ [])) y) }

---- the marks

pub marked_none : Marked [] (replicate mark_places 0)
unfolding among
marked_none = record { places = refl; names = λ x k. rw (unmarked x) (omega arith); tells = λ x. sym (by_none [] x _ (unmarked x)) } where
  unmarked : (x : ℕ) → ◌≡◌ {A = ℕ} (get_or (replicate mark_places 0) (mark_place x) 0) 0
  unmarked x = get_or-replicate mark_places (mark_place x) 0 0 (place_below x)

module _ (l marks : List ℕ) (x : ℕ) (few : length l + 1 < crowded) (m : Marked l marks) where
  abbrev after : List ℕ
  after = set marks (mark_place x) (next_mark (get_or marks (mark_place x) 0) (length l))

  told : (y : ℕ) → Told (l ++ (x ∷ [])) y (get_or after (mark_place y) 0)
  told y = by_place (eqb (mark_place y) (mark_place x)) refl (record { names = m.names y; tells = m.tells y }) where
    by_place : (b : Bool) → eqb (mark_place y) (mark_place x) ≡ b → Told l y (get_or marks (mark_place y) 0)
        → Told (l ++ (x ∷ [])) y (get_or after (mark_place y) 0)
    by_place true q was =
        let e : mark_place y ≡ mark_place x = eqb-true _ _ q in
        rw (e, get_or-set_same marks (mark_place x) _ 0 (omega (arith, place_below x, m.places)))
        (told_new l x y (get_or marks (mark_place x) 0) few (rw e at was))
    by_place false q was =
        let e = eqb-false _ _ q in
        rw (get_or-set_other marks (mark_place x) (mark_place y) _ 0 e) (told_old l x y (get_or marks (mark_place y) 0) (λ w. e (ap mark_place (sym w))) was)

  marked_more : Marked (l ++ (x ∷ [])) after
  marked_more = record { places = simp length-set m.places; names = λ y. (told y).names; tells = λ y. (told y).tells }

-- a number put behind the first n + j of a list, and its mark left
pub marked_step : (list marks : List ℕ) (n j x m mark : ℕ) → n + j < length list → n + j + 1 < crowded → m ≡ mark_place x
    → mark ≡ next_mark (get_or marks m 0) (n + j) → Marked (take (n + j) list) marks
    → Marked (take (n + (j + 1)) (set list (n + j) x)) (set marks m mark)
marked_step list marks n j x m mark h few e f t =
    let len : length (take (n + j) list) ≡ n + j = length-take-le (n + j) list (omega arith) in
    rw (take_more list n j x h, f, e) (rw len at (marked_more (take (n + j) list) marks x (omega arith) t))
