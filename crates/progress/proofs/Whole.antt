-- Nothing that is under way is lost: ticks that are due, passed or awaited. Assumes nothing.
use mathlib.Core.Path.{◌≡◌, refl, sym, ◌∙◌, ap}
use mathlib.Core.Bool.{Bool, true, false}
use mathlib.Core.List.{List, [], ◌∷◌, ◌++◌, map}
use Prim.Native.Nat.{ℕ, zero, suc, ◌+◌, ◌<◌, ◌≤◌}
use native.Mathlib.Omega.{arith}
use lib.Dec.{ltb}
use lib.ListN.{length, get_or, drop, length-map}
use borrow.Author.Tests.{ltb-true, ltb-false, le-ltb}
use Rattle.octets.specs.Choice.{pick}
use Rattle.unicast.specs.History.{Envelope, InFlight, left_at, Lane}
use Rattle.unicast.specs.Events.{Event}
use Rattle.unicast.specs.Run.{State, step, run}
use Rattle.unicast.proofs.Invariant.{Rising}
use Rattle.progress.specs.Progress.{due_down, due_up, overdue, awaited, awaited_count, LosesNothing}

---- ticks

-- those that are not overdue are awaited
awaited_count-holds : (now : ℕ) (ts : List ℕ) → length (awaited now ts) + overdue now ts ≡ length ts
unfolding overdue pick
awaited_count-holds now [] = refl
awaited_count-holds now (t ∷ ts) = by_late (ltb t now) (awaited_count-holds now ts) where
  by_late : (b : Bool) → length (awaited now ts) + overdue now ts ≡ length ts
      → length (drop (pick b (suc (overdue now ts)) 0) (t ∷ ts)) + pick b (suc (overdue now ts)) 0 ≡ length (t ∷ ts)
  by_late true rest = omega (arith, rest)
  by_late false rest = omega arith

module _ {A : Type 0} (f : A → ℕ) where
  pub count : (now : ℕ) (xs : List A) → length (awaited now (map f xs)) + overdue now (map f xs) ≡ length xs
  count now xs = awaited_count-holds now (map f xs) ∙ length-map xs f

  -- all are overdue, and stay so
  pub late_later : (now later : ℕ) (xs : List A) → now ≤ later → overdue now (map f xs) ≡ length xs → overdue later (map f xs) ≡ length xs
  unfolding overdue pick
  late_later now later [] h e = refl
  late_later now later (x ∷ xs) h e = by_late (ltb (f x) now) (ltb (f x) later) refl refl e (late_later now later xs h) where
    by_late : (a b : Bool) → ltb (f x) now ≡ a → ltb (f x) later ≡ b → pick a (suc (overdue now (map f xs))) 0 ≡ suc (length xs)
        → (overdue now (map f xs) ≡ length xs → overdue later (map f xs) ≡ length xs) → pick b (suc (overdue later (map f xs))) 0 ≡ suc (length xs)
    by_late true true p q e rest = ap suc (rest (omega (arith, e)))
    by_late true false p q e rest = absurd (omega (arith, ltb-true (f x) now p, ltb-false (f x) later q, h))
    by_late false b p q e rest = absurd (omega (arith, e))

  -- all but the last are overdue
  pub late_last : (now : ℕ) (xs : List A) (x : A) → overdue now (map f xs) ≡ length xs → now ≤ f x
      → overdue now (map f (xs ++ (x ∷ []))) ≡ length xs
  unfolding overdue pick
  late_last now [] x e h = rw (le-ltb (f x) now h)
  late_last now (y ∷ ys) x e h = by_late (ltb (f y) now) e (λ r. late_last now ys x r h) where
    by_late : (a : Bool) → pick a (suc (overdue now (map f ys))) 0 ≡ suc (length ys)
        → (overdue now (map f ys) ≡ length ys → overdue now (map f (ys ++ (x ∷ []))) ≡ length ys)
        → pick a (suc (overdue now (map f (ys ++ (x ∷ []))))) 0 ≡ suc (length ys)
    by_late true e rest = ap suc (rest (omega (arith, e)))
    by_late false e rest = absurd (omega (arith, e))

pub drop_all : {A : Type 0} (xs : List A) (x : A) → drop (suc (length xs)) (xs ++ (x ∷ [])) ≡ []
drop_all [] x = refl
drop_all (y ∷ ys) x = drop_all ys x

pub late_none : {A : Type 0} (f : A → ℕ) (now : ℕ) (xs : List A) → xs ≡ [] → overdue now (map f xs) ≡ length xs
unfolding overdue
late_none f now xs e = rw e

-- until the first that is awaited is due, no more are overdue
pub late_same : (now later : ℕ) (ts : List ℕ) → now ≤ later → ((t : ℕ) (rest : List ℕ) → awaited now ts ≡ t ∷ rest → later ≤ t)
    → overdue later ts ≡ overdue now ts
unfolding overdue pick
late_same now later [] h first = refl
late_same now later (x ∷ xs) h first = by_late (ltb x now) (ltb x later) refl refl first (late_same now later xs h) where
  by_late : (a b : Bool) → ltb x now ≡ a → ltb x later ≡ b
      → ((t : ℕ) (rest : List ℕ) → drop (pick a (suc (overdue now xs)) 0) (x ∷ xs) ≡ t ∷ rest → later ≤ t)
      → (((t : ℕ) (rest : List ℕ) → awaited now xs ≡ t ∷ rest → later ≤ t) → overdue later xs ≡ overdue now xs)
      → pick b (suc (overdue later xs)) 0 ≡ pick a (suc (overdue now xs)) 0
  by_late true true p q first rest = ap suc (rest first)
  by_late true false p q first rest = absurd (omega (arith, ltb-true x now p, ltb-false x later q, h))
  by_late false true p q first rest = absurd (omega (arith, ltb-true x later q, first x xs refl))
  by_late false false p q first rest = refl

-- ticks that left in order: past the first that is awaited none is overdue
module _ {A : Type 0} (left : A → ℕ) (delay : ℕ) where
  none_late : (lo hi now : ℕ) (xs : List A) → Rising lo hi (map left xs) → now ≤ lo + delay → overdue now (map (λ x. left x + delay) xs) ≡ 0
  unfolding overdue pick
  none_late lo hi now [] r h = refl
  none_late lo hi now (x ∷ xs) r h = rw (le-ltb (left x + delay) now (omega (arith, r.0, h)))

  pub late_after : (lo hi now : ℕ) (xs : List A) (k : ℕ) (d : A) → Rising lo hi (map left xs) → k < length xs → now ≤ left (get_or xs k d) + delay
      → overdue now (map (λ x. left x + delay) (drop (suc k) xs)) ≡ 0
  late_after lo hi now [] k d r some h = absurd (omega (arith, some))
  late_after lo hi now (x ∷ xs) zero d r some h = none_late (left x) hi now xs r.1 h
  late_after lo hi now (x ∷ xs) (suc k) d r some h = late_after (left x) hi now xs k d r.1 (omega (arith, some)) h

pub length_dropped : {A : Type 0} (xs : List A) (k : ℕ) → k < length xs → length (drop (suc k) xs) + suc k ≡ length xs
length_dropped [] k h = absurd (omega (arith, h))
length_dropped (x ∷ xs) zero h = omega arith
length_dropped (x ∷ xs) (suc k) h = let rest = length_dropped xs k (omega (arith, h)) in omega (arith, rest)

---- a lane

-- nothing is awaited
pub record Quiet (l : Lane) (now : ℕ) : Type 0 where
  pub down : overdue now (due_down l) ≡ length l.transit.towards
  pub up : overdue now (due_up l) ≡ length l.transit.from

pub quiet_later : (l : Lane) (now later : ℕ) → now ≤ later → Quiet l now → Quiet l later
quiet_later l now later h q =
    record {
      down = late_later (λ (x : InFlight). left_at x + l.path.down) now later l.transit.towards h q.down;
      up = late_later (λ (e : Envelope). e.left + l.path.up) now later l.transit.from h q.up;
    }

quiet_none : (l : Lane) (now : ℕ) → Quiet l now → awaited_count l now ≡ 0
quiet_none l now q =
    omega (
      arith,
      count (λ (x : InFlight). left_at x + l.path.down) now l.transit.towards,
      count (λ (e : Envelope). e.left + l.path.up) now l.transit.from,
      q.down,
      q.up,
    )

pub quiet_keeps : (l : Lane) (now later : ℕ) → now ≤ later → Quiet l now → awaited_count l later ≡ awaited_count l now
quiet_keeps l now later h q = quiet_none l later (quiet_later l now later h q) ∙ sym (quiet_none l now q)

-- one thing is awaited, the last of what is under way to the unit or from it
pub down_overdue : (l : Lane) (ts : List InFlight) (x : InFlight) (now : ℕ) → l.transit.towards ≡ ts ++ (x ∷ [])
    → overdue now (map (λ (y : InFlight). left_at y + l.path.down) ts) ≡ length ts → now ≤ left_at x + l.path.down
    → overdue now (due_down l) ≡ length ts
down_overdue l ts x now e q h = rw e (late_last (λ (y : InFlight). left_at y + l.path.down) now ts x q h)

pub up_overdue : (l : Lane) (es : List Envelope) (x : Envelope) (now : ℕ) → l.transit.from ≡ es ++ (x ∷ [])
    → overdue now (map (λ (y : Envelope). y.left + l.path.up) es) ≡ length es → now ≤ x.left + l.path.up → overdue now (due_up l) ≡ length es
up_overdue l es x now e q h = rw e (late_last (λ (y : Envelope). y.left + l.path.up) now es x q h)

-- what is overdue stays the same, and so does what is awaited
pub same_keeps : (l : Lane) (now later : ℕ) → overdue later (due_down l) ≡ overdue now (due_down l)
    → overdue later (due_up l) ≡ overdue now (due_up l)
    → awaited_count l later ≡ awaited_count l now
same_keeps l now later d u =
    omega (
      arith,
      count (λ (x : InFlight). left_at x + l.path.down) now l.transit.towards,
      count (λ (e : Envelope). e.left + l.path.up) now l.transit.from,
      count (λ (x : InFlight). left_at x + l.path.down) later l.transit.towards,
      count (λ (e : Envelope). e.left + l.path.up) later l.transit.from,
      d,
      u,
    )

pub quiet_of : (l : Lane) (now : ℕ) → awaited_count l now ≡ 0 → Quiet l now
quiet_of l now e =
    let d = count (λ (x : InFlight). left_at x + l.path.down) now l.transit.towards in
    let u = count (λ (x : Envelope). x.left + l.path.up) now l.transit.from in
    record { down = omega (arith, d, e); up = omega (arith, u, e) }

-- the kth of what is under way to the unit is taken: it was the first that was awaited
pub down_fewer : (l m : Lane) (now later k hi : ℕ) (d : InFlight) → m.path ≡ l.path → m.transit.towards ≡ drop (suc k) l.transit.towards
    → m.transit.from ≡ l.transit.from → Rising 0 hi (map left_at l.transit.towards) → k < length l.transit.towards
    → overdue now (due_down l) ≡ k → overdue later (due_up l) ≡ overdue now (due_up l)
    → later ≤ left_at (get_or l.transit.towards k d) + l.path.down
    → awaited_count m later + 1 ≡ awaited_count l now
down_fewer l m now later k hi d path towards from rising some late up due =
    let f : InFlight → ℕ = λ x. left_at x + l.path.down in
    let g : Envelope → ℕ = λ e. e.left + l.path.up in
    let none = late_after left_at l.path.down 0 hi later l.transit.towards k d rising some due in
    let a = count f now l.transit.towards in
    let b = count g now l.transit.from in
    let c = count g later l.transit.from in
    let e = count f later (drop (suc k) l.transit.towards) in
    let r = length_dropped l.transit.towards k some in
    rw (path, towards, from) (omega (arith, a, b, c, e, r, none, late, up))

pub up_fewer : (l m : Lane) (now later k hi : ℕ) (d : Envelope) → m.path ≡ l.path → m.transit.from ≡ drop (suc k) l.transit.from
    → m.transit.towards ≡ l.transit.towards → Rising 0 hi (map (λ (e : Envelope). e.left) l.transit.from) → k < length l.transit.from
    → overdue now (due_up l) ≡ k → overdue later (due_down l) ≡ overdue now (due_down l) → later ≤ (get_or l.transit.from k d).left + l.path.up
    → awaited_count m later + 1 ≡ awaited_count l now
up_fewer l m now later k hi d path from towards rising some late down due =
    let f : InFlight → ℕ = λ x. left_at x + l.path.down in
    let g : Envelope → ℕ = λ e. e.left + l.path.up in
    let none = late_after (λ (e : Envelope). e.left) l.path.up 0 hi later l.transit.from k d rising some due in
    let a = count g now l.transit.from in
    let b = count f now l.transit.towards in
    let c = count f later l.transit.towards in
    let e = count g later (drop (suc k) l.transit.from) in
    let r = length_dropped l.transit.from k some in
    rw (path, towards, from) (omega (arith, a, b, c, e, r, none, late, down))

---- lists

pub whole_append : (u : ℕ) (s : State) (es fs : List Event) → LosesNothing s u es → LosesNothing (run s es) u fs → LosesNothing s u (es ++ fs)
unfolding run
whole_append u s [] fs a b = b
whole_append u s (e ∷ es) fs a b = (a.0, whole_append u (step s e) es fs a.1 b)
