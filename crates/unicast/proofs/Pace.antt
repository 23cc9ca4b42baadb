-- Laws of what lets the line go on: queues in order, clock messages that were sent, the highest number that arrived up. Assumes nothing.
use mathlib.Core.Path.{◌≡◌, refl}
use mathlib.Core.Bool.{Bool, true, false}
use mathlib.Core.List.{List, [], ◌∷◌, ◌++◌, map}
use Prim.Native.Nat.{ℕ, zero, suc, ◌+◌, ◌≤◌, max}
use native.Mathlib.Nat.{le-max_left, le-max_right, max-eq_right, max-zero}
use native.Mathlib.Omega.{arith}
use lib.ListN.{drop}
use Rattle.octets.specs.Choice.{pick}
use Rattle.octets.proofs.Members.{each_more}
use Rattle.clock.specs.declared.Stamps.{Stamps}
use Rattle.envelope.specs.Channels.{on_zero}
use Rattle.ends.specs.Occupancy.{free_from, occupied}
use Rattle.ends.specs.declared.Channels.{Channels}
use Rattle.unicast.specs.History.{Direction, Envelope, InFlight, clock_message, left_at, Arrival, Transit, leaving}
use Rattle.unicast.specs.Bounds.{goes, highest}
use Rattle.unicast.proofs.Invariant.{Asked, Rising, InOrder}

---- ticks that never fall

pub rising_later : (lo hi top : ℕ) (ts : List ℕ) → hi ≤ top → Rising lo hi ts → Rising lo top ts
rising_later lo hi top [] h r = omega (arith, h, r)
rising_later lo hi top (t ∷ ts) h r = (r.0, rising_later t hi top ts h r.1)

rising_lower : (lo low hi : ℕ) (ts : List ℕ) → low ≤ lo → Rising lo hi ts → Rising low hi ts
rising_lower lo low hi [] h r = omega (arith, h, r)
rising_lower lo low hi (t ∷ ts) h r = (omega (arith, h, r.0), r.1)

-- one more, at the last tick
pub rising_more : {A : Type 0} (f : A → ℕ) (lo hi : ℕ) (xs : List A) (x : A) → f x ≡ hi → Rising lo hi (map f xs)
    → Rising lo hi (map f (xs ++ (x ∷ [])))
rising_more f lo hi [] x e r = (omega (arith, r, e), omega (arith, e))
rising_more f lo hi (y ∷ ys) x e r = (r.0, rising_more f (f y) hi ys x e r.1)

pub rising_dropped : {A : Type 0} (f : A → ℕ) (lo hi : ℕ) (xs : List A) (k : ℕ) → Rising lo hi (map f xs) → Rising lo hi (map f (drop k xs))
rising_dropped f lo hi xs zero r = r
rising_dropped f lo hi [] (suc k) r = r
rising_dropped f lo hi (x ∷ xs) (suc k) r = rising_lower (f x) lo hi (map f (drop k xs)) r.0 (rising_dropped f (f x) hi xs k r.1)

---- what is under way

pub order_later : (now n : ℕ) (t : Transit) → InOrder now t → InOrder (now + n) t
order_later now n t o =
    record {
      towards = rising_later 0 now (now + n) (map left_at t.towards) (omega arith) o.towards;
      from = rising_later 0 now (now + n) (map (λ (e : Envelope). e.left) t.from) (omega arith) o.from;
    }

pub order_leaving : (now : ℕ) (t : Transit) (x : InFlight) → left_at x ≡ now → InOrder now t → InOrder now (leaving t x)
unfolding leaving
order_leaving now t x e o = record { towards = rising_more left_at 0 now t.towards x e o.towards; from = o.from }

pub asked_later : (now n sent : ℕ) (t : Transit) → Asked now sent t → Asked (now + n) sent t
asked_later now n sent t a =
    record { under = a.under; answered = λ x m. let was = a.answered x m in (was.0, omega (arith, was.1)) }

pub asked_leaving : (now sent : ℕ) (t : Transit) (x : InFlight) → ((m : Stamps) (c left : ℕ) → x ≡ clock_message m c left → sent ≡ 1)
    → Asked now sent t → Asked now sent (leaving t x)
unfolding leaving
asked_leaving now sent t x new a =
    record {
      under = each_more (λ (y : InFlight). (m : Stamps) (c left : ℕ) → y ≡ clock_message m c left → sent ≡ 1) t.towards x a.under new;
      answered = a.answered;
    }

---- channels

pub occupied_free : (c : Channels) (channel k tick eqs bound : ℕ) → tick + eqs + 1 ≤ bound → free_from c k ≤ bound
    → free_from (occupied c channel tick eqs) k ≤ bound
unfolding free_from occupied pick
occupied_free c channel k tick eqs bound new old = by_channel (on_zero k) (on_zero channel) old where
  by_channel : (a b : Bool) → pick a c.zero c.one ≤ bound
      → pick a (pick b (tick + eqs + 1) c.zero) (pick b c.one (tick + eqs + 1)) ≤ bound
  by_channel true true h = new
  by_channel true false h = h
  by_channel false true h = h
  by_channel false false h = new

---- the highest number that arrived up

pub highest_other : (direction : Direction) (rs : List Arrival) (r : Arrival) → goes direction r.envelope.direction ≡ false
    → highest direction (rs ++ (r ∷ [])) ≡ highest direction rs
unfolding highest pick
highest_other direction [] r e = rw e
highest_other direction (y ∷ ys) r e = rw (highest_other direction ys r e)

higher : (t : Bool) (n most high : ℕ) → pick t (max n high) high ≤ most → high ≤ most
unfolding pick
higher true n most high h = omega (arith, h, le-max_right n high)
higher false n most high h = h

at_most : (t : Bool) (n most high : ℕ) → pick t (max n high) high ≤ most → pick t (max n most) most ≡ most
unfolding pick
at_most true n most high h = max-eq_right (omega (arith, h, le-max_left n high))
at_most false n most high h = refl

pub highest_own : (direction : Direction) (rs : List Arrival) (r : Arrival) → goes direction r.envelope.direction ≡ true
    → highest direction rs ≤ r.envelope.number
    → highest direction (rs ++ (r ∷ [])) ≡ r.envelope.number
unfolding highest pick
highest_own direction [] r e h = rw e (max-zero r.envelope.number)
highest_own direction (y ∷ ys) r e h =
    let t = goes direction y.envelope.direction in
    let high = highest direction ys in
    rw (highest_own direction ys r e (higher t y.envelope.number r.envelope.number high h))
    (at_most t y.envelope.number r.envelope.number high h)
