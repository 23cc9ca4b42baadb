-- Laws of what is under way: a queue holds under wider bounds and for a lane that knows more, with one thing more at its end, and
-- from any of its things on. Assumes nothing.
use mathlib.Core.Path.{◌≡◌, refl, sym, ◌∙◌, ap, subst}
use mathlib.Core.List.Memᴰ
use mathlib.Core.List.{List, [], ◌∷◌, ◌++◌, Memᴰ}
use mathlib.Core.Logic.{⊎_elim}
use Prim.Native.Nat.{ℕ, zero, suc, ◌<◌, ◌≤◌}
use native.Mathlib.Nat.{le_of_suc-le-suc, not-suc-le-zero}
use native.Mathlib.Omega.{arith}
use lib.ListN.{length, get_or, drop}
use Rattle.protocol.specs.declared.KeyMessage.{KeyMessage}
use Rattle.clock.specs.declared.Stamps.{Stamps}
use Rattle.unicast.specs.Setting.{Delays}
use Rattle.unicast.specs.History.{Direction, downward, upward, Envelope, InFlight, clock_message, key_message, envelope, Lane, key_of}
use Rattle.unicast.proofs.Invariant.{ClockRight, KeyRight, Under, Towards, From}

-- a lane of the same site that knows the sends and the keys up to top of another
pub record Knows (l l' : Lane) (top : ℕ) : Type 0 where
  pub site : l.site ≡ l'.site
  pub sent : (e : Envelope) → Memᴰ e l.past.sent → Memᴰ e l'.past.sent
  pub keys : (n : ℕ) → 1 ≤ n → n ≤ top → key_of l.keys n ≡ key_of l'.keys n

---- one thing

under_carried : (l l' : Lane) (top lo lo' hi hi' : ℕ) (direction : Direction) (e : Envelope) → Knows l l' top → lo' ≤ lo → hi ≤ hi'
    → Under l.site.identity l.past.sent direction lo hi e → Under l'.site.identity l'.past.sent direction lo' hi' e
under_carried l l' top lo lo' hi hi' direction e k h g u = search (k.sent, ← k.site, arith)

key_carried : (l l' : Lane) (lo lo' top top' : ℕ) (m : KeyMessage) → Knows l l' top → lo' ≤ lo → top ≤ top'
    → KeyRight l.keys l.site.identity lo top m → KeyRight l'.keys l'.site.identity lo' top' m
key_carried l l' lo lo' top top' m k h g r =
    let key = r.key ∙ k.keys m.number (omega (arith, r.above)) r.most in
    search (← k.site, arith)

---- sealed envelopes

-- the number of an envelope under way
pub envelope_number : (x y : Envelope) → envelope x ≡ envelope y → x.number ≡ y.number
envelope_number x y e = let same : x ≡ y = cc in ap (λ (z : Envelope). z.number) same

pub dropped_among : {A : Type 0} (x : A) (xs : List A) (k : ℕ) → Memᴰ x (drop k xs) → Memᴰ x xs
dropped_among x [] zero m = m
dropped_among x [] (suc k) m = m
dropped_among x (y ∷ xs) zero m = m
dropped_among x (y ∷ xs) (suc k) m = Memᴰ.tail (dropped_among x xs k m)

-- one thing more
pub sealed_more : (synced : ℕ) (xs : List InFlight) (x : InFlight) → ((e : Envelope) → Memᴰ (envelope e) xs → 1 ≤ e.number → synced ≡ 1)
    → ((e : Envelope) → x ≡ envelope e → 1 ≤ e.number → synced ≡ 1) → (e : Envelope) → Memᴰ (envelope e) (xs ++ (x ∷ []))
    → 1 ≤ e.number
    → synced ≡ 1
sealed_more synced xs x old new e m =
    ⊎_elim (λ before. old e before) (λ last. new e (sym (Memᴰ.eq_of_singleton last))) (Memᴰ.append_cases xs m)

---- towards a unit

-- under wider bounds, for a lane that knows more
pub towards_carried : (first : ℕ) (p : Delays) (l l' : Lane) (lo lo' hi hi' top top' : ℕ) (xs : List InFlight) → Knows l l' top
    → lo' ≤ lo → hi ≤ hi' → top ≤ top' → Towards first p l lo hi top xs → Towards first p l' lo' hi' top' xs
towards_carried first p l l' lo lo' hi hi' top top' [] k h g f q = tt
towards_carried first p l l' lo lo' hi hi' top top' (clock_message m c t ∷ xs) k h g f q =
    (q.0, towards_carried first p l l' lo lo' hi hi' top top' xs k h g f q.1)
towards_carried first p l l' lo lo' hi hi' top top' (key_message m t ∷ xs) k h g f q =
    (key_carried l l' lo lo' top top' m k h f q.0, towards_carried first p l l' lo lo' hi hi' top top' xs k h g f q.1)
towards_carried first p l l' lo lo' hi hi' top top' (envelope e ∷ xs) k h g f q = (
  under_carried l l' top lo lo' hi hi' downward e k h g q.0,
  towards_carried first p l l' e.number e.number hi hi' top top' xs k (omega arith) g f q.1,
)

pub towards_weakened : (first : ℕ) (p : Delays) (l : Lane) (lo lo' hi hi' top top' : ℕ) (xs : List InFlight)
    → lo' ≤ lo → hi ≤ hi' → top ≤ top' → Towards first p l lo hi top xs → Towards first p l lo' hi' top' xs
towards_weakened first p l lo lo' hi hi' top top' xs h g f q =
    towards_carried first p l l lo lo' hi hi' top top' xs (record { site = refl; sent = λ e m. m; keys = λ n p r. refl }) h g f q

pub towards_moved : (first : ℕ) (p : Delays) (l l' : Lane) (lo hi top : ℕ) (xs : List InFlight) → Knows l l' top
    → Towards first p l lo hi top xs → Towards first p l' lo hi top xs
towards_moved first p l l' lo hi top xs k q =
    towards_carried first p l l' lo lo hi hi top top xs k (omega arith) (omega arith) (omega arith) q

-- more at the end: right above every number that the queue can have
towards_append : (first : ℕ) (p : Delays) (l : Lane) (lo hi top : ℕ) (xs ys : List InFlight) → lo ≤ hi → Towards first p l lo hi top xs
    → ((low : ℕ) → low ≤ hi → Towards first p l low hi top ys) → Towards first p l lo hi top (xs ++ ys)
towards_append first p l lo hi top [] ys h q r = r lo h
towards_append first p l lo hi top (clock_message m c t ∷ xs) ys h q r = (q.0, towards_append first p l lo hi top xs ys h q.1 r)
towards_append first p l lo hi top (key_message m t ∷ xs) ys h q r = (q.0, towards_append first p l lo hi top xs ys h q.1 r)
towards_append first p l lo hi top (envelope e ∷ xs) ys h q r =
    (q.0, towards_append first p l e.number hi top xs ys q.0.most q.1 r)

pub towards_clock : (first : ℕ) (p : Delays) (l : Lane) (lo hi top : ℕ) (xs : List InFlight) (m : Stamps) (c t : ℕ) → lo ≤ hi
    → ClockRight first p m c t → Towards first p l lo hi top xs → Towards first p l lo hi top (xs ++ (clock_message m c t ∷ []))
towards_clock first p l lo hi top xs m c t h r q = towards_append first p l lo hi top xs (clock_message m c t ∷ []) h q (λ low g. (r, tt))

-- a key above hi
pub towards_key : (first : ℕ) (p : Delays) (l : Lane) (lo hi top : ℕ) (xs : List InFlight) (m : KeyMessage) (t : ℕ) → lo ≤ hi
    → KeyRight l.keys l.site.identity hi top m → Towards first p l lo hi top xs → Towards first p l lo hi top (xs ++ (key_message m t ∷ []))
towards_key first p l lo hi top xs m t h r q =
    towards_append first p l lo hi top xs (key_message m t ∷ []) h q
    (λ low g. (search arith, tt))

-- an envelope numbered hi
pub towards_envelope : (first : ℕ) (p : Delays) (l : Lane) (lo hi top : ℕ) (xs : List InFlight) (e : Envelope) → lo ≤ hi
    → Under l.site.identity l.past.sent downward hi hi e → Towards first p l lo hi top xs
    → Towards first p l lo hi top (xs ++ (envelope e ∷ []))
towards_envelope first p l lo hi top xs e h u q =
    towards_append first p l lo hi top xs (envelope e ∷ []) h q
    (λ low g. (search arith, tt))

-- the kth and what follows it: at a message it is right, and the rest; at an envelope it lies within the bounds, and the rest
-- lies above it
pub towards_taken : (first : ℕ) (p : Delays) (l : Lane) (lo hi top : ℕ) (xs : List InFlight) (k : ℕ) (d x : InFlight) → k < length xs
    → get_or xs k d ≡ x
    → Towards first p l lo hi top xs → Towards first p l lo hi top (x ∷ drop (suc k) xs)
towards_taken first p l lo hi top [] k d x h e q = absurd (not-suc-le-zero h)
towards_taken first p l lo hi top (y ∷ xs) zero d x h e q = subst (λ (z : InFlight). Towards first p l lo hi top (z ∷ xs)) e q
towards_taken first p l lo hi top (clock_message m c t ∷ xs) (suc k) d x h e q =
    towards_taken first p l lo hi top xs k d x (le_of_suc-le-suc h) e q.1
towards_taken first p l lo hi top (key_message m t ∷ xs) (suc k) d x h e q =
    towards_taken first p l lo hi top xs k d x (le_of_suc-le-suc h) e q.1
towards_taken first p l lo hi top (envelope y ∷ xs) (suc k) d x h e q =
    towards_weakened first p l y.number lo hi hi top top (x ∷ drop (suc k) xs) q.0.above (omega arith) (omega arith)
    (towards_taken first p l y.number hi top xs k d x (le_of_suc-le-suc h) e q.1)

-- the first k lost
pub towards_dropped : (first : ℕ) (p : Delays) (l : Lane) (lo hi top : ℕ) (xs : List InFlight) (k : ℕ) → Towards first p l lo hi top xs
    → Towards first p l lo hi top (drop k xs)
towards_dropped first p l lo hi top [] zero q = tt
towards_dropped first p l lo hi top [] (suc k) q = tt
towards_dropped first p l lo hi top (x ∷ xs) zero q = q
towards_dropped first p l lo hi top (clock_message m c t ∷ xs) (suc k) q = towards_dropped first p l lo hi top xs k q.1
towards_dropped first p l lo hi top (key_message m t ∷ xs) (suc k) q = towards_dropped first p l lo hi top xs k q.1
towards_dropped first p l lo hi top (envelope e ∷ xs) (suc k) q =
    towards_weakened first p l e.number lo hi hi top top (drop k xs) q.0.above (omega arith) (omega arith)
    (towards_dropped first p l e.number hi top xs k q.1)

---- from a unit

pub from_carried : (l l' : Lane) (top lo lo' hi hi' : ℕ) (es : List Envelope) → Knows l l' top → lo' ≤ lo → hi ≤ hi'
    → From l lo hi es → From l' lo' hi' es
from_carried l l' top lo lo' hi hi' [] k h g q = tt
from_carried l l' top lo lo' hi hi' (e ∷ es) k h g q = (
  under_carried l l' top lo lo' hi hi' upward e k h g q.0,
  from_carried l l' top e.number e.number hi hi' es k (omega arith) g q.1,
)

pub from_weakened : (l : Lane) (lo lo' hi hi' : ℕ) (es : List Envelope) → lo' ≤ lo → hi ≤ hi' → From l lo hi es → From l lo' hi' es
from_weakened l lo lo' hi hi' es h g q =
    from_carried l l 0 lo lo' hi hi' es (record { site = refl; sent = λ e m. m; keys = λ n p r. refl }) h g q

pub from_moved : (l l' : Lane) (top lo hi : ℕ) (es : List Envelope) → Knows l l' top → From l lo hi es → From l' lo hi es
from_moved l l' top lo hi es k q = from_carried l l' top lo lo hi hi es k (omega arith) (omega arith) q

-- an envelope numbered hi
pub from_envelope : (l : Lane) (lo hi : ℕ) (es : List Envelope) (e : Envelope) → lo ≤ hi
    → Under l.site.identity l.past.sent upward hi hi e → From l lo hi es → From l lo hi (es ++ (e ∷ []))
from_envelope l lo hi [] e h u q = (search arith, tt)
from_envelope l lo hi (x ∷ es) e h u q = (q.0, from_envelope l x.number hi es e q.0.most u q.1)

pub from_taken : (l : Lane) (lo hi : ℕ) (es : List Envelope) (k : ℕ) (d e : Envelope) → k < length es → get_or es k d ≡ e
    → From l lo hi es → From l lo hi (e ∷ drop (suc k) es)
from_taken l lo hi [] k d e h p q = absurd (not-suc-le-zero h)
from_taken l lo hi (x ∷ es) zero d e h p q = subst (λ (z : Envelope). From l lo hi (z ∷ es)) p q
from_taken l lo hi (x ∷ es) (suc k) d e h p q =
    from_weakened l x.number lo hi hi (e ∷ drop (suc k) es) q.0.above (omega arith)
    (from_taken l x.number hi es k d e (le_of_suc-le-suc h) p q.1)
