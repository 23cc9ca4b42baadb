-- Laws of what is under way of a group: a queue holds under wider bounds and for a line that knows more, with one thing more at its end,
-- and from any of its things on. Assumes nothing.
use mathlib.Core.Path.{◌≡◌, refl, sym, ◌∙◌, subst}
use mathlib.Core.List.{List, [], ◌∷◌, ◌++◌, Memᴰ}
use Prim.Native.Nat.{ℕ, zero, suc, ◌-◌, ◌<◌, ◌≤◌}
use native.Mathlib.Nat.{not-suc-le-zero, le_of_suc-le-suc}
use native.Mathlib.Omega.{arith}
use lib.ListN.{length, get_or, drop}
use Rattle.protocol.specs.declared.KeyMessage.{KeyMessage}
use Rattle.unicast.specs.History.{Envelope, InFlight, clock_message, key_message, envelope, key_of}
use Rattle.unicast.proofs.Queues.{Knows}
use Rattle.line.specs.History.{GroupLane}
use Rattle.line.proofs.Invariant.{lane_of, KeyUnder, EnvelopeUnder, Under}

-- a line of the same LLID that knows the sends and the keys up to top of another
pub record Grown (g g' : GroupLane) (top : ℕ) : Type 0 where
  pub llid : g'.llid ≡ g.llid
  pub sent : (e : Envelope) → Memᴰ e g.sent → Memᴰ e g'.sent
  pub keys : (n : ℕ) → 1 ≤ n → n ≤ top → key_of g.keys n ≡ key_of g'.keys n

pub knows : (g g' : GroupLane) (top : ℕ) → Grown g g' top → Knows (lane_of g) (lane_of g') top
knows g g' top k = record { site = refl; sent = k.sent; keys = k.keys }

pub under_carried : (g g' : GroupLane) (lo lo' hi hi' top top' : ℕ) (xs : List InFlight) → Grown g g' top → lo' ≤ lo → hi ≤ hi' → top ≤ top'
    → Under g lo hi top xs → Under g' lo' hi' top' xs
under_carried g g' lo lo' hi hi' top top' [] k a b c q = tt
under_carried g g' lo lo' hi hi' top top' (clock_message m e t ∷ xs) k a b c q = absurd q
under_carried g g' lo lo' hi hi' top top' (key_message m t ∷ xs) k a b c q =
    let r = q.0 in (
      record {
        above = omega (arith, r.above);
        level = omega (arith, r.level);
        most = omega (arith, r.most);
        key = r.key ∙ k.keys m.number (omega (arith, r.above)) r.most;
        llid = r.llid ∙ sym k.llid;
      },
      under_carried g g' (m.number - 1) (m.number - 1) hi hi' top top' xs k (omega arith) b c q.1,
    )
under_carried g g' lo lo' hi hi' top top' (envelope e ∷ xs) k a b c q =
    let r = q.0 in (
      record { above = omega (arith, r.above); most = omega (arith, r.most); sent = k.sent e r.sent },
      under_carried g g' e.number e.number hi hi' top top' xs k (omega arith) b c q.1,
    )

pub itself : (g : GroupLane) (top : ℕ) → Grown g g top
itself g top = record { llid = refl; sent = λ e m. m; keys = λ n p q. refl }

pub under_lower : (g : GroupLane) (lo lo' hi top : ℕ) (xs : List InFlight) → lo' ≤ lo → Under g lo hi top xs → Under g lo' hi top xs
under_lower g lo lo' hi top xs a q =
    under_carried g g lo lo' hi hi top top xs (itself g top) a (omega arith) (omega arith) q

-- more at the end: right above every level that the queue can have
under_append : (g : GroupLane) (lo hi top : ℕ) (xs ys : List InFlight) → lo ≤ hi → Under g lo hi top xs
    → ((low : ℕ) → low ≤ hi → Under g low hi top ys) → Under g lo hi top (xs ++ ys)
under_append g lo hi top [] ys h q r = r lo h
under_append g lo hi top (clock_message m e t ∷ xs) ys h q r = absurd q
under_append g lo hi top (key_message m t ∷ xs) ys h q r =
    (q.0, under_append g (m.number - 1) hi top xs ys (omega (arith, q.0.level)) q.1 r)
under_append g lo hi top (envelope e ∷ xs) ys h q r = (q.0, under_append g e.number hi top xs ys q.0.most q.1 r)

-- key hi + 1
pub under_key : (g : GroupLane) (lo hi top : ℕ) (xs : List InFlight) (m : KeyMessage) (t : ℕ) → lo ≤ hi → KeyUnder g hi hi top m
    → Under g lo hi top xs
    → Under g lo hi top (xs ++ (key_message m t ∷ []))
under_key g lo hi top xs m t h r q =
    under_append g lo hi top xs (key_message m t ∷ []) h q
    (λ low k. (record { above = omega (arith, r.above); level = r.level; most = r.most; key = r.key; llid = r.llid }, tt))

-- an envelope numbered hi
pub under_envelope : (g : GroupLane) (lo hi top : ℕ) (xs : List InFlight) (e : Envelope) → lo ≤ hi → EnvelopeUnder g hi hi e → Under g lo hi top xs
    → Under g lo hi top (xs ++ (envelope e ∷ []))
under_envelope g lo hi top xs e h r q =
    under_append g lo hi top xs (envelope e ∷ []) h q
    (λ low k. (record { above = omega (arith, r.above); most = r.most; sent = r.sent }, tt))

-- the kth and what follows it
pub under_taken : (g : GroupLane) (lo hi top : ℕ) (xs : List InFlight) (k : ℕ) (d x : InFlight) → k < length xs → get_or xs k d ≡ x
    → Under g lo hi top xs
    → Under g lo hi top (x ∷ drop (suc k) xs)
under_taken g lo hi top [] k d x h e q = absurd (not-suc-le-zero h)
under_taken g lo hi top (y ∷ xs) zero d x h e q = subst (λ (z : InFlight). Under g lo hi top (z ∷ xs)) e q
under_taken g lo hi top (clock_message m c t ∷ xs) (suc k) d x h e q = absurd q
under_taken g lo hi top (key_message m t ∷ xs) (suc k) d x h e q =
    under_lower g (m.number - 1) lo hi top (x ∷ drop (suc k) xs) (omega (arith, q.0.above))
    (under_taken g (m.number - 1) hi top xs k d x (le_of_suc-le-suc h) e q.1)
under_taken g lo hi top (envelope y ∷ xs) (suc k) d x h e q =
    under_lower g y.number lo hi top (x ∷ drop (suc k) xs) q.0.above (under_taken g y.number hi top xs k d x (le_of_suc-le-suc h) e q.1)

-- without its first
pub under_tail : (g : GroupLane) (lo hi top : ℕ) (x : InFlight) (xs : List InFlight) → Under g lo hi top (x ∷ xs) → Under g lo hi top xs
under_tail g lo hi top (clock_message m c t) xs q = absurd q
under_tail g lo hi top (key_message m t) xs q = under_lower g (m.number - 1) lo hi top xs (omega (arith, q.0.above)) q.1
under_tail g lo hi top (envelope e) xs q = under_lower g e.number lo hi top xs q.0.above q.1
