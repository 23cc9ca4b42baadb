-- What a run keeps: the state tells which timers run and which keys were reported. Each step keeps it, row by row, and stops only timers
-- that run. Assumes nothing.
use mathlib.Core.Bool.{Bool, true, false, or-true}
use mathlib.Core.List.{List, [], ◌∷◌}
use mathlib.Core.Path.{◌≡◌, refl}
use Prim.Native.Nat.{ℕ, ◌≤◌}
use native.Mathlib.Omega.{arith}
use lib.Dec.{eqb}
use Rattle.xgpon.specs.Answers.{answer_if}
use Rattle.xgpon.specs.Laws.{Within}
use Rattle.xgpon.specs.Moves.{in_kl0, in_kl1, in_kl2, in_kl3, in_kl4, step_of}
use Rattle.xgpon.specs.Run.{Past, answered, asks_for, played, reported_after, reports, running_at, start}
use Rattle.xgpon.specs.Timers.{no_timer, only_tk1, tk1_and_tk2, tk1_and_tk3}
use Rattle.xgpon.specs.Values.{no_key, state_number}
use Rattle.xgpon.specs.declared.answers.Answer.{Answer}
use Rattle.xgpon.specs.declared.moves.Input.{Input}
use Rattle.xgpon.specs.declared.moves.Input.TheVariants.{NewKey, ExistingKey, Tk1Expires, Tk2Expires, Tk3Expires, Begin, BeginToSend, Rekey, KeyCheck}
use Rattle.xgpon.specs.declared.timers.Timers.{Timers}
use Rattle.xgpon.specs.declared.values.State.{State}
use Rattle.xgpon.specs.declared.values.State.TheVariants.{KL0, KL1, KL2, KL3, KL4}
use Rattle.xgpon.proofs.Pairs.{Pair, exchange, first, pair_differ, pair_fits, pair_next}

-- if there is a key at that index, it was reported
pub record Held (reported : ℕ → Bool) (i : ℕ) : Type 0 where
  pub known : 1 ≤ i → reported i ≡ true

-- there is no key at index 0
pub held_none : {k : ℕ → Bool} → Held k no_key
held_none = record { known = λ l. absurd (omega arith) }

abbrev past : State → ℕ → ℕ → Timers → (ℕ → Bool) → Past
past state oldkey newkey t k = record { exchange = exchange (state_number state) oldkey newkey; running = t; reported = k }

pub data Sound : Past → Type 0 where
  inactive : (k : ℕ → Bool) → Sound (past KL0 no_key no_key no_timer k)
  request : {o n : ℕ} (k : ℕ → Bool) → Pair o n → Held k o → Sound (past KL1 o n tk1_and_tk2 k)
  confirm : {o n : ℕ} (k : ℕ → Bool) → Pair o n → Held k o → Held k n → Sound (past KL2 o n only_tk1 k)
  waiting : {o n : ℕ} (k : ℕ → Bool) → Pair o n → Held k o → Held k n → Sound (past KL3 o n tk1_and_tk3 k)
  active : {o n : ℕ} (k : ℕ → Bool) → Pair o n → Held k n → Sound (past KL4 o n no_timer k)

-- what an answer leaves is sound, and what it stops was running
pub record Kept (p : Past) (input : Input) (a : Answer) : Type 0 where
  pub next : Sound (answered p input a)
  pub stopped : Within a.stops (running_at input p.running)

-- what was reported stays so, unless it is asked for anew
held : {k : ℕ → Bool} {i : ℕ} (input : Input) (a : Answer) → asks_for a.message i ≡ false → Held k i → Held (reported_after input a k) i
unfolding reported_after
held {i = i} input a e h = record { known = λ l. rw (e, h.known l) (or-true (reports input a i)) }

-- a report of the awaited index brings its key
brought : (k : ℕ → Bool) (i n : ℕ) (a : Answer) → a.number ≡ 0 → eqb i n ≡ true → Held (reported_after (NewKey i) a k) n
unfolding reported_after
brought k i n a e f = record { known = λ l. rw (e, f) }

-- where nothing is stopped
kept : {p : Past} {input : Input} {a : Answer} → a.stops ≡ no_timer → Sound (answered p input a) → Kept p input a
kept e s = record { next = s; stopped = rw e record { tk1 = omega arith; tk2 = omega arith; tk3 = omega arith } }

-- by the index that a report names
by_index : (P : Answer → Type 0) (b : Bool) (a c : Answer) → (b ≡ true → P a) → (b ≡ false → P c) → P (answer_if b a c)
by_index P true a c f g = f refl
by_index P false a c f g = g refl

from_kl0 : (k : ℕ → Bool) (input : Input) → Kept (past KL0 no_key no_key no_timer k) input (in_kl0 (exchange (state_number KL0) no_key no_key) input)
from_kl0 k (NewKey i) = kept refl (inactive _)
from_kl0 k (ExistingKey i) = kept refl (inactive _)
from_kl0 k Tk1Expires = kept refl (inactive _)
from_kl0 k Tk2Expires = kept refl (inactive _)
from_kl0 k Tk3Expires = kept refl (inactive _)
from_kl0 k Begin = kept refl (request _ first held_none)
from_kl0 k BeginToSend = kept refl (inactive _)
from_kl0 k Rekey = kept refl (inactive _)
from_kl0 k KeyCheck = kept refl (inactive _)

module _ {o n : ℕ} (k : ℕ → Bool) (pair : Pair o n) where
  from_kl1 : Held k o → (input : Input) → Kept (past KL1 o n tk1_and_tk2 k) input (in_kl1 (exchange (state_number KL1) o n) input)
  from_kl1 h (NewKey i) =
      by_index (Kept _ (NewKey i)) (eqb i n) _ _
      (λ e. record {
        next = confirm _ pair (held _ _ refl h) (brought _ _ _ _ refl e);
        stopped = record { tk1 = omega arith; tk2 = omega arith; tk3 = omega arith };
      })
      (λ e. kept refl (request _ pair (held _ _ refl h)))
  from_kl1 h (ExistingKey i) =
      by_index (Kept _ (ExistingKey i)) (eqb i n) _ _
      (λ e. kept refl (request _ pair (held _ _ refl h)))
      (λ e. kept refl (request _ pair (held _ _ refl h)))
  from_kl1 h Tk1Expires = kept refl (request _ pair (held _ _ (pair_differ pair) h))
  from_kl1 h Tk2Expires = kept refl (request _ pair (held _ _ (pair_differ pair) h))
  from_kl1 h Tk3Expires = kept refl (request _ pair (held _ _ refl h))
  from_kl1 h Begin = kept refl (request _ pair (held _ _ refl h))
  from_kl1 h BeginToSend = kept refl (request _ pair (held _ _ refl h))
  from_kl1 h Rekey = kept refl (request _ pair (held _ _ refl h))
  from_kl1 h KeyCheck = kept refl (request _ pair (held _ _ refl h))

  from_kl2 : Held k o → Held k n → (input : Input) → Kept (past KL2 o n only_tk1 k) input (in_kl2 (exchange (state_number KL2) o n) input)
  from_kl2 h g (NewKey i) = kept refl (confirm _ pair (held _ _ refl h) (held _ _ refl g))
  from_kl2 h g (ExistingKey i) = kept refl (confirm _ pair (held _ _ refl h) (held _ _ refl g))
  from_kl2 h g Tk1Expires = kept refl (inactive _)
  from_kl2 h g Tk2Expires = kept refl (confirm _ pair (held _ _ refl h) (held _ _ refl g))
  from_kl2 h g Tk3Expires = kept refl (confirm _ pair (held _ _ refl h) (held _ _ refl g))
  from_kl2 h g Begin = kept refl (confirm _ pair (held _ _ refl h) (held _ _ refl g))
  from_kl2 h g BeginToSend = kept refl (waiting _ pair (held _ _ refl h) (held _ _ refl g))
  from_kl2 h g Rekey = kept refl (confirm _ pair (held _ _ refl h) (held _ _ refl g))
  from_kl2 h g KeyCheck = kept refl (confirm _ pair (held _ _ refl h) (held _ _ refl g))

  from_kl3 : Held k o → Held k n → (input : Input) → Kept (past KL3 o n tk1_and_tk3 k) input (in_kl3 (exchange (state_number KL3) o n) input)
  from_kl3 h g (NewKey i) =
      by_index (Kept _ (NewKey i)) (eqb i n) _ _
      (λ e. kept refl (waiting _ pair (held _ _ refl h) (held _ _ refl g)))
      (λ e. kept refl (waiting _ pair (held _ _ refl h) (held _ _ refl g)))
  from_kl3 h g (ExistingKey i) =
      by_index (Kept _ (ExistingKey i)) (eqb i n) _ _
      (λ e. record {
        next = active _ pair (held _ _ refl g);
        stopped = record { tk1 = omega arith; tk2 = omega arith; tk3 = omega arith };
      })
      (λ e. kept refl (waiting _ pair (held _ _ refl h) (held _ _ refl g)))
  from_kl3 h g Tk1Expires = record { next = inactive _; stopped = record { tk1 = omega arith; tk2 = omega arith; tk3 = omega arith } }
  from_kl3 h g Tk2Expires = kept refl (waiting _ pair (held _ _ refl h) (held _ _ refl g))
  from_kl3 h g Tk3Expires = kept refl (waiting _ pair (held _ _ refl h) (held _ _ refl g))
  from_kl3 h g Begin = kept refl (waiting _ pair (held _ _ refl h) (held _ _ refl g))
  from_kl3 h g BeginToSend = kept refl (waiting _ pair (held _ _ refl h) (held _ _ refl g))
  from_kl3 h g Rekey = kept refl (waiting _ pair (held _ _ refl h) (held _ _ refl g))
  from_kl3 h g KeyCheck = kept refl (waiting _ pair (held _ _ refl h) (held _ _ refl g))

  from_kl4 : Held k n → (input : Input) → Kept (past KL4 o n no_timer k) input (in_kl4 (exchange (state_number KL4) o n) input)
  from_kl4 g (NewKey i) =
      by_index (Kept _ (NewKey i)) (eqb i n) _ _
      (λ e. kept refl (active _ pair (held _ _ refl g)))
      (λ e. kept refl (active _ pair (held _ _ refl g)))
  from_kl4 g (ExistingKey i) =
      by_index (Kept _ (ExistingKey i)) (eqb i n) _ _
      (λ e. kept refl (active _ pair (held _ _ refl g)))
      (λ e. kept refl (active _ pair (held _ _ refl g)))
  from_kl4 g Tk1Expires = kept refl (active _ pair (held _ _ refl g))
  from_kl4 g Tk2Expires = kept refl (active _ pair (held _ _ refl g))
  from_kl4 g Tk3Expires = kept refl (active _ pair (held _ _ refl g))
  from_kl4 g Begin = kept refl (active _ pair (held _ _ refl g))
  from_kl4 g BeginToSend = kept refl (active _ pair (held _ _ refl g))
  from_kl4 g Rekey = kept refl (request _ (pair_next pair) (held _ _ (pair_differ (pair_next pair)) g))
  from_kl4 g KeyCheck = kept refl (active _ pair (held _ _ refl g))

-- a step from what is sound
pub step_kept : {p : Past} → Sound p → (input : Input) → Kept p input (step_of p.exchange input)
step_kept (inactive k) input = from_kl0 k input
step_kept (request k pair h) input = rw (pair_fits pair) (from_kl1 k pair h input)
step_kept (confirm k pair h g) input = rw (pair_fits pair) (from_kl2 k pair h g input)
step_kept (waiting k pair h g) input = rw (pair_fits pair) (from_kl3 k pair h g input)
step_kept (active k pair g) input = rw (pair_fits pair) (from_kl4 k pair g input)

pub played_sound : {p : Past} (inputs : List Input) → Sound p → Sound (played inputs p)
unfolding played
played_sound [] s = s
played_sound {p = p} (input ∷ inputs) s = played_sound {p = answered p input (step_of p.exchange input)} inputs (step_kept s input).next

pub start_sound : Sound start
start_sound = inactive _
