-- The indices that a state has: three pairs, in every state but KL0. Assumes nothing.
use mathlib.Core.Bool.{Bool, true, false, false≢true}
use mathlib.Core.Path.{◌≡◌, refl, sym, subst}
use Rattle.std.specs.Prelude.{None}
use Prim.Native.Nat.{ℕ, zero, suc}
use native.Mathlib.Omega.{arith}
use lib.Dec.{eqb}
use borrow.Author.Tests.{eqb-true, lt-leb, ne_eqb}
use Rattle.xgpon.specs.Values.{keys_of, no_key, state_number, state_of, index_after}
use Rattle.xgpon.specs.declared.values.KeyExchange.{KeyExchange}
use Rattle.xgpon.specs.declared.values.State.TheVariants.{KL0, KL1, KL2, KL3, KL4}

-- the old and the new index of the first exchange, of the rekey after it, and of the one after that
pub data Pair : ℕ → ℕ → Type 0 where
  first : Pair 0 1
  second : Pair 1 2
  third : Pair 2 1

pub pair_fits : {o n : ℕ} → Pair o n → keys_of o n ≡ true
pair_fits first = refl
pair_fits second = refl
pair_fits third = refl

pub pair_of : (o n : ℕ) → keys_of o n ≡ true → Pair o n
pair_of zero n e = subst (Pair 0) (sym (eqb-true n 1 e)) first
pair_of (suc zero) n e = subst (Pair 1) (sym (eqb-true n 2 e)) second
pair_of (suc (suc zero)) n e = subst (Pair 2) (sym (eqb-true n 1 e)) third
pair_of (suc (suc (suc o))) n e = absurd (false≢true (rw (lt-leb (suc (suc (suc o))) 2 (omega arith)) at e))

-- the two indices differ
pub pair_apart : {o n : ℕ} → Pair o n → o ≡ n → ⊥
pair_apart first e = omega arith
pair_apart second e = omega arith
pair_apart third e = omega arith

pub pair_differ : {o n : ℕ} → Pair o n → eqb n o ≡ false
pair_differ pair = ne_eqb _ _ (λ e. pair_apart pair (sym e))

-- a rekey takes the other index
pub pair_next : {o n : ℕ} → Pair o n → Pair n (index_after n)
pair_next first = second
pair_next second = third
pair_next third = second

abbrev pub exchange : ℕ → ℕ → ℕ → KeyExchange
exchange state oldkey newkey = record { state = state; oldkey = oldkey; newkey = newkey }

-- the values of the five states
pub data Valued : KeyExchange → Type 0 where
  none : Valued (exchange (state_number KL0) no_key no_key)
  requesting : {o n : ℕ} → Pair o n → Valued (exchange (state_number KL1) o n)
  knowing : {o n : ℕ} → Pair o n → Valued (exchange (state_number KL2) o n)
  confirming : {o n : ℕ} → Pair o n → Valued (exchange (state_number KL3) o n)
  activated : {o n : ℕ} → Pair o n → Valued (exchange (state_number KL4) o n)

valued_kl0 : (o n : ℕ) → (state_of (exchange (state_number KL0) o n) ≡ None → ⊥) → Valued (exchange (state_number KL0) o n)
valued_kl0 zero zero h = none
valued_kl0 zero (suc n) h = absurd (h (rw (ne_eqb (suc n) 0 (λ e. omega arith))))
valued_kl0 (suc o) n h = absurd (h (rw (ne_eqb (suc o) 0 (λ e. omega arith))))

-- numbers that stand for a state have one of its values
valued_at : (s o n : ℕ) (b : Bool) → keys_of o n ≡ b → (state_of (exchange s o n) ≡ None → ⊥) → Valued (exchange s o n)
valued_at zero o n b e h = valued_kl0 o n h
valued_at (suc s) o n false e h = absurd (h (outside s))
  where
    outside : (k : ℕ) → state_of (exchange (suc k) o n) ≡ None
    outside zero = rw e
    outside (suc zero) = rw e
    outside (suc (suc zero)) = rw e
    outside (suc (suc (suc zero))) = rw e
    outside (suc (suc (suc (suc k)))) = refl
valued_at (suc zero) o n true e h = requesting (pair_of o n e)
valued_at (suc (suc zero)) o n true e h = knowing (pair_of o n e)
valued_at (suc (suc (suc zero))) o n true e h = confirming (pair_of o n e)
valued_at (suc (suc (suc (suc zero)))) o n true e h = activated (pair_of o n e)
valued_at (suc (suc (suc (suc (suc s))))) o n true e h = absurd (h refl)

pub valued : (x : KeyExchange) → (state_of x ≡ None → ⊥) → Valued x
valued x h = valued_at x.state x.oldkey x.newkey (keys_of x.oldkey x.newkey) refl h
