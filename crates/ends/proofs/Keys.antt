-- Laws of keys by number, and of first sends. Assumes nothing.
use Rattle.std.proofs.Common.{◌≡◌, ℕ, ◌+◌, ◌%◌, ◌<◌, ◌≤◌, Bool, true, false, eqb, List, sym, refl, ◌∙◌, ⊎_elim, arith, eq-eqb, ne_eqb, eqb-true, le-leb, leb-false, leb-true}
use borrow.Author.Tests.{eqb-false}
use Rattle.octets.specs.Choice.{both, either, pick}
use Rattle.octets.proofs.Choice.{both_left, both_right, both_true, pick_true, pick_false, either_left, either_right, either_cases, pick_holds}
use Rattle.clock.specs.Ticks.{key_life}
use Rattle.ends.specs.Flags.{is_up}
use Rattle.ends.specs.Keys.{no_key, key_in, with_key, only_key, not_noted, noted_at, first_send, aged, valid_first}
use Rattle.ends.specs.declared.Slots.{Slots}
use Rattle.ends.specs.declared.FirstSend.{FirstSend}

---- two slots

-- numbers of one index name one slot
pub key_index : (s : Slots) (m n : ℕ) → m % 2 ≡ n % 2 → key_in s m ≡ key_in s n
unfolding key_in
key_index s m n e = rw e

-- what is put into one place of two, by a test, is found there
pub pick_own : {A : Type 0} (t : Bool) (a b c : A) → pick t (pick t a b) (pick t c a) ≡ a
unfolding pick
pick_own true a b c = refl
pick_own false a b c = refl

pub key_stored : (s : Slots) (n : ℕ) (key : List ℕ) → key_in (with_key s n key) n ≡ key
unfolding key_in with_key
key_stored s n key = pick_own (eqb (n % 2) 0) key s.even s.odd

-- a key stored under one index leaves that of the other
pub key_beside : (s : Slots) (m n : ℕ) (key : List ℕ) → (m % 2 ≡ n % 2 → ⊥) → key_in (with_key s n key) m ≡ key_in s m
unfolding key_in with_key pick
key_beside s m n key h = by_index (eqb (m % 2) 0) (eqb (n % 2) 0) refl refl where
  by_index : (t u : Bool) → eqb (m % 2) 0 ≡ t → eqb (n % 2) 0 ≡ u
      → pick t (pick u key s.even) (pick u s.odd key) ≡ pick t s.even s.odd
  by_index true true e f = absurd (h (eqb-true _ _ e ∙ sym (eqb-true _ _ f)))
  by_index true false e f = refl
  by_index false true e f = refl
  by_index false false e f = absurd (h (omega (arith, eqb-false (m % 2) 0 e, eqb-false (n % 2) 0 f)))

-- the key that is not forgotten stays
pub only_kept : (s : Slots) (n : ℕ) → key_in (only_key s n) n ≡ key_in s n
unfolding only_key
only_kept s n = key_beside s n (n + 1) no_key (λ e. omega arith)

-- nothing stands in the other place
pub only_forgotten : (s : Slots) (n : ℕ) → key_in (only_key s n) (n + 1) ≡ no_key
unfolding only_key
only_forgotten s n = key_stored s (n + 1) no_key

---- first sends

-- a key that is not too old and has had its first send is within its life
pub aged_false : (f : FirstSend) (tick : ℕ) → f.noted ≡ 1 → aged f tick ≡ false → tick < f.at + key_life
unfolding aged both
aged_false f tick n e = leb-false (f.at + key_life) tick (rw n at e)

-- once noted, a first send stays
pub first_stays : (f : FirstSend) (tick : ℕ) → f.noted ≡ 1 → first_send f tick ≡ f
unfolding first_send
first_stays f tick n = pick_true f (noted_at tick) (eq-eqb f.noted 1 n)

pub first_noted : (f : FirstSend) (tick : ℕ) → (f.noted ≡ 1 → ⊥) → first_send f tick ≡ noted_at tick
unfolding first_send
first_noted f tick n = pick_false f (noted_at tick) (ne_eqb f.noted 1 n)

pub first_send_flag : (f : FirstSend) (now : ℕ) → f.noted ≤ 1 → (first_send f now).noted ≤ 1
unfolding first_send
first_send_flag f now h = pick_holds (λ (x : FirstSend). x.noted ≤ 1) (is_up f.noted) f (noted_at now) (λ p. h) (λ p. omega arith)

pub first_none_valid : (tick : ℕ) → valid_first not_noted tick ≡ true
unfolding valid_first both either
first_none_valid tick = refl

pub first_noted_valid : (tick : ℕ) → valid_first (noted_at tick) tick ≡ true
unfolding valid_first
first_noted_valid tick = both_true refl (either_right _ (le-leb tick tick (omega arith)))

-- it stays valid at any later tick
pub first_later_valid : (f : FirstSend) (s t : ℕ) → s ≤ t → valid_first f s ≡ true → valid_first f t ≡ true
unfolding valid_first
first_later_valid f s t h e =
    both_true (both_left _ _ e)
    (⊎_elim (λ n. either_left _ n) (λ l. either_right _ (le-leb f.at t (omega (arith, leb-true f.at s l))))
    (either_cases _ _ (both_right _ _ e)))

pub first_send_valid : (f : FirstSend) (tick : ℕ) → valid_first f tick ≡ true → valid_first (first_send f tick) tick ≡ true
unfolding first_send
first_send_valid f tick e =
    pick_holds (λ (x : FirstSend). valid_first x tick ≡ true) (is_up f.noted) f (noted_at tick) (λ p. e) (λ p. first_noted_valid tick)
