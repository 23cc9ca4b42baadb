-- Laws of the key timer. Assumes nothing.
use Rattle.std.proofs.Common.{◌≡◌, ℕ, ◌+◌, ◌*◌, ◌/◌, ◌%◌, ◌<◌, ◌≤◌, Bool, true, false, ltb, leb, refl, add_assoc, mod-lt, mod-eq_of_lt, div-lt_iff_lt-mul, le-div_iff_mul-le, zero-add, div-mul-le_self, arith, ltb-true, le-ltb, lt-ltb, le-leb, leb-false, leb-true}
use native.Mathlib.Nat.{mod-add-mod, mod-add-div', add-mul-div_right, div-eq_of_lt}
use Rattle.octets.specs.Choice.{pick}
use Rattle.octets.proofs.Choice.{both_left, both_right, both_true, pick_true, pick_same}
use Rattle.ends.specs.Limits.{max_interval}
use Rattle.ends.specs.Timers.{fresh_timer, timer_advanced, timer_fallen, valid_interval, valid_timer}
use Rattle.ends.specs.declared.Timer.{Timer}

-- the flag after two advances is the flag after one of their sum
flag_sum : (i c m n flag : ℕ) → pick (leb i ((c + m) % i + n)) 1 (pick (leb i (c + m)) 1 flag) ≡ pick (leb i (c + (m + n))) 1 flag
unfolding pick
flag_sum i c m n flag = by_first (leb i (c + m)) refl where
  by_first : (t : Bool) → leb i (c + m) ≡ t → pick (leb i ((c + m) % i + n)) 1 (pick t 1 flag) ≡ pick (leb i (c + (m + n))) 1 flag
  by_first true e = rw (le-leb i (c + (m + n)) (omega (arith, leb-true i (c + m) e))) (pick_same (leb i ((c + m) % i + n)) 1)
  by_first false e = rw (mod-eq_of_lt (leb-false i (c + m) e), add_assoc c m n)

-- an advance by m and then one by n are an advance by m + n
pub timer_sum : (m n : ℕ) (t : Timer) → timer_advanced (timer_advanced t m) n ≡ timer_advanced t (m + n)
unfolding timer_advanced
timer_sum m n t =
    rw (mod-add-mod (t.count + m) t.interval n, add_assoc t.count m n, flag_sum t.interval t.count m n t.flag)

---- validity

pub record TimerInRange (t : Timer) : Type 0 where
  pub some : 1 ≤ t.interval
  pub most : t.interval ≤ max_interval
  pub below : t.count < t.interval
  pub flag : t.flag ≤ 1

pub timer_in_range : (t : Timer) → valid_timer t ≡ true → TimerInRange t
unfolding valid_timer valid_interval
timer_in_range t e = search (both_left, both_right, leb-true)

pub timer_valid : (t : Timer) → TimerInRange t → valid_timer t ≡ true
unfolding valid_timer valid_interval
timer_valid t r = search (both_true, le-leb)

flag_advanced : (b : Bool) (flag : ℕ) → flag ≤ 1 → pick b 1 flag ≤ 1
unfolding pick
flag_advanced true flag h = omega arith
flag_advanced false flag h = h

pub timer_advanced_valid : (n : ℕ) (t : Timer) → valid_timer t ≡ true → valid_timer (timer_advanced t n) ≡ true
unfolding timer_advanced
timer_advanced_valid n t e = let r = timer_in_range t e in timer_valid _ (search (mod-lt, flag_advanced, arith))

pub timer_fallen_valid : (t : Timer) → valid_timer t ≡ true → valid_timer (timer_fallen t) ≡ true
unfolding timer_fallen
timer_fallen_valid t e = let r = timer_in_range t e in timer_valid _ (search arith)

pub timer_fresh_valid : (interval : ℕ) → valid_interval interval ≡ true → valid_timer (fresh_timer interval) ≡ true
unfolding valid_timer fresh_timer valid_interval
timer_fresh_valid interval e =
    both_true e (both_true (lt-ltb 0 interval (omega (arith, leb-true 1 interval (both_left _ _ e)))) refl)

---- the timer by the ticks since registration

-- the timer of a unit registered `now` ticks ago, whose flag fell last, or whose registration was, at `fall`: the flag is up if a
-- multiple of the interval was reached since
abbrev pub timer_since : ℕ → ℕ → ℕ → Timer
timer_since interval now fall = record { interval = interval; count = now % interval; flag = pick (ltb (fall / interval) (now / interval)) 1 0 }

none_later : (n : ℕ) → ltb n n ≡ false
none_later n = le-ltb n n (omega arith)

pub since_fresh : (interval : ℕ) → 1 ≤ interval → fresh_timer interval ≡ timer_since interval 0 0
unfolding fresh_timer pick
since_fresh interval h = rw (mod-eq_of_lt h, none_later (0 / interval))

pub since_fallen : (interval now fall : ℕ) → timer_fallen (timer_since interval now fall) ≡ timer_since interval now now
unfolding timer_fallen pick
since_fallen interval now fall = rw (none_later (now / interval))

-- how many multiples were reached, n ticks later
multiples : (interval now n : ℕ) → 1 ≤ interval → (now + n) / interval ≡ (now % interval + n) / interval + now / interval
multiples interval now n h =
    let split : now + n ≡ now % interval + n + now / interval * interval = omega (arith, mod-add-div' now interval) in
    rw split (add-mul-div_right (now % interval + n) (now / interval) h)

pub since_advanced : (interval now fall n : ℕ) → 1 ≤ interval → fall ≤ now
    → timer_advanced (timer_since interval now fall) n ≡ timer_since interval (now + n) fall
unfolding timer_advanced pick
since_advanced interval now fall n h k = rw (mod-add-mod now interval n) (by_reached (leb interval (now % interval + n)) refl) where
  old : ℕ
  old = pick (ltb (fall / interval) (now / interval)) 1 0

  timer : ℕ → Timer
  timer flag = record { interval = interval; count = (now + n) % interval; flag = flag }

  by_reached : (t : Bool) → leb interval (now % interval + n) ≡ t
      → timer (pick t 1 old) ≡ timer (pick (ltb (fall / interval) ((now + n) / interval)) 1 0)
  by_reached true e =
      let one : 1 * interval ≤ now % interval + n = omega (arith, leb-true interval (now % interval + n) e) in
      let more = (le-div_iff_mul-le h).1 one in
      let before : fall / interval ≤ now / interval = (le-div_iff_mul-le h).1 (omega (arith, div-mul-le_self fall interval)) in
      rw (lt-ltb (fall / interval) ((now + n) / interval) (omega (arith, multiples interval now n h, more, before)))
  by_reached false e =
      let none : (now % interval + n) / interval ≡ 0 = div-eq_of_lt (leb-false _ _ e) in
      rw (multiples interval now n h, none, zero-add)

-- the flag is up just where a multiple of the interval lies after `fall` and not after `now`
pub since_up : (interval now fall k : ℕ) → 1 ≤ interval → fall < k * interval → k * interval ≤ now → (timer_since interval now fall).flag ≡ 1
since_up interval now fall k h a b =
    let low : fall / interval < k = (div-lt_iff_lt-mul h).1 a in
    let high : k ≤ now / interval = (le-div_iff_mul-le h).1 b in
    pick_true 1 0 (lt-ltb (fall / interval) (now / interval) (omega arith))

pub since_multiple : (interval now fall : ℕ) → 1 ≤ interval → (timer_since interval now fall).flag ≡ 1
    → (fall < now / interval * interval) × (now / interval * interval ≤ now)
unfolding pick
since_multiple interval now fall h e = by_up (ltb (fall / interval) (now / interval)) refl e where
  by_up : (t : Bool) → ltb (fall / interval) (now / interval) ≡ t → ◌≡◌ {A = ℕ} (pick t 1 0) 1
      → (fall < now / interval * interval) × (now / interval * interval ≤ now)
  by_up true f g = ((div-lt_iff_lt-mul h).0 (ltb-true _ _ f), div-mul-le_self now interval)
  by_up false f g = absurd (omega arith)
