-- Laws of an advance of the ONU: it stays valid, and advances add up. Assumes nothing.
use mathlib.Core.Path.{◌≡◌, refl, ◌∙◌, ap}
use mathlib.Core.Bool.{Bool, true, false}
use Prim.Native.Nat.{ℕ, ◌+◌, ◌≤◌, ◌<◌}
use native.Mathlib.Nat.{add_assoc, mod-lt}
use native.Mathlib.Omega.{arith}
use borrow.Author.Tests.{lt-ltb}
use Rattle.octets.specs.Choice.{pick}
use Rattle.octets.proofs.Choice.{both_left, both_right, both_true, pick_true, pick_false, pick_holds}
use Rattle.clock.specs.Ticks.{max_tick, local_turn, advanced, local_advanced}
use Rattle.clock.proofs.Ticks.{advanced_below, advanced_sum, local_advanced_sum}
use Rattle.ends.specs.Flags.{is_up}
use Rattle.ends.specs.Travels.{travel_of}
use Rattle.protocol.specs.Replies.{silent, advance_verdict}
use Rattle.ends.specs.Validity.{valid_onu_clock, valid_onu}
use Rattle.protocol.specs.OnuCalls.{onu_answer, onu_clock_advanced, onu_advanced, advancing_onu, advance_onu_of}
use Rattle.ends.specs.declared.OnuClock.{OnuClock}
use Rattle.ends.specs.declared.Onu.{Onu}
use Rattle.refusal.proofs.Numbers.{number_accepted}
use Rattle.protocol.proofs.Replies.{advance_accepted, advance_accepts}
use Rattle.ends.proofs.Validity.{onu_in_range, onu_valid}
use Rattle.protocol.proofs.OnuCalls.{onu_accepted, onu_accepts, onu_keeps}
use Rattle.refusal.specs.Verdict.{no_refusal}

pub onu_clock_sum : (m n : ℕ) (c : OnuClock) → onu_clock_advanced (onu_clock_advanced c m) n ≡ onu_clock_advanced c (m + n)
unfolding onu_clock_advanced pick
onu_clock_sum m n c = by_synced (is_up c.synced) refl where
  moved : Bool → ℕ → OnuClock → OnuClock
  moved t k d =
      pick t (record { synced = d.synced; time = advanced d.time k; rx = advanced d.rx k })
      (record { synced = d.synced; time = local_advanced d.time k; rx = d.rx })

  by_synced : (t : Bool) → is_up c.synced ≡ t → moved (is_up (moved t m c).synced) n (moved t m c) ≡ moved t (m + n) c
  by_synced true e = rw (e, advanced_sum c.time m n, advanced_sum c.rx m n)
  by_synced false e = rw (e, local_advanced_sum c.time m n)

-- an advance by m and then one by n leave what an advance by m + n leaves
pub onu_sum : (m n : ℕ) (o : Onu) → onu_advanced (onu_advanced o m) n ≡ onu_advanced o (m + n)
unfolding onu_advanced
onu_sum m n o = rw (onu_clock_sum m n o.clock, add_assoc o.tick m n)

local_below : (time n : ℕ) → local_advanced time n < local_turn
local_below time n = mod-lt (time + n) (omega arith)

pub onu_clock_advanced_valid : (n : ℕ) (c : OnuClock) → valid_onu_clock c ≡ true → valid_onu_clock (onu_clock_advanced c n) ≡ true
unfolding onu_clock_advanced valid_onu_clock
onu_clock_advanced_valid n c v =
    pick_holds (λ (d : OnuClock). valid_onu_clock d ≡ true) (is_up c.synced) _ _
    (λ e.
    both_true (both_left _ _ v)
    (both_true (lt-ltb _ _ (advanced_below c.rx n)) (pick_true _ _ e ∙ lt-ltb _ _ (advanced_below c.time n))))
    (λ e.
    both_true (both_left _ _ v)
    (both_true (both_left _ _ (both_right _ _ v)) (pick_false _ _ e ∙ lt-ltb _ _ (local_below c.time n))))

pub onu_advanced_valid : (o : Onu) (n : ℕ) → o.tick + n ≤ max_tick → valid_onu o ≡ true → valid_onu (onu_advanced o n) ≡ true
unfolding onu_advanced
onu_advanced_valid o n h v = let r = onu_in_range o v in onu_valid (onu_advanced o n) (search onu_clock_advanced_valid)

-- an advance is that much travel
pub travel_advanced : (o : Onu) (n : ℕ) → travel_of (onu_advanced o n) ≡ travel_of o + n
unfolding travel_of onu_advanced
travel_advanced o n = omega arith

pub advance_onu_valid : (o : Onu) (n : ℕ) → valid_onu o ≡ true → valid_onu (advance_onu_of o n).onu ≡ true
unfolding advance_onu_of advancing_onu onu_answer
advance_onu_valid o n v =
    onu_keeps (λ (p : Onu). valid_onu p ≡ true) o silent _ _ silent v (λ w a. onu_advanced_valid o n (advance_accepted o.tick n a) w)

advancing_onu_accepts : (o : Onu) (n : ℕ) → valid_onu o ≡ true → o.tick + n ≤ max_tick
    → advancing_onu o n ≡ record { verdict = no_refusal; end = onu_advanced o n; handed = silent }
unfolding advancing_onu
advancing_onu_accepts o n v h = onu_accepts o silent _ (onu_advanced o n) silent v (advance_accepts o.tick n h)

-- whenever the sum is accepted, an advance by m and then one by n give the whole reply of an advance by m + n
advancing_onu_sum : (o : Onu) (m n : ℕ) → (advancing_onu o (m + n)).verdict ≡ no_refusal
    → advancing_onu (advancing_onu o m).end n ≡ advancing_onu o (m + n)
unfolding onu_advanced
advancing_onu_sum o m n e =
    let a : (valid_onu o ≡ true) × (advance_verdict o.tick (m + n) ≡ no_refusal) = unfold advancing_onu in onu_accepted o silent _ _ silent e in
    let h = advance_accepted o.tick (m + n) a.1 in
    let k : o.tick + m ≤ max_tick = omega arith in
    let second = advancing_onu_accepts (onu_advanced o m) n (onu_advanced_valid o m k a.0) (omega arith) in
    rw (advancing_onu_accepts o m a.0 k, second, onu_sum m n o, advancing_onu_accepts o (m + n) a.0 h)

pub advance_onu_sum : (o : Onu) (m n : ℕ) → (advance_onu_of o (m + n)).number ≡ 0
    → advance_onu_of (advance_onu_of o m).onu n ≡ advance_onu_of o (m + n)
unfolding advance_onu_of onu_answer
advance_onu_sum o m n e = ap onu_answer (advancing_onu_sum o m n (number_accepted _ e))
