-- Laws of an advance of the OLT: it stays valid, and advances add up. Assumes nothing.
use mathlib.Core.Path.{◌≡◌, refl, sym, ◌∙◌, ap}
use mathlib.Core.Bool.{true}
use mathlib.Core.List.{map}
use Prim.Native.Nat.{ℕ, ◌+◌, ◌≤◌}
use native.Mathlib.Nat.{add_assoc}
use native.Mathlib.Omega.{arith}
use borrow.Author.Tests.{not-false}
use Rattle.octets.proofs.Choice.{not_of_true}
use Rattle.octets.proofs.Tests.{all_map}
use Rattle.octets.proofs.Maps.{map_twice, map_same, take_first, drop_first, get_d_first}
use Rattle.refusal.specs.declared.Refusal.TheVariants.{OutOfRange}
use Rattle.clock.specs.Ticks.{max_tick}
use Rattle.clock.proofs.Ticks.{advanced_below, advanced_sum}
use Rattle.protocol.specs.Replies.{silent}
use Rattle.ends.specs.Records.{with_keys}
use Rattle.ends.specs.Table.{registered, table_llids, unit_at, past_unit}
use Rattle.ends.specs.Validity.{valid_unit, valid_olt}
use Rattle.protocol.specs.UnitCalls.{unit_advanced}
use Rattle.protocol.specs.OltCalls.{olt_answer, shared_advanced, olt_advanced, advancing_olt, advance_olt_of}
use Rattle.ends.specs.declared.UnitRecord.{UnitRecord}
use Rattle.ends.specs.declared.Shared.{Shared}
use Rattle.ends.specs.declared.Olt.{Olt}
use Rattle.refusal.proofs.Order.{refuse_accepted, refuse_passed}
use Rattle.refusal.proofs.Numbers.{number_accepted}
use Rattle.protocol.proofs.Replies.{reply_verdict, reply_accepted, reply_keeps, advance_accepted, advance_accepts}
use Rattle.ends.proofs.Table.{identity_of, llids_same, Registered}
use Rattle.ends.proofs.Validity.{shared_in_range, shared_valid, olt_in_range, olt_valid}
use Rattle.protocol.proofs.UnitCalls.{unit_sum, unit_advanced_valid}
use Rattle.refusal.specs.Verdict.{no_refusal}

pub shared_sum : (m n : ℕ) (s : Shared) → shared_advanced (shared_advanced s m) n ≡ shared_advanced s (m + n)
unfolding shared_advanced
shared_sum m n s = rw (advanced_sum s.clock m n, add_assoc s.tick m n)

-- an advance by m and then one by n leave what an advance by m + n leaves
pub olt_sum : (m n : ℕ) (o : Olt) → olt_advanced (olt_advanced o m) n ≡ olt_advanced o (m + n)
unfolding olt_advanced
olt_sum m n o =
    rw (
      shared_sum m n o.shared,
      take_first (unit_advanced m) o.count o.units,
      drop_first (unit_advanced m) o.count o.units,
      map_twice (unit_advanced m) (unit_advanced n) (unit_advanced (m + n)) (unit_sum m n) (registered o),
    )

pub unit_identity-holds : (n : ℕ) (u : UnitRecord) → (unit_advanced n u).identity ≡ u.identity
unfolding unit_advanced with_keys
unit_identity-holds n u = refl

-- a unit in use is advanced
pub advanced_unit : (o : Olt) (n llid i : ℕ) → Registered o llid i → unit_at (olt_advanced o n) i ≡ unit_advanced n (unit_at o i)
unfolding olt_advanced
advanced_unit o n llid i r = get_d_first (unit_advanced n) o.count o.units i past_unit r.used r.place

pub olt_advanced_valid : (o : Olt) (n : ℕ) → o.shared.tick + n ≤ max_tick → valid_olt o ≡ true → valid_olt (olt_advanced o n) ≡ true
unfolding olt_advanced shared_advanced
olt_advanced_valid o n h v =
    let k = olt_in_range o v in
    let s = shared_in_range o.shared k.shared in
    let llids : table_llids (map (unit_advanced n) (registered o)) ≡ table_llids (registered o) =
    llids_same _ _ (map_same (unit_advanced n) identity_of (unit_identity-holds n) (registered o)) in
    let shared = shared_valid (shared_advanced o.shared n) (search advanced_below) in
    let valid =
    all_map (valid_unit o.shared.tick) (valid_unit (o.shared.tick + n)) (unit_advanced n) (unit_advanced_valid o.shared.tick n) (registered o)
    k.units in
    let taken = take_first (unit_advanced n) o.count o.units in
    olt_valid (olt_advanced o n) (record { count = k.count; shared = shared; units = rw taken valid; distinct = rw (taken, llids) k.distinct })

pub advance_olt_valid : (o : Olt) (n : ℕ) → valid_olt o ≡ true → valid_olt (advance_olt_of o n).olt ≡ true
unfolding advance_olt_of advancing_olt olt_answer
advance_olt_valid o n v =
    reply_keeps (λ (p : Olt). valid_olt p ≡ true) _ o silent _ silent v
    (λ a. olt_advanced_valid o n (advance_accepted o.shared.tick n (refuse_accepted _ _ _ a).1) v)

-- what is accepted of an advance
pub advancing_accepted : (o : Olt) (n : ℕ) → (advancing_olt o n).verdict ≡ no_refusal → (valid_olt o ≡ true) × (o.shared.tick + n ≤ max_tick)
unfolding advancing_olt
advancing_accepted o n e =
    let a = refuse_accepted _ _ _ (sym (reply_verdict _ o silent (olt_advanced o n) silent) ∙ e) in
    (not-false _ a.0, advance_accepted o.shared.tick n a.1)

pub advancing_accepts : (o : Olt) (n : ℕ) → valid_olt o ≡ true → o.shared.tick + n ≤ max_tick
    → advancing_olt o n ≡ record { verdict = no_refusal; end = olt_advanced o n; handed = silent }
unfolding advancing_olt
advancing_accepts o n v h =
    reply_accepted _ o silent (olt_advanced o n) silent (refuse_passed _ OutOfRange _ (not_of_true v) ∙ advance_accepts o.shared.tick n h)

-- whenever the sum is accepted, an advance by m and then one by n give the whole reply of an advance by m + n
pub advancing_sum : (o : Olt) (m n : ℕ) → (advancing_olt o (m + n)).verdict ≡ no_refusal
    → advancing_olt (advancing_olt o m).end n ≡ advancing_olt o (m + n)
unfolding olt_advanced shared_advanced
advancing_sum o m n e =
    let a = advancing_accepted o (m + n) e in
    let h : o.shared.tick + m ≤ max_tick = omega (arith, a.1) in
    let first = advancing_accepts o m a.0 h in
    let second = advancing_accepts (olt_advanced o m) n (olt_advanced_valid o m h a.0) (omega (arith, a.1)) in
    rw (first, second, olt_sum m n o, advancing_accepts o (m + n) a.0 a.1)

pub advance_olt_sum : (o : Olt) (m n : ℕ) → (advance_olt_of o (m + n)).number ≡ 0
    → advance_olt_of (advance_olt_of o m).olt n ≡ advance_olt_of o (m + n)
unfolding advance_olt_of olt_answer
advance_olt_sum o m n e = ap olt_answer (advancing_sum o m n (number_accepted _ e))
