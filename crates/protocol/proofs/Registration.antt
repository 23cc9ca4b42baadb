-- Laws of a registration: what an accepted one has met, that it keeps the OLT valid, and that the new unit is found. Assumes nothing.
use mathlib.Core.Path.{◌≡◌, refl, sym, ◌∙◌, ap}
use mathlib.Core.Bool.{Bool, true, false}
use mathlib.Core.List.{List, [], ◌∷◌, ◌++◌, append-nil, append_assoc}
use Prim.Native.Nat.{ℕ, ◌+◌, ◌≤◌, ◌<◌}
use native.Mathlib.Omega.{arith}
use lib.Dec.{ltb}
use lib.ListN.{length, take}
use lib.Seq.{set_out, take_all}
use borrow.Author.Tests.{ltb-true, ltb-false}
use Rattle.octets.specs.Choice.{either}
use Rattle.octets.specs.Lists.{all}
use Rattle.octets.proofs.Choice.{both_true, not_both}
use Rattle.octets.proofs.Tests.{all_append}
use Rattle.clock.specs.Ticks.{max_round_trip}
use Rattle.ends.specs.Limits.{max_units, max_llids}
use Rattle.protocol.specs.Replies.{silent}
use Rattle.ends.specs.Timers.{valid_interval}
use Rattle.ends.specs.Identities.{distinct, meets, llids_of, kept, valid_identity}
use Rattle.ends.specs.Records.{fresh_unit, new_unit_clock}
use Rattle.ends.specs.Table.{registered, table_llids, with_one_more}
use Rattle.ends.specs.Validity.{valid_unit, valid_olt}
use Rattle.protocol.specs.OltCalls.{olt_answer, valid_registration, register_verdict, registering, register_of}
use Rattle.ends.specs.declared.Identity.{Identity}
use Rattle.ends.specs.declared.UnitRecord.{UnitRecord}
use Rattle.ends.specs.declared.Olt.{Olt}
use Rattle.refusal.proofs.Order.{refuse_accepted}
use Rattle.protocol.proofs.Replies.{met, reply_keeps}
use Rattle.ends.proofs.Timers.{timer_fresh_valid}
use Rattle.ends.proofs.Keys.{first_none_valid}
use Rattle.ends.proofs.Identities.{meets_apart, distinct_append, identity_valid, kept_llids, kept_valid}
use Rattle.ends.proofs.Table.{more_registered}
use Rattle.ends.proofs.Validity.{unit_valid, clock_valid, olt_in_range, olt_valid}
use Rattle.refusal.specs.Verdict.{no_refusal}

---- validity

pub record Registers (o : Olt) (i : Identity) (delay ticks : ℕ) : Type 0 where
  pub identity : valid_identity i ≡ true
  pub trip : delay ≤ max_round_trip
  pub interval : valid_interval ticks ≡ true
  pub distinct : distinct (llids_of i) ≡ true
  pub new : meets (llids_of i) (table_llids (registered o)) ≡ false
  pub room : o.count < max_units

pub register_accepted : (o : Olt) (i : Identity) (trip interval : ℕ) → register_verdict o i trip interval ≡ no_refusal → Registers o i trip interval
unfolding register_verdict valid_registration
register_accepted o i trip interval e = search met depth 8

pub fresh_unit_valid : (tick : ℕ) (i : Identity) (trip interval : ℕ) → valid_identity i ≡ true → trip ≤ max_round_trip
    → valid_interval interval ≡ true
    → valid_unit tick (fresh_unit i trip interval) ≡ true
unfolding fresh_unit either
fresh_unit_valid tick i trip interval v t n =
    let same = kept_valid i ∙ v in
    let clock = clock_valid tick (new_unit_clock trip) (search arith) in
    unit_valid tick (fresh_unit i trip interval) (search (timer_fresh_valid, first_none_valid, arith))

-- what the places in use have after a registration: the new unit too, if there was a place
more_cases : (P : List UnitRecord → Type 0) (o : Olt) (u : UnitRecord) → P (registered o) → P (registered o ++ (u ∷ []))
    → P (registered (with_one_more o u))
unfolding with_one_more
more_cases P o u p q = by_room (ltb o.count (length o.units)) refl where
  by_room : (t : Bool) → ltb o.count (length o.units) ≡ t → P (registered (with_one_more o u))
  by_room true e = rw (more_registered o u (ltb-true _ _ e)) q
  by_room false e =
      let h : length o.units ≤ o.count = ltb-false _ _ e in
      let whole : take o.count o.units ≡ o.units = take_all o.count o.units h in
      let more : take (o.count + 1) o.units ≡ o.units = take_all (o.count + 1) o.units (omega arith) in
      rw (set_out o.units o.count u h, more) (rw whole at p)

pub table_append : (us vs : List UnitRecord) → table_llids (us ++ vs) ≡ table_llids us ++ table_llids vs
unfolding table_llids
table_append [] vs = refl
table_append (u ∷ us) vs = rw (table_append us vs) (sym (append_assoc (llids_of u.identity) (table_llids us) (table_llids vs)))

-- the LLIDs of a table with one more
pub fresh_llids : (i : Identity) (trip interval : ℕ) → i.count ≤ max_llids → table_llids (fresh_unit i trip interval ∷ []) ≡ llids_of i
unfolding table_llids fresh_unit
fresh_llids i trip interval h = append-nil (llids_of (kept i)) ∙ kept_llids i h

pub registered_valid : (o : Olt) (i : Identity) (trip interval : ℕ) → Registers o i trip interval → valid_olt o ≡ true
    → valid_olt (with_one_more o (fresh_unit i trip interval)) ≡ true
unfolding with_one_more all
registered_valid o i trip interval r v =
    let u = fresh_unit i trip interval in
    let k = olt_in_range o v in
    let valid = fresh_unit_valid o.shared.tick i trip interval r.identity r.trip r.interval in
    let llids : table_llids (registered o ++ (u ∷ [])) ≡ table_llids (registered o) ++ llids_of i =
    rw (table_append (registered o) (u ∷ []), fresh_llids i trip interval (identity_valid i r.identity).1) in
    let apart : distinct (table_llids (registered o) ++ llids_of i) ≡ true =
    distinct_append (table_llids (registered o)) (llids_of i) k.distinct r.distinct
    (λ x a. not_both _ _ (meets_apart (llids_of i) (table_llids (registered o)) x r.new) a) in
    let units =
    more_cases (λ (us : List UnitRecord). all (valid_unit o.shared.tick) us ≡ true) o u k.units
    (all_append (valid_unit o.shared.tick) (registered o) (u ∷ []) k.units (both_true valid refl)) in
    let once = more_cases (λ (us : List UnitRecord). distinct (table_llids us) ≡ true) o u k.distinct (ap distinct llids ∙ apart) in
    olt_valid (with_one_more o u) (search arith)

pub register_valid : (o : Olt) (i : Identity) (trip interval : ℕ) → valid_olt o ≡ true → valid_olt (register_of o i trip interval).olt ≡ true
unfolding register_of registering olt_answer
register_valid o i trip interval v =
    reply_keeps (λ (p : Olt). valid_olt p ≡ true) _ o silent _ silent v
    (λ a. registered_valid o i trip interval (register_accepted o i trip interval (refuse_accepted _ _ _ a).1) v)
