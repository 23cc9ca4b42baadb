-- What the place of a unit, or the want of one, makes of a call on it. Assumes nothing.
use Rattle.std.specs.Prelude.{Ok, Err, Option, Some, None}
use mathlib.Core.Path.{◌≡◌, refl, sym, ap, ◌∙◌}
use mathlib.Core.Bool.{Bool, true, false, not}
use Prim.Native.Nat.{ℕ, ◌<◌}
use native.Mathlib.Omega.{arith}
use Rattle.octets.specs.Choice.{pick}
use Rattle.refusal.specs.declared.Refusal.{Refusal}
use Rattle.refusal.specs.declared.Refusal.TheVariants.{OutOfRange, UnknownLlid}
use Rattle.refusal.specs.Order.{refuse_if, and_then}
use Rattle.refusal.proofs.Order.{refused_accepts}
use Rattle.ends.specs.Limits.{max_units}
use Rattle.protocol.specs.Replies.{on_valid, Reply, reply}
use Rattle.ends.specs.Table.{is_registered, find, unit_at, with_unit}
use Rattle.ends.specs.Validity.{valid_olt}
use Rattle.protocol.specs.Lift.{Outcome, put_back, at_unit, after, lift}
use Rattle.ends.specs.declared.UnitRecord.{UnitRecord}
use Rattle.ends.specs.declared.Shared.{Shared}
use Rattle.ends.specs.declared.Olt.{Olt}
use Rattle.ends.proofs.Table.{find_at, registered_found, registered_nowhere, with_itself}
use Rattle.ends.proofs.Validity.{olt_in_range}
use Rattle.unit.specs.Reached.{if_accepted, reached}
use Rattle.olt.specs.Lookup.{located_after, located_of, locate_order}
use Rattle.olt.specs.declared.Located.{Located}
use Rattle.refusal.specs.Verdict.{Verdict, no_refusal}

---- the place

-- what is found in an end that is not valid does not matter
pub located_judged : (t : Bool) (v : Verdict) (f : Option ℕ) → located_after (on_valid t v) (pick t f None) ≡ located_after (on_valid t v) f
unfolding located_after refuse_if pick
located_judged true v f = refl
located_judged false v f = refl

-- the verdict is the first refusal in order
pub located_ordered : (o : Olt) (ahead : Verdict) (llid : ℕ) (l : Located) → l ≡ located_of o ahead llid → l.verdict ≡ locate_order o ahead llid
unfolding located_of located_after locate_order and_then refuse_if
located_ordered o ahead llid l e =
    ap (λ (x : Located). x.verdict) e
    ∙ by_case (valid_olt o) ahead (find o llid) (is_registered o llid) (registered_found o llid) (registered_nowhere o llid) where
      by_case : (t : Bool) (v : Verdict) (f : Option ℕ) (r : Bool) → ((i : ℕ) → f ≡ Some i → r ≡ true) → (f ≡ None → r ≡ false)
          → (located_after (on_valid t v) f).verdict ≡ on_valid t (and_then v (refuse_if (not r) UnknownLlid no_refusal))
      by_case true (Ok tt) (Some i) r k a = rw (k i refl)
      by_case true (Ok tt) None r k a = rw (a refl)
      by_case true (Err x) f r k a = refl
      by_case false v f r k a = refl

-- the place of a unit is one of the table's
pub found_below-holds : (o : Olt) (llid i : ℕ) → valid_olt o ≡ true → find o llid ≡ Some i → i < max_units
found_below-holds o llid i v f =
    let few = (olt_in_range o v).count in
    omega (arith, (find_at o llid i f).used)

pub located_below : (o : Olt) (ahead : Verdict) (llid : ℕ) (l : Located) → l ≡ located_of o ahead llid → l.place < max_units
unfolding located_of located_after refuse_if
located_below o ahead llid l e = rw e (by_case (valid_olt o) ahead (find o llid) (found_below-holds o llid)) where
  by_case : (t : Bool) (v : Verdict) (f : Option ℕ) → ((i : ℕ) → t ≡ true → f ≡ Some i → i < max_units)
      → (located_after (on_valid t v) f).place < max_units
  by_case true (Ok tt) (Some i) k = k i refl refl
  by_case true (Ok tt) None k = omega arith
  by_case true (Err x) f k = omega arith
  by_case false v f k = omega arith

---- the call

-- the call goes on at its place: the end is valid, the call passed what it refuses ahead of 2, and the unit was found
pub record Reaches (o : Olt) (ahead : Verdict) (llid i : ℕ) : Type 0 where
  pub valid : valid_olt o ≡ true
  pub passed : ahead ≡ no_refusal
  pub found : find o llid ≡ Some i

pub reaches : (o : Olt) (ahead : Verdict) (llid : ℕ) (l : Located) → l ≡ located_of o ahead llid → l.verdict ≡ no_refusal
    → Reaches o ahead llid l.place
unfolding located_of located_after refuse_if
reaches o ahead llid l e a =
    let r = by_case (valid_olt o) ahead (find o llid) (sym (ap (λ (x : Located). x.verdict) e) ∙ a) in
    record { valid = r.0; passed = r.1; found = r.2 ∙ ap (λ (x : Located). Some x.place) (sym e) } where
      by_case : (t : Bool) (v : Verdict) (f : Option ℕ) → (located_after (on_valid t v) f).verdict ≡ no_refusal
          → (t ≡ true) × (v ≡ no_refusal) × (f ≡ Some (located_after (on_valid t v) f).place)
      by_case true (Ok tt) (Some k) q = (refl, refl, refl)
      by_case true (Ok tt) None q = refused_accepts _ q
      by_case true (Err r) f q = refused_accepts _ q
      by_case false v f q = refused_accepts _ q

module _ {H : Type 0} (o : Olt) (nothing : H) (ahead : Verdict) (llid : ℕ) (call : Shared → UnitRecord → Outcome H) where
  -- the reply that a decision on the unit at a place makes
  put : ℕ → Outcome H → Reply Olt H
  put i x = record { verdict = x.verdict; end = with_unit o i x.channels x.unit; handed = x.handed }

  decided : Located → Outcome H
  decided l = reached l.verdict nothing o.shared (unit_at o l.place) (call o.shared (unit_at o l.place))

  -- refused, the unit is put back as it was
  put_refused : (i : ℕ) (r : Refusal) → reply (Err r) o nothing o nothing
      ≡ record { verdict = Err r; end = with_unit o i o.shared.channels (unit_at o i); handed = nothing }
  unfolding reply
  put_refused i r = rw (with_itself o i)

  put_back-holds : (i : ℕ) (x : Outcome H) → put_back o nothing i x ≡ put i (reached no_refusal nothing o.shared (unit_at o i) x)
  unfolding put_back put reached and_then if_accepted reply
  put_back-holds i x = by_verdict-holds x.verdict where
    by_verdict-holds : (v : Verdict) → reply v o nothing (with_unit o i x.channels x.unit) x.handed
        ≡ record {
          verdict = v;
          end = with_unit o i (if_accepted v x.channels o.shared.channels) (if_accepted v x.unit (unit_at o i));
          handed = if_accepted v x.handed nothing;
        }
    by_verdict-holds (Ok tt) = refl
    by_verdict-holds (Err r) = put_refused i r

  lift_located : lift o nothing ahead llid call ≡ put (located_of o ahead llid).place (decided (located_of o ahead llid))
  unfolding lift after at_unit located_of located_after refuse_if put decided reached and_then if_accepted
  lift_located = by_case (valid_olt o) ahead (find o llid) where
    by_case : (t : Bool) (v : Verdict) (f : Option ℕ) → after (on_valid t v) o nothing (at_unit o nothing call f)
        ≡ put (located_after (on_valid t v) f).place (decided (located_after (on_valid t v) f))
    by_case true (Ok tt) (Some i) = put_back-holds i (call o.shared (unit_at o i))
    by_case true (Ok tt) None = put_refused 0 UnknownLlid
    by_case true (Err r) f = put_refused 0 r
    by_case false v f = put_refused 0 OutOfRange

  -- what the call leaves, by the place and the unit's decision
  pub lift_decided : (l : Located) (x : Outcome H) → l ≡ located_of o ahead llid
      → x ≡ reached l.verdict nothing o.shared (unit_at o l.place) (call o.shared (unit_at o l.place))
      → record { verdict = x.verdict; end = with_unit o l.place x.channels x.unit; handed = x.handed } ≡ lift o nothing ahead llid call
  unfolding put decided
  lift_decided l x e f = ap (put l.place) f ∙ ap (λ (k : Located). put k.place (decided k)) e ∙ sym lift_located
