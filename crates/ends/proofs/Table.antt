-- Laws of the table: a unit is found by any of its LLIDs, and a unit replaced leaves all else. Assumes nothing.
use Rattle.std.specs.Prelude.{Option, Some, None}
use Rattle.std.proofs.Common.{◌≡◌, ℕ, zero, suc, ◌+◌, ◌-◌, ◌<◌, ◌≤◌, Bool, true, false, not, List, [], ◌∷◌, ◌++◌, map, length, get_or, take, sym, refl, ap, ◌∙◌, ap₂, le_of_suc-le-suc, not-suc-le-zero, add-zero, add-suc, suc-add, zero-add, add-one, arith, length-set, length-take, get_or-set_other, get_or-take, get_or-set_same, take-suc-set, set-set}
use lib.Seq.{set-get_or, map-set_same}
use Rattle.octets.specs.Choice.{pick}
use Rattle.octets.proofs.Choice.{pick_true, pick_false, not_both, either_left, either_right, either_none, not_of_true, not_of_false}
use Rattle.octets.proofs.Maps.{map_take}
use Rattle.refusal.specs.Number.{verdict_number}
use Rattle.refusal.specs.declared.Refusal.TheVariants.{UnknownLlid}
use Rattle.refusal.specs.Order.{refuse_if}
use Rattle.ends.specs.Identities.{among, distinct, llids_of, has}
use Rattle.ends.specs.Records.{with_channels}
use Rattle.ends.specs.Table.{registered, table_llids, is_registered, find_from, find, found_number, past_unit, unit_at, with_unit, with_one_more}
use Rattle.ends.specs.declared.Channels.{Channels}
use Rattle.ends.specs.declared.Identity.{Identity}
use Rattle.ends.specs.declared.UnitRecord.{UnitRecord}
use Rattle.ends.specs.declared.Olt.{Olt}
use Rattle.refusal.proofs.Order.{refuse_passed, refuse_stopped}
use Rattle.ends.proofs.Identities.{among_append, distinct_right, distinct_apart}
use Rattle.refusal.specs.Verdict.{no_refusal}

---- who is found

-- place i of the units listed from place k on has the LLID
record Among (k : ℕ) (us : List UnitRecord) (llid i : ℕ) : Type 0 where
  low : k ≤ i
  high : i < k + length us
  has : has (get_or us (i - k) past_unit).identity llid ≡ true

from_at : (k : ℕ) (us : List UnitRecord) (llid i : ℕ) → find_from k us llid ≡ Some i → Among k us llid i
unfolding find_from pick
from_at k [] llid i e = let z : ◌≡◌ {A = ℕ} 0 1 = cc in absurd (omega arith)
from_at k (u ∷ us) llid i e = by_head (has u.identity llid) refl (from_at (suc k) us llid i) e where
  by_head : (t : Bool) → has u.identity llid ≡ t → (find_from (suc k) us llid ≡ Some i → Among (suc k) us llid i)
      → pick t (Some k) (find_from (suc k) us llid) ≡ Some i → Among k (u ∷ us) llid i
  by_head true h more f =
      let z : k ≡ i = cc in
      let n : i - k ≡ 0 = omega arith in
      record { low = omega arith; high = omega arith; has = rw n h }
  by_head false h more f =
      let m = more f in
      let n : i - k ≡ suc (i - suc k) = omega (arith, m.low) in
      record { low = omega (arith, m.low); high = omega (arith, m.high); has = rw n m.has }

-- a place in use, whose unit has the LLID
pub record Registered (o : Olt) (llid i : ℕ) : Type 0 where
  pub used : i < o.count
  pub place : i < length o.units
  pub has : has (unit_at o i).identity llid ≡ true

pub find_at : (o : Olt) (llid i : ℕ) → find o llid ≡ Some i → Registered o llid i
unfolding find
find_at o llid i e =
    let m = from_at 0 (registered o) llid i e in
    let n : i - 0 ≡ i = omega arith in
    let l : i < length (registered o) = omega (arith, m.high) in
    let used : i < o.count = omega (arith, length-take o.count o.units) in
    record {
      used = used;
      place = omega (arith, length-take o.count o.units);
      has = rw (n, get_or-take o.count o.units i past_unit used) at m.has;
    }

-- the LLIDs of a unit are among the table's
table_among : (us : List UnitRecord) (llid i : ℕ) → i < length us → has (get_or us i past_unit).identity llid ≡ true
    → among llid (table_llids us) ≡ true
unfolding table_llids has
table_among [] llid i h e = absurd (not-suc-le-zero h)
table_among (u ∷ us) llid zero h e = among_append llid (llids_of u.identity) (table_llids us) ∙ either_left _ e
table_among (u ∷ us) llid (suc i) h e =
    among_append llid (llids_of u.identity) (table_llids us) ∙ either_right _ (table_among us llid i (le_of_suc-le-suc h) e)

from_own : (k : ℕ) (us : List UnitRecord) (llid i : ℕ) → distinct (table_llids us) ≡ true → i < length us
    → has (get_or us i past_unit).identity llid ≡ true
    → find_from k us llid ≡ Some (k + i)
unfolding find_from table_llids has
from_own k [] llid i d h e = absurd (not-suc-le-zero h)
from_own k (u ∷ us) llid zero d h e = rw add-zero (pick_true _ _ e)
from_own k (u ∷ us) llid (suc i) d h e =
    let later = table_among us llid i (le_of_suc-le-suc h) e in
    let other : has u.identity llid ≡ false = not_both _ _ (distinct_apart (llids_of u.identity) (table_llids us) llid d) later in
    pick_false _ _ other
    ∙ from_own (suc k) us llid i (distinct_right (llids_of u.identity) (table_llids us) d) (le_of_suc-le-suc h) e
    ∙ ap Some (rw (suc-add, add-suc))

-- where no LLID stands twice, each unit is found by any of its LLIDs
pub find_own : (o : Olt) (llid i : ℕ) → distinct (table_llids (registered o)) ≡ true → Registered o llid i → find o llid ≡ Some i
unfolding find
find_own o llid i d r =
    let e : has (get_or (registered o) i past_unit).identity llid ≡ true = rw (get_or-take o.count o.units i past_unit r.used) r.has in
    rw zero-add at (from_own 0 (registered o) llid i d (omega (arith, length-take o.count o.units)) e)

-- an LLID that is found is one of the table's, and one that is found nowhere is not
pub among_found : (k : ℕ) (us : List UnitRecord) (llid i : ℕ) → find_from k us llid ≡ Some i → among llid (table_llids us) ≡ true
among_found k us llid i e = let m = from_at k us llid i e in table_among us llid (i - k) (omega (arith, m.low, m.high)) m.has

pub among_nowhere : (k : ℕ) (us : List UnitRecord) (llid : ℕ) → find_from k us llid ≡ None → among llid (table_llids us) ≡ false
unfolding find_from pick table_llids has among
among_nowhere k [] llid e = refl
among_nowhere k (u ∷ us) llid e = by_head (has u.identity llid) refl (among_nowhere (suc k) us llid) e where
  by_head : (t : Bool) → has u.identity llid ≡ t → (find_from (suc k) us llid ≡ None → among llid (table_llids us) ≡ false)
      → pick t (Some k) (find_from (suc k) us llid) ≡ None → among llid (llids_of u.identity ++ table_llids us) ≡ false
  by_head true h more f = let z : ◌≡◌ {A = ℕ} 0 1 = cc in absurd (omega arith)
  by_head false h more f = among_append llid (llids_of u.identity) (table_llids us) ∙ either_none h (more f)

pub registered_found : (o : Olt) (llid i : ℕ) → find o llid ≡ Some i → is_registered o llid ≡ true
unfolding find
registered_found o llid i e = among_found 0 (registered o) llid i e

pub registered_nowhere : (o : Olt) (llid : ℕ) → find o llid ≡ None → is_registered o llid ≡ false
unfolding find
registered_nowhere o llid e = among_nowhere 0 (registered o) llid e

-- 2 is for an LLID that is not the table's
pub found_number-holds : (us : List UnitRecord) (llid : ℕ) (x : Option ℕ) → x ≡ find_from 0 us llid
    → found_number x ≡ verdict_number (refuse_if (not (among llid (table_llids us))) UnknownLlid no_refusal)
found_number-holds us llid (Some i) e = sym (ap verdict_number (refuse_passed _ UnknownLlid no_refusal (not_of_true (among_found 0 us llid i (sym e)))))
found_number-holds us llid None e = sym (ap verdict_number (refuse_stopped _ UnknownLlid no_refusal (not_of_false (among_nowhere 0 us llid (sym e)))))

---- the table goes by the identities alone

abbrev pub identity_of : UnitRecord → Identity
identity_of u = u.identity

abbrev pub identities : Olt → List Identity
identities o = map identity_of o.units

pub from_same : (k : ℕ) (us vs : List UnitRecord) (llid : ℕ) → map identity_of us ≡ map identity_of vs → find_from k us llid ≡ find_from k vs llid
unfolding find_from
from_same k [] [] llid e = refl
from_same k [] (v ∷ vs) llid e = let z : ◌≡◌ {A = ℕ} 0 1 = cc in absurd (omega arith)
from_same k (u ∷ us) [] llid e = let z : ◌≡◌ {A = ℕ} 0 1 = cc in absurd (omega arith)
from_same k (u ∷ us) (v ∷ vs) llid e =
    let head : u.identity ≡ v.identity = cc in
    let tail : map identity_of us ≡ map identity_of vs = cc in
    rw (head, from_same (suc k) us vs llid tail)

pub llids_same : (us vs : List UnitRecord) → map identity_of us ≡ map identity_of vs → table_llids us ≡ table_llids vs
unfolding table_llids
llids_same [] [] e = refl
llids_same [] (v ∷ vs) e = let z : ◌≡◌ {A = ℕ} 0 1 = cc in absurd (omega arith)
llids_same (u ∷ us) [] e = let z : ◌≡◌ {A = ℕ} 0 1 = cc in absurd (omega arith)
llids_same (u ∷ us) (v ∷ vs) e =
    let head : u.identity ≡ v.identity = cc in
    let tail : map identity_of us ≡ map identity_of vs = cc in
    rw (head, llids_same us vs tail)

-- the two tables have the same units in the same places
pub record SameUnits (o p : Olt) : Type 0 where
  pub count : o.count ≡ p.count
  pub identities : identities o ≡ identities p

registered_same : (o p : Olt) → SameUnits o p → map identity_of (registered o) ≡ map identity_of (registered p)
registered_same o p s =
    map_take identity_of o.count o.units ∙ ap₂ (λ (n : ℕ) (l : List Identity). take n l) s.count s.identities
    ∙ sym (map_take identity_of p.count p.units)

pub find_same : (o p : Olt) (llid : ℕ) → SameUnits o p → find o llid ≡ find p llid
unfolding find
find_same o p llid s = from_same 0 (registered o) (registered p) llid (registered_same o p s)

pub table_same : (o p : Olt) → SameUnits o p → table_llids (registered o) ≡ table_llids (registered p)
table_same o p s = llids_same (registered o) (registered p) (registered_same o p s)

---- one unit replaced

pub with_unit-holds : (o : Olt) (i : ℕ) (c : Channels) (u : UnitRecord) → i < length o.units → unit_at (with_unit o i c u) i ≡ u
unfolding with_unit
with_unit-holds o i c u h = get_or-set_same o.units i u past_unit h

pub with_other : (o : Olt) (i j : ℕ) (c : Channels) (u : UnitRecord) → (j ≡ i → ⊥) → unit_at (with_unit o i c u) j ≡ unit_at o j
unfolding with_unit
with_other o i j c u h = get_or-set_other o.units i j u past_unit h

-- all else stays: MAC, tick, clock, count, and how many places there are
pub record Beside (o p : Olt) : Type 0 where
  pub mac : p.shared.mac ≡ o.shared.mac
  pub tick : p.shared.tick ≡ o.shared.tick
  pub clock : p.shared.clock ≡ o.shared.clock
  pub count : p.count ≡ o.count
  pub places : length p.units ≡ length o.units

pub with_beside : (o : Olt) (i : ℕ) (c : Channels) (u : UnitRecord) → Beside o (with_unit o i c u)
unfolding with_unit with_channels
with_beside o i c u = record { mac = refl; tick = refl; clock = refl; count = refl; places = length-set o.units i u }

pub with_channels-holds : (o : Olt) (i : ℕ) (c : Channels) (u : UnitRecord) → (with_unit o i c u).shared.channels ≡ c
unfolding with_unit with_channels
with_channels-holds o i c u = refl

pub with_same_units : (o : Olt) (i : ℕ) (c : Channels) (u : UnitRecord) → u.identity ≡ (unit_at o i).identity → SameUnits (with_unit o i c u) o
unfolding with_unit
with_same_units o i c u e = record { count = refl; identities = map-set_same identity_of o.units i u past_unit e }

-- a unit put where it stands
pub with_itself : (o : Olt) (i : ℕ) → with_unit o i o.shared.channels (unit_at o i) ≡ o
unfolding with_unit with_channels
with_itself o i = rw (set-get_or o.units i past_unit)

-- the later of two stays
pub with_twice : (o : Olt) (i : ℕ) (c d : Channels) (u v : UnitRecord) → with_unit (with_unit o i c u) i d v ≡ with_unit o i d v
unfolding with_unit with_channels
with_twice o i c d u v = rw (set-set o.units i u v)

---- one unit more

pub more_registered : (o : Olt) (u : UnitRecord) → o.count < length o.units → registered (with_one_more o u) ≡ registered o ++ (u ∷ [])
unfolding with_one_more
more_registered o u h = rw (add-one, take-suc-set o.units o.count u h)

pub more_unit : (o : Olt) (u : UnitRecord) → o.count < length o.units → unit_at (with_one_more o u) o.count ≡ u
unfolding with_one_more
more_unit o u h = get_or-set_same o.units o.count u past_unit h

pub more_other : (o : Olt) (u : UnitRecord) (j : ℕ) → (j ≡ o.count → ⊥) → unit_at (with_one_more o u) j ≡ unit_at o j
unfolding with_one_more
more_other o u j h = get_or-set_other o.units o.count j u past_unit h

pub more_places : (o : Olt) (u : UnitRecord) → length (with_one_more o u).units ≡ length o.units
unfolding with_one_more
more_places o u = length-set o.units o.count u
