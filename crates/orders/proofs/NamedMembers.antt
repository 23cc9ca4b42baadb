-- What a group sees of its members comes from their LLIDs and clock acknowledgements alone. Assumes nothing.
use Rattle.std.specs.Prelude.{Option, Some, None}
use mathlib.Core.Path.{◌≡◌, refl, sym, ap, ap₂, ◌∙◌}
use mathlib.Core.Bool.{Bool, true, false}
use mathlib.Core.List.{List, [], ◌∷◌, map}
use Prim.Native.Nat.{ℕ, suc, ◌<◌}
use lib.Dec.{eqb, ltb}
use lib.ListN.{length, get_or-eq_default}
use borrow.Author.Tests.{eq-eqb, ltb-false, ltb-true, ne_eqb}
use Rattle.octets.specs.Choice.{both, pick}
use Rattle.octets.specs.Lists.{all}
use Rattle.octets.proofs.Choice.{both_left, both_right, true_false}
use Rattle.ends.specs.Flags.{is_up}
use Rattle.ends.specs.Identities.{among, distinct, has, llids_of}
use Rattle.ends.specs.Table.{find, past_unit, registered, table_llids, unit_at}
use Rattle.ends.specs.declared.Olt.{Olt}
use Rattle.ends.specs.declared.UnitRecord.{UnitRecord}
use Rattle.ends.proofs.Table.{find_at, find_own}
use Rattle.group_protocol.specs.GroupCalls.{member_found, member_named, members_set}
use Rattle.group_protocol.specs.Members.{member_at, place_from, places_of, valid_members}
use Rattle.group_protocol.specs.declared.Answer.{Answer}
use Rattle.group_protocol.specs.declared.Members.{Members}
use Rattle.group_protocol.proofs.Places.{at_nowhere}
use Rattle.orders.specs.Locality.{MemberPart, member_part}

abbrev parts_of : Olt → List ℕ → List MemberPart
parts_of o ps = map (λ place. member_part (unit_at o place)) ps

---- whether each clock is acknowledged

set_parts : (o : Olt) (ps : List ℕ)
    → all (λ place. is_up (unit_at o place).clock.acknowledged) ps ≡ all (λ (x : MemberPart). is_up x.acknowledged) (parts_of o ps)
unfolding all
set_parts o [] = refl
set_parts o (x ∷ ps) = ap (both (is_up (unit_at o x).clock.acknowledged)) (set_parts o ps)

pub members_set_same : (o k : Olt) (m n : Members) → parts_of o (places_of m) ≡ parts_of k (places_of n) → members_set o m ≡ members_set k n
unfolding members_set
members_set_same o k m n e =
    set_parts o (places_of m) ∙ ap (all (λ (x : MemberPart). is_up x.acknowledged)) e ∙ sym (set_parts k (places_of n))

---- which member is named

-- the first that has the LLID, its place counted from i
unfoldable having_from : ℕ → List MemberPart → ℕ → Option ℕ
having_from i [] llid = None
having_from i (x ∷ xs) llid = pick (among llid x.llids) (Some i) (having_from (suc i) xs llid)

-- a unit that has an LLID is in the table
has_place : (o : Olt) (llid q : ℕ) → has (unit_at o q).identity llid ≡ true → q < length o.units
unfolding has llids_of among past_unit
has_place o llid q e = by_length (ltb q (length o.units)) refl where
  by_length : (t : Bool) → ltb q (length o.units) ≡ t → q < length o.units
  by_length true h = ltb-true _ _ h
  by_length false h =
      true_false (sym e ∙ ap (λ (u : UnitRecord). has u.identity llid) (get_or-eq_default o.units past_unit (ltb-false _ _ h)))

module _ (o : Olt) (llid : ℕ) (d : distinct (table_llids (registered o)) ≡ true) where
  has_found : (q : ℕ) → q < o.count → has (unit_at o q).identity llid ≡ true → find o llid ≡ Some q
  has_found q used h = find_own o llid q d (record { used = used; place = has_place o llid q h; has = h })

  -- a registered unit has the LLID where it is the one that is found
  at_has : (p q : ℕ) → find o llid ≡ Some p → q < o.count → eqb q p ≡ has (unit_at o q).identity llid
  at_has p q f used = by_has (has (unit_at o q).identity llid) refl where
    by_has : (t : Bool) → has (unit_at o q).identity llid ≡ t → eqb q p ≡ t
    by_has true h = let z : Some q ≡ Some p = sym (has_found q used h) ∙ f in let e : q ≡ p = cc in eq-eqb q p e
    by_has false h = ne_eqb q p (λ e. true_false (sym (find_at o llid p f).has ∙ ap (λ (x : ℕ). has (unit_at o x).identity llid) (sym e) ∙ h))

  nowhere_has : (q : ℕ) → find o llid ≡ None → q < o.count → has (unit_at o q).identity llid ≡ false
  nowhere_has q f used = by_has (has (unit_at o q).identity llid) refl where
    by_has : (t : Bool) → has (unit_at o q).identity llid ≡ t → t ≡ false
    by_has false h = refl
    by_has true h = at_nowhere q (sym (has_found q used h) ∙ f)

  found_having : (i p : ℕ) (ps : List ℕ) → find o llid ≡ Some p → all (λ place. ltb place o.count) ps ≡ true
      → place_from i ps p ≡ having_from i (parts_of o ps) llid
  unfolding place_from having_from all has
  found_having i p [] f v = refl
  found_having i p (q ∷ ps) f v =
      ap₂ (λ (t : Bool) (x : Option ℕ). pick t (Some i) x) (at_has p q f (ltb-true _ _ (both_left _ _ v))) (found_having (suc i) p ps f (both_right _ _ v))

  nowhere_having : (i : ℕ) (ps : List ℕ) → find o llid ≡ None → all (λ place. ltb place o.count) ps ≡ true
      → None ≡ having_from i (parts_of o ps) llid
  unfolding having_from all has pick
  nowhere_having i [] f v = refl
  nowhere_having i (q ∷ ps) f v =
      nowhere_having (suc i) ps f (both_right _ _ v)
      ∙ ap (λ (t : Bool). pick t (Some i) (having_from (suc i) (parts_of o ps) llid)) (sym (nowhere_has q f (ltb-true _ _ (both_left _ _ v))))

  member_having : (m : Members) → all (λ place. ltb place o.count) (places_of m) ≡ true
      → member_found m (find o llid) ≡ having_from 0 (parts_of o (places_of m)) llid
  unfolding member_found member_at
  member_having m v = by_found (find o llid) refl where
    by_found : (f : Option ℕ) → find o llid ≡ f → member_found m f ≡ having_from 0 (parts_of o (places_of m)) llid
    by_found None e = nowhere_having 0 (places_of m) e v
    by_found (Some p) e = found_having 0 p (places_of m) e v

placed : (units : ℕ) (m : Members) → valid_members units m ≡ true → all (λ place. ltb place units) (places_of m) ≡ true
unfolding valid_members
placed units m v = both_left _ _ (both_right _ _ v)

pub member_named_same : (o k : Olt) (m n : Members) (a : Answer) → distinct (table_llids (registered o)) ≡ true
    → distinct (table_llids (registered k)) ≡ true → valid_members o.count m ≡ true → valid_members k.count n ≡ true
    → parts_of o (places_of m) ≡ parts_of k (places_of n) → member_named o m a ≡ member_named k n a
unfolding member_named
member_named_same o k m n a d e v w same =
    ap (λ (f : Option ℕ). pick (is_up a.named) f None)
    (member_having o a.unit d m (placed o.count m v)
    ∙ ap (λ (l : List MemberPart). having_from 0 l a.unit) same
    ∙ sym (member_having k a.unit e n (placed k.count n w)))
