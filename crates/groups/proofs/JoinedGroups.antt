-- Laws of the groups that a unit joined: steps along their table, and what validity says of each. Assumes nothing.
use Rattle.std.specs.Prelude.{Some, None}
use mathlib.Core.Path.{◌≡◌, refl}
use mathlib.Core.Bool.{Bool, true, false, not}
use mathlib.Core.List.{List, [], ◌∷◌}
use Prim.Native.Nat.{ℕ, ◌+◌, ◌-◌, ◌<◌, ◌≤◌, min}
use native.Mathlib.Numerals.{add-one}
use native.Mathlib.Omega.{arith}
use lib.Dec.{eqb}
use lib.ListN.{length, get_or, take, drop, length-drop, length-take, drop_of_length-le}
use Rattle.std.proofs.lemmas.List.{take_all}
use Rattle.octets.specs.Choice.{both, either, pick}
use Rattle.octets.specs.Lists.{all}
use Rattle.octets.proofs.Steps.{drop_step, first_step}
use Rattle.ends.specs.Identities.{among, distinct, meets}
use Rattle.group_protocol.specs.Members.{place_from}
use Rattle.group_protocol.specs.Subscriber.{fits_before, joined_llids, past_joined, valid_groups_of, valid_joined}
use Rattle.group_protocol.specs.declared.Joined.{Joined}
use Rattle.group_protocol.proofs.Subscribers.{groups_none}

---- where one of the first n has an LLID

pub joined_next : (n : ℕ) (l : List Joined) (i x : ℕ) → i < n → i < length l
    → place_from i (joined_llids (drop i (take n l))) x
    ≡ pick (eqb (get_or l i past_joined).llid x) (Some i) (place_from (i + 1) (joined_llids (drop (i + 1) (take n l))) x)
unfolding place_from joined_llids
joined_next n l i x h k = rw (first_step n l i past_joined h k, add-one)

pub joined_last : (n : ℕ) (l : List Joined) (i x : ℕ) → min n (length l) ≤ i → place_from i (joined_llids (drop i (take n l))) x ≡ None
unfolding place_from joined_llids
joined_last n l i x h =
    let none : drop i (take n l) ≡ [] = drop_of_length-le (take n l) (simp length-take (omega arith)) in rw none

---- validity along the first n

-- the groups are valid where the first fits before the others, and they are valid
pub groups_cons : (own : List ℕ) (j : Joined) (js : List Joined) → valid_groups_of own (j ∷ js) ≡ both (fits_before own j js) (valid_groups_of own js)
unfolding valid_groups_of fits_before all distinct meets joined_llids both either
groups_cons own j js =
    by_tests (valid_joined j) (all valid_joined js) (among j.llid (joined_llids js)) (distinct (joined_llids js)) (among j.llid own) _ where
      by_tests : (v a g d o m : Bool)
          → both (both v a) (both (both (not g) d) (not (either o m))) ≡ both (both v (both (not g) (not o))) (both a (both d (not m)))
      by_tests false a g d o m = refl
      by_tests true true true d o m = refl
      by_tests true true false true true m = refl
      by_tests true true false true false m = refl
      by_tests true true false false true m = refl
      by_tests true true false false false m = refl
      by_tests true false true d o m = refl
      by_tests true false false d true m = refl
      by_tests true false false d false m = refl

-- the first of those from i on, beside the slice of those behind it
pub groups_next : (own : List ℕ) (l : List Joined) (i : ℕ) → i < length l
    → valid_groups_of own (drop i l)
    ≡ both (fits_before own (get_or l i past_joined) (take (length l - (i + 1)) (drop (i + 1) l))) (valid_groups_of own (drop (i + 1) l))
groups_next own l i h =
    let behind : take (length l - (i + 1)) (drop (i + 1) l) ≡ drop (i + 1) l =
    take_all (length l - (i + 1)) (drop (i + 1) l) (simp length-drop (omega arith)) in
    rw (behind, drop_step l i past_joined h) (groups_cons own (get_or l i past_joined) (drop (i + 1) l))

pub groups_last : (own : List ℕ) (l : List Joined) (i : ℕ) → length l ≤ i → valid_groups_of own (drop i l) ≡ true
groups_last own l i h = groups_none own (drop i l) (drop_of_length-le l h)
