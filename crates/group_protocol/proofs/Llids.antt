-- The LLIDs of groups as lists of numbers: where one stands, and one more. Assumes nothing.
use Rattle.std.specs.Prelude.{Option, Some, None}
use mathlib.Core.Path.{◌≡◌, refl, sym, ◌∙◌, ap}
use mathlib.Core.Bool.{true, false}
use mathlib.Core.List.{List, [], ◌∷◌, ◌++◌}
use Prim.Native.Nat.{ℕ, suc}
use lib.Dec.{eqb}
use lib.ListN.{take}
use Rattle.octets.specs.Choice.{pick}
use Rattle.octets.proofs.Choice.{either_none, either_false}
use Rattle.octets.proofs.Maps.{map_take}
use Rattle.ends.specs.Identities.{among, meets}
use Rattle.group_protocol.specs.GroupCalls.{is_found}
use Rattle.group_protocol.specs.Head.{group_from, group_llids}
use Rattle.group_protocol.specs.Members.{place_from}
use Rattle.group_protocol.specs.declared.GroupRecord.{GroupRecord}
use Rattle.group_protocol.proofs.Places.{place_among, place_absent}

-- a group is found by its LLID as a number in the list of them
pub group_place : (i : ℕ) (gs : List GroupRecord) (llid : ℕ) → group_from i gs llid ≡ place_from i (group_llids gs) llid
unfolding group_from place_from group_llids
group_place i [] llid = refl
group_place i (g ∷ gs) llid = ap (pick (eqb g.llid llid) (Some i)) (group_place (suc i) gs llid)

pub group_found : (i : ℕ) (gs : List GroupRecord) (llid j : ℕ) → group_from i gs llid ≡ Some j → among llid (group_llids gs) ≡ true
group_found i gs llid j e = place_among i llid (group_llids gs) j (sym (group_place i gs llid) ∙ e)

pub group_nowhere : (i : ℕ) (gs : List GroupRecord) (llid : ℕ) → group_from i gs llid ≡ None → among llid (group_llids gs) ≡ false
group_nowhere i gs llid e = place_absent i llid (group_llids gs) (sym (group_place i gs llid) ∙ e)

-- the group that is found tells whether there is one
pub found_among : (gs : List GroupRecord) (llid : ℕ) (f : Option ℕ) → f ≡ group_from 0 gs llid → is_found f ≡ among llid (group_llids gs)
unfolding is_found
found_among gs llid (Some j) e = sym (group_found 0 gs llid j (sym e))
found_among gs llid None e = sym (group_nowhere 0 gs llid (sym e))

pub llids_append : (a b : List GroupRecord) → group_llids (a ++ b) ≡ group_llids a ++ group_llids b
unfolding group_llids
llids_append [] b = refl
llids_append (g ∷ a) b = ap (λ (l : List ℕ). g.llid ∷ l) (llids_append a b)

-- those of the first groups
pub llids_first : (n : ℕ) (gs : List GroupRecord) → take n (group_llids gs) ≡ group_llids (take n gs)
unfolding group_llids
llids_first n gs = sym (map_take (λ (g : GroupRecord). g.llid) n gs)

-- one number more, which the other list does not have
pub meets_last : (xs : List ℕ) (x : ℕ) (ys : List ℕ) → meets xs ys ≡ false → among x ys ≡ false → meets (xs ++ (x ∷ [])) ys ≡ false
unfolding meets
meets_last [] x ys m a = either_none a refl
meets_last (y ∷ xs) x ys m a = let r = either_false _ _ m in either_none r.0 (meets_last xs x ys r.1 a)
