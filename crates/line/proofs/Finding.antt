-- Whether a group is found by its LLID, at the head end and at a unit that joined it. Assumes nothing.
use Rattle.std.specs.Prelude.{Some, None}
use mathlib.Core.Path.{◌≡◌, refl, sym, ◌∙◌, ap}
use mathlib.Core.Bool.{Bool, true, false}
use mathlib.Core.List.{List, [], ◌∷◌, ◌++◌}
use Prim.Native.Nat.{ℕ, suc, ◌+◌}
use native.Mathlib.Omega.{arith}
use lib.Dec.{eqb}
use lib.ListN.{length}
use Rattle.octets.specs.Choice.{pick}
use Rattle.octets.proofs.Choice.{either_false, pick_false}
use Rattle.ends.specs.Identities.{among}
use Rattle.group_protocol.specs.Members.{place_from}
use Rattle.group_protocol.specs.Head.{group_llids, registered_groups, find_group, is_group}
use Rattle.group_protocol.specs.Subscriber.{joined_llids, joined_groups, find_joined, has_joined}
use Rattle.group_protocol.specs.declared.HeadEnd.{HeadEnd}
use Rattle.group_protocol.specs.declared.Subscriber.{Subscriber}
use Rattle.group_protocol.proofs.Places.{at_nowhere, place_among, place_absent}
use Rattle.group_protocol.proofs.Llids.{group_place, group_found}

---- a number in a list

pub place_none : (k : ℕ) (l : List ℕ) (x : ℕ) → among x l ≡ false → place_from k l x ≡ None
unfolding place_from among
place_none k [] x e = refl
place_none k (y ∷ l) x e = let h = either_false _ _ e in pick_false (Some k) _ h.0 ∙ place_none (suc k) l x h.1

-- one number more is found last
pub place_before : (k : ℕ) (l ys : List ℕ) (x i : ℕ) → place_from k l x ≡ Some i → place_from k (l ++ ys) x ≡ Some i
unfolding place_from pick
place_before k [] ys x i e = at_nowhere i (sym e)
place_before k (y ∷ l) ys x i e = by_head (eqb y x) (place_before (suc k) l ys x i) e where
  by_head : (t : Bool) → (place_from (suc k) l x ≡ Some i → place_from (suc k) (l ++ ys) x ≡ Some i)
      → pick t (Some k) (place_from (suc k) l x) ≡ Some i
      → pick t (Some k) (place_from (suc k) (l ++ ys) x) ≡ Some i
  by_head true more f = f
  by_head false more f = more f

pub place_last : (k : ℕ) (l : List ℕ) (y x : ℕ) → place_from k l x ≡ None
    → place_from k (l ++ (y ∷ [])) x ≡ pick (eqb y x) (Some (k + length l)) None
unfolding place_from pick
place_last k [] y x e = ap (λ (n : ℕ). pick (eqb y x) (Some n) None) (omega arith)
place_last k (z ∷ l) y x e = by_head (eqb z x) (place_last (suc k) l y x) e where
  by_head : (t : Bool) → (place_from (suc k) l x ≡ None → place_from (suc k) (l ++ (y ∷ [])) x ≡ pick (eqb y x) (Some (suc k + length l)) None)
      → pick t (Some k) (place_from (suc k) l x) ≡ None
      → pick t (Some k) (place_from (suc k) (l ++ (y ∷ [])) x) ≡ pick (eqb y x) (Some (k + suc (length l))) None
  by_head true more f = at_nowhere k f
  by_head false more f = more f ∙ ap (λ (n : ℕ). pick (eqb y x) (Some n) None) (omega arith)

---- the groups of a head end

pub group_among : (h : HeadEnd) (llid i : ℕ) → find_group h llid ≡ Some i → is_group h llid ≡ true
unfolding find_group
group_among h llid i e = group_found 0 (registered_groups h) llid i e

pub group_none : (h : HeadEnd) (llid : ℕ) → is_group h llid ≡ false → find_group h llid ≡ None
unfolding find_group
group_none h llid e = group_place 0 (registered_groups h) llid ∙ place_none 0 (group_llids (registered_groups h)) llid e

---- the groups that a unit joined

pub joined_among : (x : Subscriber) (llid i : ℕ) → find_joined x llid ≡ Some i → has_joined x llid ≡ true
unfolding find_joined
joined_among x llid i e = place_among 0 llid (joined_llids (joined_groups x)) i e

pub joined_nowhere : (x : Subscriber) (llid : ℕ) → find_joined x llid ≡ None → has_joined x llid ≡ false
unfolding find_joined
joined_nowhere x llid e = place_absent 0 llid (joined_llids (joined_groups x)) e

pub joined_none : (x : Subscriber) (llid : ℕ) → has_joined x llid ≡ false → find_joined x llid ≡ None
unfolding find_joined
joined_none x llid e = place_none 0 (joined_llids (joined_groups x)) llid e
