-- Which keys' messages a unit has taken, and what it has of one group replaced. Assumes nothing.
use Rattle.std.specs.Prelude.{Option, Some, None}
use mathlib.Core.Path.{◌≡◌, refl, sym, ◌∙◌, ap}
use mathlib.Core.Bool.{Bool, true, false}
use mathlib.Core.List.{List, [], ◌∷◌, ◌++◌, map}
use mathlib.Core.Logic.{◌⊎◌, inl, inr, ⊎_elim}
use Prim.Native.Nat.{ℕ}
use lib.Dec.{eqb}
use lib.ListN.{take, set}
use lib.Seq.{get_or-set_same, get_or-set_other, map-set_same}
use borrow.Author.Tests.{eqb-true, ne_eqb}
use Rattle.octets.specs.Choice.{both, either, pick}
use Rattle.octets.proofs.Choice.{both_left, both_right, both_true, both_false_left, either_left, either_right, either_cases, pick_true, pick_false, true_false}
use Rattle.octets.proofs.Maps.{map_take, map_same}
use Rattle.ends.specs.Identities.{among}
use Rattle.ends.proofs.Identities.{among_append, among_head}
use Rattle.group_protocol.specs.Members.{place_from}
use Rattle.group_protocol.specs.Subscriber.{fresh_joined, joined_llids, joined_groups, find_joined, joined_at, past_joined, with_joined}
use Rattle.group_protocol.specs.declared.Joined.{Joined}
use Rattle.group_protocol.specs.declared.Subscriber.{Subscriber}
use Rattle.group_protocol.proofs.Subscribers.{found_place}
use Rattle.group_protocol.specs.Naming.{by_llid}
use Rattle.line.specs.History.{Membership, is_joined, has_taken, taking}
use Rattle.line.proofs.Invariant.{joined_for}

---- what was taken

-- only of what was joined
pub taken_joined : (ms : List Membership) (llid n : ℕ) → has_taken ms llid n ≡ true → is_joined ms llid ≡ true
unfolding has_taken is_joined among
taken_joined [] llid n e = e
taken_joined (m ∷ ms) llid n e =
    ⊎_elim (λ h. either_left _ (both_left _ _ h)) (λ h. either_right _ (taken_joined ms llid n h)) (either_cases _ _ e)

abbrev noting : ℕ → ℕ → Membership → Membership
noting llid n m = pick (eqb m.llid llid) (record { llid = m.llid; took = m.took ++ (n ∷ []) }) m

noting_llid : (llid n : ℕ) (m : Membership) → (noting llid n m).llid ≡ m.llid
unfolding pick
noting_llid llid n m = by_test (eqb m.llid llid) where
  by_test : (t : Bool) → (pick t (record { llid = m.llid; took = m.took ++ (n ∷ []) }) m).llid ≡ m.llid
  by_test true = refl
  by_test false = refl

pub taking_llids : (llid n : ℕ) (ms : List Membership) → map (λ (m : Membership). m.llid) (taking llid n ms) ≡ map (λ (m : Membership). m.llid) ms
unfolding taking
taking_llids llid n ms = map_same (noting llid n) (λ (m : Membership). m.llid) (noting_llid llid n) ms

pub taking_other : (llid n y k : ℕ) (ms : List Membership) → (y ≡ llid → ⊥) → has_taken (taking llid n ms) y k ≡ has_taken ms y k
unfolding taking has_taken
taking_other llid n y k [] d = refl
taking_other llid n y k (m ∷ ms) d = by_test (eqb m.llid llid) refl (taking_other llid n y k ms d) where
  by_test : (t : Bool) → eqb m.llid llid ≡ t → has_taken (taking llid n ms) y k ≡ has_taken ms y k
      → either (both (eqb (noting llid n m).llid y) (among k (noting llid n m).took)) (has_taken (taking llid n ms) y k)
      ≡ either (both (eqb m.llid y) (among k m.took)) (has_taken ms y k)
  by_test false e rest = rw (pick_false (record { llid = m.llid; took = m.took ++ (n ∷ []) }) m e, rest)
  by_test true e rest =
      let differs : m.llid ≡ y → ⊥ = λ z. d (sym z ∙ eqb-true m.llid llid e) in
      rw (pick_true (record { llid = m.llid; took = m.took ++ (n ∷ []) }) m e, rest)
      (ap (λ (b : Bool). either b (has_taken ms y k)) (both_false_left _ (ne_eqb m.llid y differs) ∙ sym (both_false_left _ (ne_eqb m.llid y differs))))

among_more : (k n : ℕ) (l : List ℕ) → among k l ≡ true → among k (l ++ (n ∷ [])) ≡ true
among_more k n l e = among_append k l (n ∷ []) ∙ either_left _ e

among_last : (n : ℕ) (l : List ℕ) → among n (l ++ (n ∷ [])) ≡ true
among_last n l = among_append n l (n ∷ []) ∙ either_right _ (among_head n [])

among_cases : (k n : ℕ) (l : List ℕ) → among k (l ++ (n ∷ [])) ≡ true → (among k l ≡ true) ⊎ (k ≡ n)
unfolding among
among_cases k n l e =
    ⊎_elim (λ h. inl h) (λ h. ⊎_elim (λ q. inr (sym (eqb-true n k q))) (λ q. true_false (sym q)) (either_cases _ _ h))
    (either_cases _ _ (sym (among_append k l (n ∷ [])) ∙ e))

-- one step along the memberships
module _ (llid n y k : ℕ) (m : Membership) (ms : List Membership) where
  abbrev here : Membership → Bool
  here x = both (eqb x.llid y) (among k x.took)

  here_stays : here m ≡ true → here (noting llid n m) ≡ true
  unfolding pick
  here_stays e = by_test (eqb m.llid llid) where
    by_test : (t : Bool) → here (pick t (record { llid = m.llid; took = m.took ++ (n ∷ []) }) m) ≡ true
    by_test true = both_true (both_left _ _ e) (among_more k n m.took (both_right _ _ e))
    by_test false = e

  here_cases : here (noting llid n m) ≡ true → (here m ≡ true) ⊎ (k ≡ n)
  unfolding pick
  here_cases = by_test (eqb m.llid llid) where
    by_test : (t : Bool) → here (pick t (record { llid = m.llid; took = m.took ++ (n ∷ []) }) m) ≡ true → (here m ≡ true) ⊎ (k ≡ n)
    by_test true e = ⊎_elim (λ h. inl (both_true (both_left _ _ e) h)) (λ h. inr h) (among_cases k n m.took (both_right _ _ e))
    by_test false e = inl e

pub taking_stays : (llid n y k : ℕ) (ms : List Membership) → has_taken ms y k ≡ true → has_taken (taking llid n ms) y k ≡ true
unfolding taking has_taken
taking_stays llid n y k [] e = e
taking_stays llid n y k (m ∷ ms) e =
    ⊎_elim (λ h. either_left _ (here_stays llid n y k m ms h)) (λ h. either_right _ (taking_stays llid n y k ms h)) (either_cases _ _ e)

pub taking_cases : (llid n y k : ℕ) (ms : List Membership) → has_taken (taking llid n ms) y k ≡ true → (has_taken ms y k ≡ true) ⊎ (k ≡ n)
unfolding taking has_taken
taking_cases llid n y k [] e = inl e
taking_cases llid n y k (m ∷ ms) e =
    ⊎_elim (λ h. ⊎_elim (λ q. inl (either_left _ q)) (λ q. inr q) (here_cases llid n y k m ms h))
    (λ h. ⊎_elim (λ q. inl (either_right _ q)) (λ q. inr q) (taking_cases llid n y k ms h)) (either_cases _ _ e)

pub taking_new : (llid n : ℕ) (ms : List Membership) → is_joined ms llid ≡ true → has_taken (taking llid n ms) llid n ≡ true
unfolding taking has_taken is_joined among
taking_new llid n [] e = e
taking_new llid n (m ∷ ms) e =
    ⊎_elim
    (λ h.
    either_left _
    (ap (λ (x : Membership). both (eqb x.llid llid) (among n x.took)) (pick_true (record { llid = m.llid; took = m.took ++ (n ∷ []) }) m h)
    ∙ both_true h (among_last n m.took)))
    (λ h. either_right _ (taking_new llid n ms h)) (either_cases _ _ e)

---- one group that it joined replaced

module _ (x : Subscriber) (llid i : ℕ) (j : Joined) (found : find_joined x llid ≡ Some i) (named : j.llid ≡ llid) where
  pub with_llids : joined_llids (joined_groups (with_joined x i j)) ≡ joined_llids (joined_groups x)
  unfolding with_joined joined_llids
  with_llids =
      let n = x.memberships.count in
      let l = x.memberships.table in
      map_take (λ (y : Joined). y.llid) n (set l i j)
      ∙ ap (take n) (map-set_same (λ (y : Joined). y.llid) l i j past_joined (named ∙ sym (found_place x llid i found).has))
      ∙ sym (map_take (λ (y : Joined). y.llid) n l)

  with_finds : (y : ℕ) → find_joined (with_joined x i j) y ≡ find_joined x y
  unfolding find_joined
  with_finds y = ap (λ (l : List ℕ). place_from 0 l y) with_llids

  pub with_own : joined_for (with_joined x i j) llid ≡ j
  unfolding joined_for by_llid with_joined
  with_own =
      ap (λ (f : Option ℕ). by_llid f (fresh_joined llid) (joined_at (with_joined x i j))) (with_finds llid ∙ found)
      ∙ get_or-set_same x.memberships.table i j past_joined (found_place x llid i found).placed

  pub with_other : (y : ℕ) → (y ≡ llid → ⊥) → joined_for (with_joined x i j) y ≡ joined_for x y
  unfolding joined_for by_llid with_joined
  with_other y d = by_found (find_joined x y) refl where
    by_found : (f : Option ℕ) → find_joined x y ≡ f → joined_for (with_joined x i j) y ≡ joined_for x y
    by_found None e =
        ap (λ (z : Option ℕ). by_llid z (fresh_joined y) (joined_at (with_joined x i j))) (with_finds y ∙ e)
        ∙ sym (ap (λ (z : Option ℕ). by_llid z (fresh_joined y) (joined_at x)) e)
    by_found (Some k) e =
        let differs : k ≡ i → ⊥ = λ z. d (sym (found_place x y k e).has ∙ ap (λ (n : ℕ). (joined_at x n).llid) z
        ∙ (found_place x llid i found).has) in
        ap (λ (z : Option ℕ). by_llid z (fresh_joined y) (joined_at (with_joined x i j))) (with_finds y ∙ e)
        ∙ get_or-set_other x.memberships.table i k j past_joined differs
        ∙ sym (ap (λ (z : Option ℕ). by_llid z (fresh_joined y) (joined_at x)) e)

-- what it has of a group that it joined
pub joined_for_at : (x : Subscriber) (llid i : ℕ) → find_joined x llid ≡ Some i → joined_for x llid ≡ joined_at x i
unfolding joined_for by_llid
joined_for_at x llid i e = ap (λ (f : Option ℕ). by_llid f (fresh_joined llid) (joined_at x)) e
