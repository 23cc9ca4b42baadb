-- One step of a walk along LLIDs and units, and its end: what the loops of this crate go by. Assumes nothing.
use Rattle.std.specs.Prelude.{Option, Some, None}
use Rattle.std.proofs.Common.{◌≡◌, ℕ, suc, ◌+◌, ◌<◌, ◌≤◌, Bool, true, false, List, [], ◌∷◌, ◌++◌, map, length, get_or, take, drop, set, sym, refl, ap, ◌∙◌, append_assoc, append-nil, add-one, arith, length-take-le, take-append-drop, take-suc, get_or-take, take-suc-set, drop_of_length-le, eq-eqb, ne_eqb, leb-true}
use lib.ListN.{length-map}
use Rattle.octets.specs.Choice.{either, pick}
use Rattle.octets.proofs.Choice.{both_left, both_right, either_left}
use Rattle.octets.proofs.Lists.{tabulate_ext, tabulate_self}
use Rattle.octets.proofs.Maps.{map_at}
use Rattle.octets.proofs.Steps.{drop_step, first_step, first_end}
use Rattle.ends.specs.Limits.{max_llids}
use Rattle.ends.specs.Identities.{among, distinct, has, llids_of, meets, valid_identity}
use Rattle.ends.specs.Table.{find_from, found_or, table_llids}
use Rattle.ends.specs.Validity.{valid_unit}
use Rattle.ends.specs.declared.Identity.{Identity}
use Rattle.ends.specs.declared.UnitRecord.{UnitRecord}
use Rattle.ends.proofs.Identities.{distinct_again, meets_append, meets_nil}

-- an array whose elements are read one by one is as long as what is read
pub length_mapped : {A B : Type 0} (f : A → B) (l : List A) (n : ℕ) → length (map f l) ≡ n → length l ≡ n
length_mapped f l n e = sym (length-map l f) ∙ e

-- the identity at a place of those that were gathered
pub identity_at : (is : List Identity) (us : List UnitRecord) (i : ℕ) (d : UnitRecord) (e : Identity) → is ≡ map (λ (u : UnitRecord). u.identity) us
    → i < length us → get_or is i e ≡ (get_or us i d).identity
identity_at is us i d e t h = rw t (map_at (λ (u : UnitRecord). u.identity) us i d e h)

---- along a list

pub among_drop_hit : (x : ℕ) (l : List ℕ) (i : ℕ) → i < length l → get_or l i 0 ≡ x → among x (drop i l) ≡ true
unfolding among either
among_drop_hit x l i h e = rw (drop_step l i 0 h, eq-eqb _ _ e)

pub among_drop_miss : (x : ℕ) (l : List ℕ) (i : ℕ) → i < length l → (get_or l i 0 ≡ x → ⊥) → among x (drop i l) ≡ among x (drop (i + 1) l)
unfolding among either
among_drop_miss x l i h e = rw (drop_step l i 0 h, ne_eqb _ _ e)

pub among_drop_end : (x : ℕ) (l : List ℕ) (i : ℕ) → length l ≤ i → among x (drop i l) ≡ false
unfolding among
among_drop_end x l i h = rw (drop_of_length-le l h)

-- one number put behind the first n + j
pub take_more : (l : List ℕ) (n j x : ℕ) → n + j < length l → take (n + (j + 1)) (set l (n + j) x) ≡ take (n + j) l ++ (x ∷ [])
take_more l n j x h = let e : n + (j + 1) ≡ suc (n + j) = omega arith in rw (e, take-suc-set l (n + j) x h)

-- the first j of a list stand behind others, and the next one is among all of them
pub taken_again : (before now xs : List ℕ) (j : ℕ) → now ≡ before ++ take j xs → j < length xs → among (get_or xs j 0) now ≡ true
    → distinct (before ++ xs) ≡ false
taken_again before now xs j e h a =
    let rest = drop (j + 1) xs in
    let split : xs ≡ take j xs ++ (get_or xs j 0 ∷ rest) = sym (take-append-drop j xs) ∙ ap (λ (l : List ℕ). take j xs ++ l) (drop_step xs j 0 h) in
    let all_of : before ++ xs ≡ now ++ (get_or xs j 0 ∷ rest) = ap (λ (l : List ℕ). before ++ l) split ∙ rw (e, append_assoc) in
    ap distinct all_of ∙ distinct_again now (get_or xs j 0) rest a

-- the next one is put behind them
pub taken_more : (before now xs : List ℕ) (n j : ℕ) → take (n + j) now ≡ before ++ take j xs → n + j < length now → j < length xs
    → take (n + (j + 1)) (set now (n + j) (get_or xs j 0)) ≡ before ++ take (j + 1) xs
taken_more before now xs n j e h k = rw (take_more now n j (get_or xs j 0) h, e, append_assoc, add-one, take-suc xs j 0 k)

-- the LLIDs of an identity that has no more than it may
pub llids_taken : (i : Identity) → i.count ≤ length i.llids → llids_of i ≡ take i.count i.llids
unfolding llids_of
llids_taken i h =
    let len : length (take i.count i.llids) ≡ i.count = length-take-le i.count i.llids h in
    tabulate_ext 0 i.count _ _ (λ k a b. sym (get_or-take i.count i.llids k 0 (omega arith)))
    ∙ rw len at (tabulate_self (take i.count i.llids) 0)

---- along the first n of a list

pub find_hit : (n : ℕ) (l : List UnitRecord) (i : ℕ) (d : UnitRecord) (llid : ℕ) → i < n → i < length l → has (get_or l i d).identity llid ≡ true
    → find_from i (drop i (take n l)) llid ≡ Some i
unfolding find_from pick
find_hit n l i d llid h k e = rw (first_step n l i d h k, e)

pub find_miss : (n : ℕ) (l : List UnitRecord) (i : ℕ) (d : UnitRecord) (llid : ℕ) → i < n → i < length l
    → has (get_or l i d).identity llid ≡ false
    → find_from i (drop i (take n l)) llid ≡ find_from (i + 1) (drop (i + 1) (take n l)) llid
unfolding find_from pick
find_miss n l i d llid h k e = rw (first_step n l i d h k, e, add-one)

-- the unit at i is passed, and none before it is forgotten
pub find_step : (n : ℕ) (l : List UnitRecord) (i : ℕ) (d : UnitRecord) (llid : ℕ) (f : Option ℕ) → i < n → i < length l
    → found_or f (find_from i (drop i (take n l)) llid)
    ≡ found_or (found_or f (pick (has (get_or l i d).identity llid) (Some i) None)) (find_from (i + 1) (drop (i + 1) (take n l)) llid)
unfolding pick
find_step n l i d llid (Some k) h m = refl
find_step n l i d llid None h m = by_case (has (get_or l i d).identity llid) refl where
  by_case : (t : Bool) → has (get_or l i d).identity llid ≡ t
      → find_from i (drop i (take n l)) llid ≡ found_or (pick t (Some i) None) (find_from (i + 1) (drop (i + 1) (take n l)) llid)
  by_case true p = find_hit n l i d llid h m p
  by_case false p = find_miss n l i d llid h m p

pub found_or_nowhere : (f : Option ℕ) → found_or f None ≡ f
found_or_nowhere (Some i) = refl
found_or_nowhere None = refl

pub find_none : (i : ℕ) (l : List UnitRecord) (llid : ℕ) → l ≡ [] → find_from i l llid ≡ None
unfolding find_from
find_none i l llid e = rw e

pub one_unit : (u : UnitRecord) → table_llids (u ∷ []) ≡ llids_of u.identity
unfolding table_llids
one_unit u = append-nil (llids_of u.identity)

pub llids_step : (n : ℕ) (l : List UnitRecord) (i : ℕ) (d : UnitRecord) → i < n → i < length l
    → table_llids (drop i (take n l)) ≡ llids_of (get_or l i d).identity ++ table_llids (drop (i + 1) (take n l))
unfolding table_llids
llids_step n l i d h k = rw (first_step n l i d h k)

pub llids_end : (n : ℕ) (l : List UnitRecord) (i : ℕ) → n ≤ i → table_llids (drop i (take n l)) ≡ []
unfolding table_llids
llids_end n l i h = rw (first_end n l i h)

---- whether a list meets the LLIDs of the first n units

pub table_hit : (xs : List ℕ) (n : ℕ) (l : List UnitRecord) (i : ℕ) (d : UnitRecord) → i < n → i < length l
    → meets xs (llids_of (get_or l i d).identity) ≡ true → meets xs (table_llids (drop i (take n l))) ≡ true
table_hit xs n l i d h k e = rw (llids_step n l i d h k, meets_append) (either_left _ e)

pub table_miss : (xs : List ℕ) (n : ℕ) (l : List UnitRecord) (i : ℕ) (d : UnitRecord) → i < n → i < length l
    → meets xs (llids_of (get_or l i d).identity) ≡ false
    → meets xs (table_llids (drop i (take n l))) ≡ meets xs (table_llids (drop (i + 1) (take n l)))
unfolding either
table_miss xs n l i d h k e = rw (llids_step n l i d h k, meets_append, e)

pub table_none : (xs : List ℕ) (us : List UnitRecord) → us ≡ [] → meets xs (table_llids us) ≡ false
unfolding table_llids
table_none xs us e = rw e (meets_nil xs)

---- validity

pub unit_few : (tick : ℕ) (u : UnitRecord) → valid_unit tick u ≡ true → u.identity.count ≤ max_llids
unfolding valid_unit valid_identity
unit_few tick u e = leb-true _ _ (both_right _ _ (both_right _ _ (both_left _ _ e)))
