-- Laws of a subscriber: the group that a call names, and what keeps a subscriber valid. Assumes nothing.
use Rattle.std.specs.Prelude.{Some}
use mathlib.Core.Path.{◌≡◌, refl, sym, ◌∙◌, ap}
use mathlib.Core.Bool.{true, false}
use mathlib.Core.List.{List, [], ◌∷◌, ◌++◌, map-append}
use Prim.Native.Nat.{ℕ, ◌+◌, ◌-◌, ◌≤◌, ◌<◌}
use native.Mathlib.Numerals.{add-one}
use native.Mathlib.Omega.{arith}
use lib.ListN.{length, take, set, length-take, length-map, get_or-map}
use lib.Seq.{set-get_or, get_or-take, take-set-lt, take-suc-set, map-set_same}
use Rattle.octets.specs.Choice.{both, either}
use Rattle.octets.specs.Lists.{all}
use Rattle.octets.proofs.Choice.{both_left, both_right, both_true}
use Rattle.octets.proofs.Tests.{all_one, all_set, all_append}
use Rattle.ends.specs.Identities.{among, distinct, meets, llids_of}
use Rattle.ends.specs.Validity.{valid_onu_keys, valid_onu}
use Rattle.ends.specs.declared.Onu.{Onu}
use Rattle.ends.proofs.Identities.{distinct_more}
use Rattle.ends.proofs.Validity.{facts, tests}
use Rattle.group_protocol.specs.Limits.{max_joined}
use Rattle.group_protocol.specs.Subscriber.{fresh_joined, joined_groups, joined_llids, has_joined, find_joined, past_joined, joined_at, with_onu, with_joined, with_one_joined_more, no_memberships, alone, valid_joined, valid_groups_of, valid_memberships, valid_subscriber}
use Rattle.group_protocol.specs.declared.Joined.{Joined}
use Rattle.group_protocol.specs.declared.Subscriber.{Subscriber}
use Rattle.group_protocol.proofs.Places.{place_at}
use Rattle.group_protocol.proofs.Llids.{meets_last}

---- the group that a call names

-- a place in use, whose group has the LLID
pub record JoinedPlace (s : Subscriber) (llid i : ℕ) : Type 0 where
  pub used : i < s.memberships.count
  pub placed : i < length s.memberships.table
  pub has : (joined_at s i).llid ≡ llid

pub found_place : (s : Subscriber) (llid i : ℕ) → find_joined s llid ≡ Some i → JoinedPlace s llid i
unfolding find_joined joined_llids past_joined
found_place s llid i e =
    let m = place_at 0 (joined_llids (joined_groups s)) llid i e in
    let n : i - 0 ≡ i = omega arith in
    let l : i < length (joined_groups s) = omega (arith, m.below, length-map (joined_groups s) (λ (j : Joined). j.llid)) in
    let used : i < s.memberships.count = omega (arith, length-take s.memberships.count s.memberships.table) in
    record {
      used = used;
      placed = omega (arith, length-take s.memberships.count s.memberships.table);
      has =
          rw (get_or-take s.memberships.count s.memberships.table i past_joined used)
          at (sym (get_or-map (λ (j : Joined). j.llid) (joined_groups s) i past_joined) ∙ rw n at m.has);
    }

---- what validity says

pub record Joins (s : Subscriber) : Type 0 where
  pub few : s.memberships.count ≤ max_joined
  pub each : all valid_joined (joined_groups s) ≡ true
  pub distinct : distinct (joined_llids (joined_groups s)) ≡ true
  pub apart : meets (joined_llids (joined_groups s)) (llids_of s.onu.identity) ≡ false

pub memberships_valid : (s : Subscriber) → valid_memberships s ≡ true → Joins s
unfolding valid_memberships valid_groups_of
memberships_valid s e = search facts

pub valid_memberships-holds : (s : Subscriber) → Joins s → valid_memberships s ≡ true
unfolding valid_memberships valid_groups_of
valid_memberships-holds s r = search tests

pub valid_unit-holds : (s : Subscriber) → valid_subscriber s ≡ true → valid_onu s.onu ≡ true
unfolding valid_subscriber
valid_unit-holds s v = both_left _ _ v

pub valid_joins : (s : Subscriber) → valid_subscriber s ≡ true → valid_memberships s ≡ true
unfolding valid_subscriber
valid_joins s v = both_right _ _ v

pub valid_both : (s : Subscriber) → valid_onu s.onu ≡ true → valid_memberships s ≡ true → valid_subscriber s ≡ true
unfolding valid_subscriber
valid_both s u m = both_true u m

-- a group that a valid subscriber joined is valid
pub found_valid : (s : Subscriber) (llid i : ℕ) → valid_memberships s ≡ true → find_joined s llid ≡ Some i → valid_joined (joined_at s i) ≡ true
found_valid s llid i v e =
    let p = found_place s llid i e in
    all_one valid_joined s.memberships.count s.memberships.table past_joined (memberships_valid s v).each i p.used p.placed

-- and stands at one of the places
pub found_below-holds : (s : Subscriber) (llid i : ℕ) → valid_memberships s ≡ true → find_joined s llid ≡ Some i → i < max_joined
found_below-holds s llid i v e = omega (arith, (found_place s llid i e).used, (memberships_valid s v).few)

---- one group replaced, or more by one

-- the unit's own part stays
pub with_joined_unit : (s : Subscriber) (i : ℕ) (j : Joined) → (with_joined s i j).onu ≡ s.onu
unfolding with_joined
with_joined_unit s i j = refl

-- a group put where it stands
pub with_itself : (s : Subscriber) (i : ℕ) → with_joined s i (joined_at s i) ≡ s
unfolding with_joined
with_itself s i = rw (set-get_or s.memberships.table i past_joined)

-- a group with the LLID of the one whose place it takes
pub with_joined_valid : (s : Subscriber) (i : ℕ) (j : Joined) → i < s.memberships.count → j.llid ≡ (joined_at s i).llid → valid_joined j ≡ true
    → valid_memberships s ≡ true → valid_memberships (with_joined s i j) ≡ true
unfolding with_joined joined_llids
with_joined_valid s i j h e v w =
    let r = memberships_valid s w in
    let n = s.memberships.count in
    let l = s.memberships.table in
    let taken = take-set-lt n l i j h in
    let same : joined_llids (set (take n l) i j) ≡ joined_llids (take n l) =
    map-set_same (λ (x : Joined). x.llid) (take n l) i j past_joined (rw (get_or-take n l i past_joined h) e) in
    let each = all_set valid_joined (take n l) i j r.each v in
    valid_memberships-holds (with_joined s i j)
    (record { few = r.few; each = rw taken each; distinct = rw (taken, same) r.distinct; apart = rw (taken, same) r.apart })

-- one group more, whose LLID the unit does not hold
pub one_more_valid : (s : Subscriber) (j : Joined) → s.memberships.count < max_joined → s.memberships.count < length s.memberships.table
    → has_joined s j.llid ≡ false → among j.llid (llids_of s.onu.identity) ≡ false → valid_joined j ≡ true → valid_memberships s ≡ true
    → valid_memberships (with_one_joined_more s j) ≡ true
unfolding with_one_joined_more joined_llids all
one_more_valid s j few h new other v w =
    let r = memberships_valid s w in
    let n = s.memberships.count in
    let l = s.memberships.table in
    let grown : take (n + 1) (set l n j) ≡ take n l ++ (j ∷ []) = rw (add-one, take-suc-set l n j h) in
    let llids : joined_llids (take (n + 1) (set l n j)) ≡ joined_llids (take n l) ++ (j.llid ∷ []) =
    ap joined_llids grown ∙ map-append (λ (x : Joined). x.llid) (take n l) (j ∷ []) in
    valid_memberships-holds (with_one_joined_more s j)
    (record {
      few = omega arith;
      each = rw grown (all_append valid_joined (take n l) (j ∷ []) r.each (both_true v refl));
      distinct = rw llids (distinct_more (joined_llids (take n l)) j.llid r.distinct new);
      apart = rw llids (meets_last (joined_llids (take n l)) j.llid (llids_of s.onu.identity) r.apart other);
    })

pub fresh_joined_valid : (llid : ℕ) → valid_joined (fresh_joined llid) ≡ true
unfolding valid_joined fresh_joined valid_onu_keys both either
fresh_joined_valid llid = refl

pub groups_none : (own : List ℕ) (l : List Joined) → l ≡ [] → valid_groups_of own l ≡ true
unfolding valid_groups_of all distinct meets joined_llids both
groups_none own l e = rw e

-- a unit without groups
pub alone_valid : (o : Onu) → valid_memberships (alone o) ≡ true
unfolding alone no_memberships valid_memberships
alone_valid o = both_true refl (groups_none (llids_of o.identity) _ refl)

-- a unit that keeps its identity
pub with_onu_valid : (s : Subscriber) (o : Onu) → o.identity ≡ s.onu.identity → valid_memberships s ≡ true → valid_memberships (with_onu s o) ≡ true
unfolding with_onu valid_memberships
with_onu_valid s o e v = rw e v
