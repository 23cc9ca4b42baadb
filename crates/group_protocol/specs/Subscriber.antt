-- The groups that a unit joined, and when a subscriber is valid (02, C-14: a unit joins by a call with the group's LLID). Assumes nothing.
use Rattle.std.specs.Prelude.{Bool, not, List, [], map, ℕ, ◌+◌, leb, eqb, take, get_or, set, replicate, Option}
use Rattle.octets.specs.Choice.{both, either}
use Rattle.octets.specs.Lists.{all}
use Rattle.ends.specs.Keys.{no_slots}
use Rattle.ends.specs.Identities.{among, distinct, meets, llids_of}
use Rattle.ends.specs.Validity.{valid_onu_keys, valid_onu}
use Rattle.ends.specs.declared.Onu.{Onu}
use Rattle.group_protocol.specs.Limits.{max_joined}
use Rattle.group_protocol.specs.Members.{place_from}
use Rattle.group_protocol.specs.declared.Joined.{Joined}
use Rattle.group_protocol.specs.declared.Memberships.{Memberships}
use Rattle.group_protocol.specs.declared.Subscriber.{Subscriber}

-- a group just joined: no key is held
unfoldable pub fresh_joined : ℕ → Joined
fresh_joined llid = record { keys = record { active = 0; held = 0; slots = no_slots }; kept = 0; llid = llid }

---- the table

-- the groups in use are the first `count`
abbrev pub joined_groups : Subscriber → List Joined
joined_groups s = take s.memberships.count s.memberships.table

unfoldable pub joined_llids : List Joined → List ℕ
joined_llids js = map (λ (j : Joined). j.llid) js

abbrev pub has_joined : Subscriber → ℕ → Bool
has_joined s llid = among llid (joined_llids (joined_groups s))

-- the first group that has the LLID
unfoldable pub find_joined : Subscriber → ℕ → Option ℕ
find_joined s llid = place_from 0 (joined_llids (joined_groups s)) llid

-- what stands for a group past the end of the list
unfoldable pub past_joined : Joined
past_joined = record { keys = record { active = 0; held = 0; slots = record { even = []; odd = [] } }; kept = 0; llid = 0 }

abbrev pub joined_at : Subscriber → ℕ → Joined
joined_at s i = get_or s.memberships.table i past_joined

---- a subscriber with a part replaced

unfoldable pub with_onu : Subscriber → Onu → Subscriber
with_onu s o = record { onu = o; memberships = s.memberships }

unfoldable pub with_joined : Subscriber → ℕ → Joined → Subscriber
with_joined s i j = record { onu = s.onu; memberships = record { count = s.memberships.count; table = set s.memberships.table i j } }

-- one group more, in the first place that is not in use
unfoldable pub with_one_joined_more : Subscriber → Joined → Subscriber
with_one_joined_more s j =
    record {
      onu = s.onu;
      memberships = record { count = s.memberships.count + 1; table = set s.memberships.table s.memberships.count j };
    }

unfoldable pub no_memberships : Memberships
no_memberships = record { count = 0; table = replicate max_joined (fresh_joined 0) }

-- a unit that joined no group
unfoldable pub alone : Onu → Subscriber
alone o = record { onu = o; memberships = no_memberships }

---- when it is valid. Beside each line stands the cause of 1 that it excludes

unfoldable pub valid_joined : Joined → Bool
valid_joined j =
    both (valid_onu_keys j.keys)  -- flag outside its range; key a + 1 held at a = 2^32 - 1
    (both (leb j.kept 1)  -- flag outside its range
    (either (eqb j.kept 0) (leb 1 j.keys.active)))  -- key a held with a = 0

-- the groups of a unit with those LLIDs of its own
unfoldable pub valid_groups_of : List ℕ → List Joined → Bool
valid_groups_of own js =
    both (all valid_joined js)
    (both (distinct (joined_llids js))  -- a joined LLID that is another's
    (not (meets (joined_llids js) own)))  -- a joined LLID that is an own one

-- a group ahead of others: it is valid, and its LLID neither one of theirs nor an own one
unfoldable pub fits_before : List ℕ → Joined → List Joined → Bool
fits_before own j js = both (valid_joined j) (both (not (among j.llid (joined_llids js))) (not (among j.llid own)))

unfoldable pub valid_memberships : Subscriber → Bool
valid_memberships s =
    both (leb s.memberships.count max_joined)  -- more than four groups
    (valid_groups_of (llids_of s.onu.identity) (joined_groups s))

unfoldable pub valid_subscriber : Subscriber → Bool
valid_subscriber s = both (valid_onu s.onu) (valid_memberships s)
