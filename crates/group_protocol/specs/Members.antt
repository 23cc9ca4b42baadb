-- The members of a group (02, C-14: 1 to 8 registered units as members; one acknowledgement per member). Assumes nothing.
use Rattle.std.specs.Prelude.{Bool, List, [], ◌∷◌, ℕ, suc, leb, ltb, eqb, get_or, set, replicate, Option, Some, None}
use Rattle.octets.specs.Choice.{both, pick}
use Rattle.octets.specs.Lists.{tabulate, all}
use Rattle.ends.specs.Identities.{distinct}
use Rattle.group_protocol.specs.Limits.{max_members}
use Rattle.group_protocol.specs.declared.Members.{Members}
use Rattle.group_protocol.specs.declared.Roster.{Roster}

-- the places of the members among the units (D39)
unfoldable pub places_of : Members → List ℕ
places_of m = tabulate 0 m.count (λ j. get_or m.places j 0)

unfoldable pub marks_of : Members → List ℕ
marks_of m = tabulate 0 m.count (λ j. get_or m.marks j 0)

-- the LLIDs by which a registration names members
unfoldable pub roster_llids : Roster → List ℕ
roster_llids r = tabulate 0 r.count (λ j. get_or r.llids j 0)

-- which place of a list has the number, counted from i
unfoldable pub place_from : ℕ → List ℕ → ℕ → Option ℕ
place_from i [] x = None
place_from i (y ∷ ys) x = pick (eqb y x) (Some i) (place_from (suc i) ys x)

-- which member the unit at that place is
unfoldable pub member_at : Members → ℕ → Option ℕ
member_at m place = place_from 0 (places_of m) place

abbrev pub no_marks : List ℕ
no_marks = replicate max_members 0

-- as it is kept: zeros in the places past the count, nobody has acknowledged
unfoldable pub fresh_members : List ℕ → ℕ → Members
fresh_members places count =
    record { places = tabulate 0 max_members (λ j. pick (ltb j count) (get_or places j 0) 0); marks = no_marks; count = count }

-- nobody has acknowledged
unfoldable pub unmarked : Members → Members
unmarked m = record { places = m.places; marks = no_marks; count = m.count }

-- member j has acknowledged
unfoldable pub marked : Members → ℕ → Members
marked m j = record { places = m.places; marks = set m.marks j 1; count = m.count }

-- of an OLT with that many units
unfoldable pub valid_members : ℕ → Members → Bool
valid_members units m =
    both (both (leb 1 m.count) (leb m.count max_members))  -- no member, or more than eight
    (both (all (λ place. ltb place units) (places_of m))  -- a member that names no unit
    (both (distinct (places_of m))  -- a unit twice
    (all (λ mark. leb mark 1) (marks_of m))))  -- flags outside their range
