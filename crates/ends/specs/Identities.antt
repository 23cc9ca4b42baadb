-- A unit's MAC and LLIDs (01, Keys). Assumes nothing.
use Rattle.std.specs.Prelude.{ℕ, Bool, true, false, not, List, [], ◌∷◌, replicate, ◌==◌, nat_le, nat_lt, slice_index}
use Rattle.octets.specs.Choice.{both, either, pick}
use Rattle.octets.specs.Lists.{tabulate}
use Rattle.ends.specs.Limits.{mac_turn, max_llids}
use Rattle.ends.specs.declared.Identity.{Identity}

-- x is in the list
unfoldable pub among : ℕ → List ℕ → Bool
among x [] = false
among x (y ∷ ys) = either (y == x) (among x ys)

-- one of the first list is in the second
unfoldable pub meets : List ℕ → List ℕ → Bool
meets [] ys = false
meets (x ∷ xs) ys = either (among x ys) (meets xs ys)

-- no number stands twice in the list
unfoldable pub distinct : List ℕ → Bool
distinct [] = true
distinct (x ∷ xs) = both (not (among x xs)) (distinct xs)

abbrev pub no_identity : Identity
no_identity = record { mac = 0; llids = replicate max_llids 0; count = 0 }

unfoldable pub llids_of : Identity → List ℕ
llids_of i = tabulate 0 i.count (λ j. slice_index i.llids j)

unfoldable pub has : Identity → ℕ → Bool
has i llid = among llid (llids_of i)

-- as it is kept: zeros in the places past the count
unfoldable pub kept : Identity → Identity
kept i =
    record {
      mac = i.mac;
      llids = tabulate 0 max_llids (λ j. pick (nat_lt j i.count) (slice_index i.llids j) 0);
      count = i.count;
    }

unfoldable pub valid_mac : ℕ → Bool
valid_mac mac = nat_lt mac mac_turn

-- the ranges alone
unfoldable pub valid_identity : Identity → Bool
valid_identity i = both (valid_mac i.mac) (both (nat_le 1 i.count) (nat_le i.count max_llids))
