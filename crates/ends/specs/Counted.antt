-- A row of a fixed length of which so many places are in use: the LLIDs of a unit, the members of a group. Assumes nothing.
use Rattle.std.specs.Prelude.{ℕ, Bool, true, not, ◌&&◌, List, [], ◌∷◌, slice_index_or}
use Rattle.std.specs.List.{list_any}
use Rattle.octets.specs.Lists.{tabulate}

-- the first `count` elements; a place past the row's end counts as `none`
abbrev pub counted : {A : Type 0} → List A → ℕ → A → List A
counted row count none = tabulate 0 count (λ j. slice_index_or row j none)

-- no element stands twice, by a test of two
abbrev pub distinct_by : {A : Type 0} → (A → A → Bool) → List A → Bool
distinct_by same [] = true
distinct_by same (x ∷ xs) = not (list_any (λ y. same y x) xs) && distinct_by same xs
