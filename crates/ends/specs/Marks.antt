-- Marks by which a number is looked for in a growing list without a search: the LLIDs of a table are told apart so. No clause of 01
-- speaks of them: 01 wants no LLID twice (D118). Assumes nothing.
use Rattle.std.specs.Prelude.{◌≡◌, ℕ, ◌+◌, ◌-◌, ◌*◌, ◌/◌, ◌%◌, ◌≤◌, Bool, false, List, length, ◌==◌, ◌≢◌, slice_index}
use Rattle.octets.specs.Choice.{pick}
use Rattle.ends.specs.Identities.{among}

abbrev pub mark_places : ℕ
mark_places = 256

-- the mark of a place that several numbers of the list have
abbrev pub crowded : ℕ
crowded = 255

-- the place of a number's mark: the upper octet of a product of 16 bits, so that numbers in a row, or alike modulo 256, have places apart
unfoldable pub mark_place : ℕ → ℕ
mark_place x = x * 40503 % 65536 / mark_places

-- the mark left at a place, by the mark that stood there and the number's own place in the list
unfoldable pub next_mark : ℕ → ℕ → ℕ
next_mark mark k = pick (mark == 0) (k + 1) crowded

-- whether x is in the list, by the mark at its place: 0 where no number of the list has that place, k + 1 where the k-th alone has it
unfoldable pub by_mark : List ℕ → ℕ → ℕ → Bool
by_mark l x mark = pick (mark == 0) false (pick (mark == crowded) (among x l) (slice_index l (mark - 1) == x))

-- a mark that names a number of the list
abbrev pub Names : List ℕ → ℕ → Type 0
Names l mark = (mark ≢ crowded) → mark ≤ length l

-- the marks tell of each number whether it is in the list
pub record Marked (l marks : List ℕ) : Type 0 where
  pub places : length marks ≡ mark_places
  pub names : (x : ℕ) → Names l (slice_index marks (mark_place x))
  pub tells : (x : ℕ) → among x l ≡ by_mark l x (slice_index marks (mark_place x))
