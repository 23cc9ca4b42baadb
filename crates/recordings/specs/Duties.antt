-- What functions of this crate ask of each other: nothing here is part of a promise to a caller. Assumes nothing.
use Rattle.std.specs.Prelude.{◌≡◌, true, false, List, ◌⊎◌, ℕ, ◌≤◌, ◌<◌, get_or}
use Rattle.records.specs.Block.{most_records, records_in, record_of}
use Rattle.sameness.specs.Pairing.{paired, partner_of, distinct}

-- two blocks that are accepted have few records, and no two alike in either
pub record Comparable (a b : List ℕ) : Type 0 where
  pub few : records_in a ≤ most_records
  pub few_other : records_in b ≤ most_records
  pub once : distinct a ≡ true
  pub once_other : distinct b ≡ true

-- the table has the partners in b of the first n records of a
abbrev pub Listed : List ℕ → List ℕ → List ℕ → ℕ → Type 0
Listed table a b n = (i : ℕ) → i < n → get_or table i 0 ≡ partner_of (record_of a i) b

-- of the first n records of a, the one at place v pairs with r, or none does and v is their count in all
abbrev pub Met : List ℕ → List ℕ → ℕ → ℕ → Type 0
Met r a n v =
    ((v < n) × (paired r (record_of a v) ≡ true)) ⊎ ((v ≡ records_in a) × ((k : ℕ) → k < n → paired r (record_of a k) ≡ false))
