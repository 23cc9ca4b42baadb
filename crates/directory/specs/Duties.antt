-- What functions of this crate ask of each other: nothing here is part of a promise to a caller. Assumes nothing.
use Rattle.std.specs.Prelude.{◌≡◌, List, ℕ, ◌+◌, ◌≤◌, ◌<◌, length}
use Rattle.records.specs.Record.{record_octets, record_header}
use Rattle.records.specs.Block.{directory_octets, records_in, offset_of, length_of, due_of, record_of}

-- pair i is one of n and goes from `from` to `to`, and its record is due at `due`
pub record Due (b : List ℕ) (n i due from to : ℕ) : Type 0 where
  pub count : n ≡ records_in b
  pub before : i < n
  pub place : due ≡ due_of b i
  pub start : from ≡ offset_of b i
  pub end : to ≡ offset_of b i + length_of b i

-- pair i and its record are in the block, and the record is as long as its EQs say
pub record Placed (b : List ℕ) (i : ℕ) : Type 0 where
  pub pair : directory_octets (i + 1) ≤ length b
  pub inside : offset_of b i + length_of b i ≤ length b
  pub octets : length (record_of b i) ≡ length_of b i
  pub size : length_of b i ≡ record_octets (record_header (record_of b i)).eqs
