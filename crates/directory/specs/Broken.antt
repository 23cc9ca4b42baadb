-- Which pair of a capture block b is broken, and what can be kept of the block (02, C-11). Assumes nothing.
use Rattle.std.specs.Prelude.{◌≡◌, true, false, List, [], ◌++◌, ℕ, zero, suc, ◌+◌, ◌≤◌, ◌<◌, Ok, Err}
use Rattle.octets.specs.BigEndian.{octets_of}
use Rattle.refusal.specs.declared.Refusal.TheVariants.{BadDirectory, BrokenChain, UnsuitedLength}
use Rattle.records.specs.Record.{sized}
use Rattle.records.specs.Block.{count_octets, directory_octets, records_in, length_of, record_of}
use Rattle.directory.specs.Directory.{chained, size_fits, directory_of}

-- the block is within its bounds, and its first m pairs keep both rules
pub record Keeps (b : List ℕ) (m : ℕ) : Type 0 where
  pub bounds : size_fits b ≡ true
  pub chain : (i : ℕ) → i < m → chained b i ≡ true
  pub lengths : (i : ℕ) → i < m → sized (record_of b i) ≡ true

-- the pair with i others before it is the first that breaks a rule, and it breaks that of the chain
pub record OffChainAt (b : List ℕ) (i : ℕ) : Type 0 where
  pub among : i < records_in b
  pub before : Keeps b i
  pub broken : chained b i ≡ false

-- or it keeps that of the chain, and breaks that of the length
pub record OffLengthAt (b : List ℕ) (i : ℕ) : Type 0 where
  pub among : i < records_in b
  pub before : Keeps b i
  pub kept : chained b i ≡ true
  pub broken : sized (record_of b i) ≡ false

-- where record i starts in a block of the first m records
unfoldable pub start_of : List ℕ → ℕ → ℕ → ℕ
start_of b m zero = directory_octets m
start_of b m (suc i) = start_of b m i + length_of b i

-- its directory: j pairs from pair i on
unfoldable pub pairs_rebuilt : List ℕ → ℕ → ℕ → ℕ → List ℕ
pairs_rebuilt b m i zero = []
pairs_rebuilt b m i (suc j) = octets_of 4 (start_of b m i) ++ (octets_of 4 (length_of b i) ++ pairs_rebuilt b m (suc i) j)

-- j records from record i on
unfoldable pub records_from : List ℕ → ℕ → ℕ → List ℕ
records_from b i zero = []
records_from b i (suc j) = record_of b i ++ records_from b (suc i) j

-- the block made of the first m records, its directory rebuilt
unfoldable pub trimmed : List ℕ → ℕ → List ℕ
trimmed b m = octets_of count_octets m ++ (pairs_rebuilt b m 0 m ++ records_from b 0 m)

-- what each verdict on the directory means, and conversely
pub record Judged (b : List ℕ) : Type 0 where
  -- a block is whole exactly if 01's arithmetic holds of it
  pub whole : (n : ℕ) → directory_of b ≡ Ok n → (n ≡ records_in b) × Keeps b n
  pub good : Keeps b (records_in b) → directory_of b ≡ Ok (records_in b)
  -- 15
  pub bounds : directory_of b ≡ Err BadDirectory → size_fits b ≡ false
  pub out_of_bounds : size_fits b ≡ false → directory_of b ≡ Err BadDirectory
  -- 18 and 19, with the pair's number
  pub off_chain : (i : ℕ) → directory_of b ≡ Err (BrokenChain (suc i)) → OffChainAt b i
  pub broken_chain : (i : ℕ) → OffChainAt b i → directory_of b ≡ Err (BrokenChain (suc i))
  pub off_length : (i : ℕ) → directory_of b ≡ Err (UnsuitedLength (suc i)) → OffLengthAt b i
  pub unsuited_length : (i : ℕ) → OffLengthAt b i → directory_of b ≡ Err (UnsuitedLength (suc i))
  -- the records before a broken pair make a whole block, and are in it as they were
  pub trimmable : (m : ℕ) → Keeps b m → m ≤ records_in b → directory_of (trimmed b m) ≡ Ok m
  pub same_records : (m i : ℕ) → Keeps b m → m ≤ records_in b → i < m → record_of (trimmed b m) i ≡ record_of b i
