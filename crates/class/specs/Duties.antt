-- What functions of this crate ask of each other: nothing here is part of a promise to a caller. Assumes nothing.
use Rattle.std.specs.Prelude.{◌≡◌, Bool, true, List, ◌++◌, ℕ, ◌+◌, ◌*◌, ◌/◌, ◌%◌, ◌≤◌, ◌<◌, length, take, drop, Ok}
use Rattle.octets.specs.Choice.{pick}
use Rattle.octets.specs.Lists.{part}
use Rattle.envelope.specs.ControlMask.{count_enciphered, runs}
use Rattle.cipher.specs.KeyExpansion.{key_expansion}
use Rattle.records.specs.declared.header.Header.{Header}
use Rattle.records.specs.Settings.{settings_keys, key_of}
use Rattle.records.specs.Record.{record_octets}
use Rattle.records.specs.Block.{most_octets, records_in, header_from}
use Rattle.envelope.specs.declared.Work.{Work}
use Rattle.capture.specs.declared.opening.Read.{Read}
use Rattle.directory.specs.Directory.{directory_of}
use Rattle.capture.specs.Duties.{Opens}
use Rattle.rights.specs.declared.settings.Caller.{Caller}
use Rattle.rights.specs.declared.judging.ClassVerdict.{ClassVerdict}
use Rattle.rights.specs.declared.judging.ClassVerdict.TheVariants.{Told}
use Rattle.rights.specs.Settings.{most_sets, set_of, set_for}
use Rattle.class.specs.Reading.{drift_for}
use Rattle.class.specs.Opening.{added_for, total_for, is_expanded}
use Rattle.records.specs.Verdict.{RecordVerdict}
use Rattle.records.specs.declared.header.Access.TheVariants.{Sealed}

-- the octets of an expanded key
abbrev pub expanded_octets : ℕ
expanded_octets = 176

-- and of all: two for each of 16 sets
abbrev pub keys_octets : ℕ
keys_octets = expanded_octets * (settings_keys * most_sets)

-- key k, expanded, among all
abbrev pub expanded_at : List ℕ → ℕ → List ℕ
expanded_at keys k = part keys (expanded_octets * k) expanded_octets

-- each of the first m keys that is to be expanded is there
pub record Expanded (c : Caller) (s q keys : List ℕ) (m : ℕ) : Type 0 where
  pub there : (k : ℕ) → k < m → is_expanded c s q k ≡ true
      → expanded_at keys k ≡ key_expansion (key_of (set_of s (k / settings_keys)) (k % settings_keys))

-- key k is there once it was its turn, those before it stay, and r tells whether it was expanded
pub record ExpandedNext (c : Caller) (s q keys next : List ℕ) (k r : ℕ) : Type 0 where
  pub size : length next ≡ length keys
  pub kept : (m : ℕ) → m < k → expanded_at next m ≡ expanded_at keys m
  pub there : is_expanded c s q k ≡ true → expanded_at next k ≡ key_expansion (key_of (set_of s (k / settings_keys)) (k % settings_keys))
  pub told : r ≡ pick (is_expanded c s q k) 1 0

-- what a record adds, as the verdict has it
pub record TookFor (x : List ℕ) (v : ClassVerdict) (r : Work) : Type 0 where
  pub count : r.count ≡ added_for count_enciphered x v
  pub runs : r.runs ≡ added_for runs x v

-- what all records of a block came to
pub record TookAllFor (near : Bool) (c : Caller) (s q b : List ℕ) (r : Read) : Type 0 where
  pub count : r.work.count ≡ total_for near c s q b count_enciphered
  pub runs : r.work.runs ≡ total_for near c s q b runs
  pub drift : r.drift ≡ drift_for near c s q b (records_in b)

-- a record starts at `from` in the block, and the output still is the block from there on
pub record Ready (b out : List ℕ) (from : ℕ) : Type 0 where
  pub inside : from + record_octets (header_from b from).eqs ≤ length b
  pub size : length out ≡ length b
  pub most : length b ≤ most_octets
  pub same : drop from out ≡ drop from b

-- h is the header of the record that starts at `from`, and under v it can be opened with a key that is expanded
pub record SettledAs (s keys b : List ℕ) (j from : ℕ) (h : Header) (v : RecordVerdict) : Type 0 where
  pub header : h ≡ header_from b from
  pub opens : (i t : ℕ) → v ≡ Ok (Sealed i t) → Opens (set_of s j) h i t
  pub key : (i t : ℕ) → v ≡ Ok (Sealed i t) → expanded_at keys (settings_keys * j + i) ≡ key_expansion (key_of (set_of s j) i)

-- v is a verdict on it for a user
pub record SettledFor (c : Caller) (s keys b : List ℕ) (from : ℕ) (h : Header) (v : ClassVerdict) : Type 0 where
  pub header : h ≡ header_from b from
  pub told : (w : RecordVerdict) → v ≡ Told w → SettledAs s keys b (set_for c s h.llid) from h w
  pub set : (w : RecordVerdict) → v ≡ Told w → set_for c s h.llid < most_sets

-- the output up to the record that starts at `from`, that record as x has it, and the block behind it
abbrev pub placed_at : List ℕ → List ℕ → ℕ → List ℕ → List ℕ
placed_at b out from x = take from out ++ (x ++ drop (from + record_octets (header_from b from).eqs) b)

-- the output is a copy of a block of n records, and the keys are expanded
pub record Copied (c : Caller) (s q keys b out : List ℕ) (n : ℕ) : Type 0 where
  pub expanded : Expanded c s q keys (settings_keys * c.sets)
  pub good : directory_of b ≡ Ok n
  pub copied : out ≡ b
  pub few : c.sets ≤ most_sets
  pub size : length keys ≡ keys_octets
