-- What functions of this crate ask of each other: nothing here is part of a promise to a caller. Assumes nothing.
use Rattle.std.specs.Prelude.{◌≡◌, Bool, true, List, ◌++◌, ℕ, ◌+◌, ◌-◌, ◌%◌, ◌≤◌, ◌<◌, length, take, drop, Ok}
use Rattle.octets.specs.BigEndian.{six_octets}
use Rattle.octets.specs.Eqs.{eq_octets}
use Rattle.envelope.specs.ControlMask.{count_enciphered, runs}
use Rattle.cipher.specs.KeyExpansion.{key_expansion}
use Rattle.records.specs.declared.header.Header.{Header}
use Rattle.records.specs.Settings.{settings_keys, presence_of, key_present, key_of}
use Rattle.records.specs.Record.{header_octets, record_octets}
use Rattle.records.specs.Verdict.{header_fits, RecordVerdict}
use Rattle.records.specs.Block.{most_octets, records_in, header_from, record_from}
use Rattle.directory.specs.Directory.{directory_of}
use Rattle.capture.specs.declared.opening.Keys.{Keys}
use Rattle.envelope.specs.declared.Work.{Work}
use Rattle.capture.specs.declared.opening.Read.{Read}
use Rattle.reading.specs.Opening.{added_as, written_as}
use Rattle.reading.specs.Reading.{drift_by, total_by}
use Rattle.records.specs.declared.header.Access.TheVariants.{Sealed}

-- r is what sealing or opening the payload p takes
pub record Took (p : List ℕ) (r : Work) : Type 0 where
  pub count : r.count ≡ count_enciphered p
  pub runs : r.runs ≡ runs p

-- what a record adds, as the verdict has it
pub record TookAs (x : List ℕ) (v : RecordVerdict) (r : Work) : Type 0 where
  pub count : r.count ≡ added_as count_enciphered x v
  pub runs : r.runs ≡ added_as runs x v

-- what all records of a block came to
pub record TookAll (near : Bool) (s b : List ℕ) (r : Read) : Type 0 where
  pub count : r.work.count ≡ total_by near count_enciphered s b
  pub runs : r.work.runs ≡ total_by near runs s b
  pub drift : r.drift ≡ drift_by near s b (records_in b)

-- a record lies from `from` to `to` in the block and in the output
pub record Span (b out : List ℕ) (from to : ℕ) : Type 0 where
  pub header : from + header_octets ≤ to
  pub whole : (to - (from + header_octets)) % eq_octets ≡ 0
  pub inside : to ≤ length b
  pub size : length out ≡ length b
  pub most : length b ≤ most_octets

-- the present keys of the settings s, expanded
pub record Expanded (s : List ℕ) (keys : Keys) : Type 0 where
  pub first : key_present (presence_of s) 0 ≡ true → keys.first.octets ≡ key_expansion (key_of s 0)
  pub second : key_present (presence_of s) 1 ≡ true → keys.second.octets ≡ key_expansion (key_of s 1)

-- a record starts at `from` in the block, and the output still is the block from there on
pub record Ready (s : List ℕ) (keys : Keys) (b out : List ℕ) (from : ℕ) : Type 0 where
  pub expanded : Expanded s keys
  pub inside : from + record_octets (header_from b from).eqs ≤ length b
  pub size : length out ≡ length b
  pub most : length b ≤ most_octets
  pub same : drop from out ≡ drop from b

-- a record with the header h can be opened under key i at the clock t
pub record Opens (s : List ℕ) (h : Header) (i t : ℕ) : Type 0 where
  pub fits : header_fits h ≡ true
  pub present : key_present (presence_of s) i ≡ true
  pub index : i < settings_keys
  pub clock : t < six_octets

-- h is the header of the record that starts at `from`, and v a verdict on it
pub record Settled (s b : List ℕ) (from : ℕ) (h : Header) (v : RecordVerdict) : Type 0 where
  pub header : h ≡ header_from b from
  pub opens : (i t : ℕ) → v ≡ Ok (Sealed i t) → Opens s h i t

-- the output out up to the record that starts at `from`, that record as the verdict v has it written, and the block behind it
abbrev pub written : List ℕ → List ℕ → List ℕ → ℕ → RecordVerdict → List ℕ
written s b out from v =
    take from out ++ (written_as s (record_from b from) v ++ drop (from + record_octets (header_from b from).eqs) b)

-- the output is a copy of a block of n records
pub record Copied (s : List ℕ) (keys : Keys) (b out : List ℕ) (n : ℕ) : Type 0 where
  pub expanded : Expanded s keys
  pub good : directory_of b ≡ Ok n
  pub copied : out ≡ b
