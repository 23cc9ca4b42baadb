-- What reading with a clock that is known only nearly is worth (02, C-18): where the reader's clock follows the sender's, a block is
-- read as if the clock were exact. Assumes nothing.
use Rattle.std.specs.Prelude.{◌≡◌, true, List, ◌++◌, ℕ, ◌+◌, ◌<◌, length, take, drop}
use Rattle.octets.specs.BigEndian.{octets_of}
use Rattle.octets.specs.Lists.{part}
use Rattle.records.specs.Settings.{llid_of}
use Rattle.records.specs.Verdict.{verdict_of}
use Rattle.records.specs.Block.{records_in, record_of}
use Rattle.records.specs.Near.{own}
use Rattle.records.specs.Following.{header_of, near_verdict, Follows, slipped_settings, slipped_block, slipped_sent}
use Rattle.reading.specs.Opening.{open_verdict, opening}
use Rattle.reading.specs.Listing.{listing_of}
use Rattle.directory.specs.Rebuilt.{rebuilt}
use Rattle.reading.specs.Reading.{opening_by, listing_by}
use Rattle.refusal.specs.Verdict.{no_refusal}

-- the place of a record's clock field, and its octets
abbrev pub clock_at : ℕ
clock_at = 6

abbrev pub clock_octets : ℕ
clock_octets = 6

-- the octets in the clock field of a record, and a record with these octets there
abbrev pub clock_field : List ℕ → List ℕ
clock_field r = part r clock_at clock_octets

unfoldable pub with_field : List ℕ → List ℕ → List ℕ
with_field r field = take clock_at r ++ (field ++ drop (clock_at + clock_octets) r)

-- a block with the octets field i in the clock field of record i
abbrev pub with_fields : (ℕ → List ℕ) → List ℕ → List ℕ
with_fields field b = rebuilt (λ i. with_field (record_of b i) (field i)) b

-- with the sender's clocks in them; the sender's clock at record i is sent i
abbrev pub as_sent : (ℕ → ℕ) → List ℕ → List ℕ
as_sent sent b = with_fields (λ i. octets_of clock_octets (sent i)) b

-- with the clocks that the block b has there
abbrev pub as_recorded : List ℕ → List ℕ → List ℕ
as_recorded b o = with_fields (λ i. clock_field (record_of b i)) o

-- the near way of reading the block b is the usual way of reading that block with the sender's clocks in it
pub record AsIfExact (sent : ℕ → ℕ) (s b out : List ℕ) : Type 0 where
  -- every result
  pub verdicts : (i : ℕ) → i < records_in b → near_verdict s b i ≡ verdict_of s (record_of (as_sent sent b) i)
  -- count, runs and expansions
  pub answer : (opening_by true s b out).answer.opened ≡ (opening s (as_sent sent b) out).answer
  -- every octet of the output, but that the clock fields stay as recorded
  pub output : (opening_by true s b out).output ≡ as_recorded b (opening s (as_sent sent b) out).output
  pub listing : listing_by true s b ≡ listing_of s (as_sent sent b)

-- at each header past 1 and 2 the reader's clock follows the sender's
abbrev pub ClockFollows : (ℕ → ℕ) → List ℕ → List ℕ → Type 0
ClockFollows sent s b = (i : ℕ) → i < records_in b → own (llid_of s) (header_of b i) ≡ true → Follows sent s b i

-- the promise, of a call that is accepted (D87)
abbrev pub ReadsAsExact : List ℕ → List ℕ → List ℕ → Type 0
ReadsAsExact s b out = (sent : ℕ → ℕ) → open_verdict s b (length out) ≡ no_refusal → ClockFollows sent s b → AsIfExact sent s b out

-- and that there is a block to which it applies: records/Following has it
pub record NotEmpty : Type 0 where
  pub accepted : open_verdict slipped_settings slipped_block (length slipped_block) ≡ no_refusal
  pub follows : ClockFollows slipped_sent slipped_settings slipped_block
