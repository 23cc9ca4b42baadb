-- What holds of every block that is rearranged and restored (02, C-12). Assumes nothing.
use Rattle.std.specs.Prelude.{◌≡◌, true, List, ℕ, ◌<◌, length, take}
use Rattle.planes.specs.Planes.{rearranged, restored}
use Rattle.records.specs.Block.{directory_octets, records_in, record_of}
use Rattle.records.specs.Record.{record_header, payload_of, sized}
use Rattle.records.specs.Verdict.{verdict_of}
use Rattle.directory.specs.Directory.{directory_of}
use Rattle.reading.specs.Opening.{opened_record, record_adds, opening}
use Rattle.store.specs.Blocks.{with_payload, block_with}
use Rattle.store.specs.Calls.{store_verdict}
use Rattle.refusal.specs.Verdict.{no_refusal}

-- the record r, whose payload was changed by f and then by g, opens as r does: its verdict, with the code, its octets, and what it adds to count and runs
pub record OpensAlike (f g : List ℕ → List ℕ) (s r : List ℕ) : Type 0 where
  pub number : verdict_of s (with_payload g (with_payload f r)) ≡ verdict_of s r
  pub octets : opened_record s (with_payload g (with_payload f r)) ≡ opened_record s r
  pub added : (of : List ℕ → ℕ) → record_adds of s (with_payload g (with_payload f r)) ≡ record_adds of s r

-- f is done to every payload of the block b, and g undoes it
pub record Undone (f g : List ℕ → List ℕ) (b : List ℕ) : Type 0 where
  -- length and directory stay, and so does what C-11 says of it
  pub size : length (block_with f b) ≡ length b
  pub directory : take (directory_octets (records_in b)) (block_with f b) ≡ take (directory_octets (records_in b)) b
  pub judged : directory_of (block_with f b) ≡ directory_of b
  -- each record is changed by itself: its header stays, and its payload is what f makes of it
  pub own : (i : ℕ) → i < records_in b → record_of (block_with f b) i ≡ with_payload f (record_of b i)
  pub header : (i : ℕ) → i < records_in b → record_header (record_of (block_with f b) i) ≡ record_header (record_of b i)
  pub payload : (i : ℕ) → i < records_in b → payload_of (record_of (block_with f b) i) ≡ f (payload_of (record_of b i))
  -- undone, the block is the block, and opens as it does
  pub undone : block_with g (block_with f b) ≡ b
  pub opens : (s out : List ℕ) → opening s (block_with g (block_with f b)) out ≡ opening s b out
  -- and so does each record alone, of whatever block it is
  pub alone : (s r : List ℕ) → sized r ≡ true → OpensAlike f g s r

-- of an accepted call, that rearranges or restores
abbrev pub RearrangedIfAccepted : List ℕ → ℕ → Type 0
RearrangedIfAccepted b output_octets = store_verdict b output_octets ≡ no_refusal → Undone rearranged restored b

abbrev pub RestoredIfAccepted : List ℕ → ℕ → Type 0
RestoredIfAccepted b output_octets = store_verdict b output_octets ≡ no_refusal → Undone restored rearranged b
