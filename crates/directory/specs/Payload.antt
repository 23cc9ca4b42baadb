-- The payload of the record with number k, from 1, of a capture block b (01, Capture block). Assumes nothing.
use Rattle.std.specs.Prelude.{◌≡◌, List, [], ℕ, ◌+◌, ◌-◌, ◌≤◌, leb, length, Result, Ok, Err}
use Rattle.std.specs.Borrow.{Bor}
use Rattle.octets.specs.Choice.{both, pick}
use Rattle.octets.specs.Lists.{part}
use Rattle.refusal.specs.declared.Refusal.TheVariants.{OutOfRange}
use Rattle.refusal.specs.Number.{number_of, pair_number}
use Rattle.directory.specs.declared.payload.Bounds.{Bounds}
use Rattle.records.specs.Record.{header_octets, payload_of}
use Rattle.records.specs.Block.{offset_of, length_of, record_of}
use Rattle.directory.specs.Directory.{directory_of}
use Rattle.refusal.specs.Verdict.{Verdict, no_refusal}
use Rattle.refusal.specs.declared.Refusal.{Refusal}

-- 15, 18 or 19, then 1 for k outside 1 to n
abbrev pub record_asked : Result ℕ Refusal → ℕ → Verdict
record_asked (Ok n) k = pick (both (leb 1 k) (leb k n)) no_refusal (Err OutOfRange)
record_asked (Err r) k = Err r

unfoldable pub payload_verdict : List ℕ → ℕ → Verdict
payload_verdict b k = record_asked (directory_of b) k

-- the payload of record i, by the pair of that record, whatever the verdict on it (D79)
unfoldable pub bounds_of : List ℕ → ℕ → Bounds
bounds_of b i = record { from = offset_of b i + header_octets; octets = length_of b i - header_octets }

abbrev pub bounds_after : Verdict → Bounds → Result Bounds Refusal
bounds_after (Ok tt) p = Ok p
bounds_after (Err r) p = Err r

unfoldable pub payload_bounds : List ℕ → ℕ → Result Bounds Refusal
payload_bounds b k = bounds_after (payload_verdict b k) (bounds_of b (k - 1))

-- the code of bounds, the pair that a refusal names, else 0, and where they are: a refused payload is at 0, for no octets
abbrev pub bounds_number : Result Bounds Refusal → ℕ
bounds_number (Ok p) = 0
bounds_number (Err r) = number_of r

abbrev pub bounds_pair : Result Bounds Refusal → ℕ
bounds_pair (Ok p) = 0
bounds_pair (Err r) = pair_number r

abbrev pub bounds_offset : Result Bounds Refusal → ℕ
bounds_offset (Ok p) = p.from
bounds_offset (Err r) = 0

abbrev pub bounds_length : Result Bounds Refusal → ℕ
bounds_length (Ok p) = p.octets
bounds_length (Err r) = 0

-- r refers to a part of what b refers to, n octets from `at` on, where they lie: a reference's ptr is the memory that it points
-- into, and its place there
pub record PartOf (b r : Bor (List ℕ)) (at n : ℕ) : Type 0 where
  pub memory : r.ref_ptr.0 ≡ b.ref_ptr.0
  pub offset : r.ref_ptr.1 ≡ at + b.ref_ptr.1
  pub inside : at + n ≤ length b.now
  pub octets : r.now ≡ part b.now at n

-- what is asked for, or nothing where that is refused
abbrev pub unless_refused : Verdict → List ℕ → List ℕ
unless_refused (Ok tt) l = l
unless_refused (Err r) l = []

unfoldable pub payload_part : List ℕ → ℕ → List ℕ
payload_part b k = unless_refused (payload_verdict b k) (payload_of (record_of b (k - 1)))
