-- The header of a record depends on its first octets alone. Assumes nothing.
use mathlib.Core.Path.{◌≡◌}
use mathlib.Core.List.{List}
use Prim.Native.Nat.{ℕ, ◌+◌, ◌≤◌, ◌<◌}
use native.Mathlib.Omega.{arith}
use lib.ListN.{get_or, take}
use lib.Seq.{get_or-take}
use Rattle.octets.specs.BigEndian.{number_at}
use Rattle.octets.proofs.BigEndian.{number_same}
use Rattle.records.specs.Record.{header_octets, record_header}

module _ (l : ℕ) (r : List ℕ) (h : header_octets ≤ l) where
  octet_taken : (i : ℕ) → i < header_octets → get_or (take l r) i 0 ≡ get_or r i 0
  octet_taken i g = get_or-take l r i 0 (omega arith)

  number_taken : (k at : ℕ) → at + k ≤ header_octets → number_at k (take l r) at ≡ number_at k r at
  number_taken k at g = number_same k (take l r) r at at (λ j q. octet_taken (at + j) (omega arith))

  pub header_taken : record_header (take l r) ≡ record_header r
  unfolding record_header
  header_taken =
      rw (
        octet_taken 0 (omega arith),
        octet_taken 1 (omega arith),
        number_taken 2 2 (omega arith),
        octet_taken 4 (omega arith),
        octet_taken 5 (omega arith),
        number_taken 6 6 (omega arith),
        number_taken 4 12 (omega arith),
      )
