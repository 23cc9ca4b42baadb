-- Laws of a record whose payload is changed and keeps its length. Assumes nothing.
use mathlib.Core.Path.{◌≡◌, sym, ap, ◌∙◌}
use mathlib.Core.List.{List, ◌++◌}
use Prim.Native.Nat.{ℕ, ◌≤◌}
use native.Mathlib.Omega.{arith}
use lib.ListN.{length, take, drop, take-append-drop, length-append, length-take, length-drop}
use lib.Seq.{take_at, drop_at, length-take-le}
use Rattle.records.specs.Record.{header_octets, record_header, payload_of, sized}
use Rattle.records.proofs.Headers.{header_taken}
use Rattle.store.specs.Blocks.{with_payload}

-- the header is of the first octets alone
same_header : (r ys : List ℕ) → header_octets ≤ length r → record_header (take header_octets r ++ ys) ≡ record_header r
same_header r ys h =
    sym (header_taken header_octets (take header_octets r ++ ys) (omega arith))
    ∙ ap record_header (take_at (take header_octets r) ys header_octets (length-take-le header_octets r h))
    ∙ header_taken header_octets r (omega arith)

module _ (f : List ℕ → List ℕ) (r : List ℕ) (h : header_octets ≤ length r) where
  pub with_header : record_header (with_payload f r) ≡ record_header r
  unfolding with_payload
  with_header = same_header r (f (payload_of r)) h

  pub with_payload-holds : payload_of (with_payload f r) ≡ f (payload_of r)
  unfolding with_payload payload_of
  with_payload-holds = drop_at (take header_octets r) (f (drop header_octets r)) header_octets (length-take-le header_octets r h)

  -- what g undoes of the payload, it undoes of the record
  pub with_undone : (g : List ℕ → List ℕ) → g (f (payload_of r)) ≡ payload_of r → with_payload g (with_payload f r) ≡ r
  unfolding with_payload payload_of
  with_undone g e =
      let ys = f (drop header_octets r) in
      let n = length-take-le header_octets r h in
      rw (take_at (take header_octets r) ys header_octets n, drop_at (take header_octets r) ys header_octets n, e) (take-append-drop header_octets r)

  module _ (keeps : length (f (payload_of r)) ≡ length (payload_of r)) where
    pub with_length : length (with_payload f r) ≡ length r
    unfolding with_payload payload_of
    with_length = rw (length-append, keeps, length-take, length-drop) (omega arith)

    pub with_sized : sized (with_payload f r) ≡ sized r
    unfolding sized
    with_sized = rw (with_length, with_header)
