-- Laws of a payload that is moved into its place in the output. Assumes nothing.
use mathlib.Core.Path.{◌≡◌, ap}
use mathlib.Core.Bool.{Bool}
use mathlib.Core.List.{List}
use Prim.Native.Nat.{ℕ, ◌+◌, ◌-◌, ◌%◌, ◌≤◌, ◌<◌}
use native.Mathlib.Omega.{arith}
use lib.ListN.{length, take, drop, length-take, length-drop}
use borrow.Rule.Slice.PartMut.{put_mid}
use Rattle.octets.specs.Eqs.{eq_octets}
use Rattle.octets.specs.Lists.{replaced}
use Rattle.planes.specs.Calls.{length_verdict}
use Rattle.planes.proofs.Calls.{accepts}
use Rattle.planes.specs.Planes.{moved}
use Rattle.planes.proofs.Planes.{moved_length}
use Rattle.records.specs.Block.{most_octets, offset_of, record_of}
use Rattle.records.specs.Record.{header_octets, payload_of}
use Rattle.directory.proofs.Records.{Records, placed}
use Rattle.refusal.specs.Verdict.{no_refusal}

-- the payload of record i, and its place
pub record PayloadIn (b : List ℕ) (i : ℕ) : Type 0 where
  pub whole : length (payload_of (record_of b i)) % eq_octets ≡ 0
  pub few : length (payload_of (record_of b i)) ≤ most_octets
  pub inside : offset_of b i + header_octets + length (payload_of (record_of b i)) ≤ length b

pub payload_in : (b : List ℕ) (n i : ℕ) → Records b n → i < n → PayloadIn b i
unfolding payload_of
payload_in b n i r h =
    let l = length-drop header_octets (record_of b i) in
    let p = placed b n i r h in
    record { whole = omega (arith, p); few = omega (arith, p, r.sizes.most); inside = omega (arith, p) }

module _ (b out p : List ℕ) (n i o : ℕ) (r : Records b n) (h : i < n) (room : length out ≡ length b) (payload : p ≡ payload_of (record_of b i))
    (offset : o ≡ offset_of b i) where
  -- the place is in the output
  pub in_output : o + header_octets + length p ≤ length out
  in_output = rw payload (omega (arith, payload_in b n i r h))

  -- the call on the part accepts
  pub part_accepts : length_verdict (length p) (length (take (o + header_octets + length p - (o + header_octets)) (drop (o + header_octets) out)))
      ≡ no_refusal
  part_accepts =
      let q = payload_in b n i r h in
      let l : length p ≡ length (payload_of (record_of b i)) = ap length payload in
      accepts _ _ (rw l q.whole) (omega (arith, q.few)) (simp (length-take, length-drop) (omega (arith, in_output)))

  -- what comes back is the payload in its place
  pub part_back : (back : Bool) (t : List ℕ) → t ≡ moved back p
      → put_mid (o + header_octets) (o + header_octets + length p - (o + header_octets)) out t
      ≡ replaced out (offset_of b i + header_octets) (moved back (payload_of (record_of b i)))
  part_back back t e =
      let z : o + header_octets + length p - (o + header_octets) ≡ length (moved back p) = omega (arith, moved_length back p) in
      rw (z, e, payload, offset)
