-- Laws of a record in its place in the output: hidden, or as it was. Assumes nothing.
use mathlib.Core.Path.{◌≡◌, refl, sym, ap, ◌∙◌}
use mathlib.Core.List.{List, ◌++◌, append_assoc}
use Prim.Native.Nat.{ℕ, ◌+◌, ◌*◌, ◌≤◌}
use native.Mathlib.Omega.{arith}
use lib.ListN.{length, take, drop, replicate, length-append, length-replicate, replicate-append-replicate}
use lib.Seq.{take_all, take_at, drop_at, drop-drop, length-take-le}
use borrow.Rule.Slice.PartMut.{put_mid}
use Rattle.octets.specs.BigEndian.{octets_of}
use Rattle.octets.specs.Lists.{part, replaced, copied_at}
use Rattle.octets.proofs.Lists.{part_length}
use Rattle.records.specs.Record.{record_octets, record_header}
use Rattle.records.specs.Block.{header_from, record_from}
use Rattle.records.proofs.Headers.{header_taken}
use Rattle.class.specs.Opening.{hidden_record}
use Rattle.class.specs.Duties.{placed_at}

-- a piece copied over one of its length
splice : (p m r low : List ℕ) (n : ℕ) → length p ≡ n → length m ≡ length low → copied_at low n (p ++ (m ++ r)) ≡ p ++ (low ++ r)
splice p m r low n e f =
    rw (take_at p (m ++ r) n e, drop_at p (m ++ r) n e, take_all (length (m ++ r)) low (omega (arith, length-append m r)), drop_at m r (length low) f)

zeros : (eqs : ℕ) → replicate {A = ℕ} (16 + 9 * eqs) 0 ≡ replicate 12 0 ++ (replicate 4 0 ++ replicate (9 * eqs) 0)
zeros eqs = sym (replicate-append-replicate 16 (9 * eqs) 0)

pub hidden_length : (eqs : ℕ) → length (hidden_record eqs) ≡ record_octets eqs
unfolding hidden_record
hidden_length eqs = omega (arith, length-replicate {A = ℕ} (9 * eqs) 0)

-- the record's octets cleared, then its EQs copied into their place
pub hidden_in_place : (out done low : List ℕ) (from len eqs : ℕ) → from + record_octets eqs ≤ length out → len ≡ record_octets eqs
    → done ≡ replicate (length (part out from len)) 0 → low ≡ octets_of 4 eqs
    → copied_at low (from + 12) (put_mid from len out done) ≡ replaced out from (hidden_record eqs)
unfolding hidden_record
hidden_in_place out done low from len eqs h n d f =
    let e : done ≡ replicate (16 + 9 * eqs) 0 = d ∙ rw (n, part_length out from (record_octets eqs) h) in
    let front = take from out in
    let rest : List ℕ = replicate (9 * eqs) 0 ++ drop (16 + 9 * eqs) (drop from out) in
    let head : List ℕ = replicate 12 0 in
    let four : List ℕ = replicate 4 0 in
    let cleared : put_mid from len out done ≡ (front ++ head) ++ (four ++ rest) = rw (n, e, zeros eqs) (sym (append_assoc front head (four ++ rest))) in
    let at : length (front ++ head) ≡ from + 12 = length-append front head ∙ ap (λ (n : ℕ). n + 12) (length-take-le from out (omega arith)) in
    let size : length (hidden_record eqs) ≡ 16 + 9 * eqs = hidden_length eqs in
    rw (cleared, f) (splice (front ++ head) four rest (octets_of 4 eqs) (from + 12) at refl ∙ append_assoc front head _ ∙ rw size)

-- the header of a record that starts at a place is that of its own octets
pub header_of-holds : (b : List ℕ) (from : ℕ) → record_header (record_from b from) ≡ header_from b from
unfolding record_from header_from
header_of-holds b from = header_taken (record_octets (record_header (drop from b)).eqs) (drop from b) (omega arith)

pub hidden_placed : (b out : List ℕ) (from eqs : ℕ) → drop from out ≡ drop from b → eqs ≡ (header_from b from).eqs
    → replaced out from (hidden_record eqs) ≡ placed_at b out from (hidden_record (record_header (record_from b from)).eqs)
hidden_placed b out from eqs same e =
    let size : length (hidden_record eqs) ≡ record_octets (header_from b from).eqs = hidden_length eqs ∙ ap record_octets e in
    rw (size, same, drop-drop, header_of-holds b from, e)
