-- Laws of the control mask. Assumes nothing.
use mathlib.Core.Path.{◌≡◌, refl, ap, ◌∙◌}
use mathlib.Core.Bool.{Bool, true, false}
use mathlib.Core.List.{List, []}
use Prim.Native.Nat.{ℕ, zero, suc, ◌+◌, ◌-◌, ◌*◌, ◌<◌, ◌^◌}
use native.Mathlib.Nat.{mod-eq_of_lt, add-zero}
use native.Mathlib.Omega.{arith}
use lib.Bits.{bit_xor, bit_and, and_mask, and_zero_r, xor_zero_r}
use lib.Dec.{eqb}
use lib.ListN.{get_or, drop}
use lib.Seq.{get_or-take, get_or-drop}
use Rattle.std.specs.Simd.{first_chunks}
use Rattle.octets.specs.Bits.{bit_of}
use Rattle.octets.specs.Choice.{pick}
use Rattle.octets.proofs.Bits.{xor_twice}
use Rattle.octets.proofs.Lists.{chunk_at}
use Rattle.envelope.specs.ControlMask.{control_octet, masked, masked_at}

-- the first octet of one of the first k EQs is its control octet
pub control_of : (k : ℕ) (p : List ℕ) (e : ℕ) → e < k → get_or (get_or (first_chunks 9 k p) e []) 0 0 ≡ control_octet p e
control_of k p e h = rw (chunk_at 9 k e p [] h) (get_or-take 9 (drop (9 * e) p) 0 0 (omega arith) ∙ get_or-drop (9 * e) p 0 0 ∙ rw add-zero)

-- the mask as a factor of 0 or 255, with no branch
pub masked_by_factor : (b k x : ℕ) → b < 2 → k < 2 ^ 8
    → bit_xor x (bit_and k (255 * (1 - b))) ≡ pick (eqb b 1) x (bit_xor x k)
unfolding pick
masked_by_factor zero k x h l = ap (bit_xor x) (and_mask k 8 ∙ mod-eq_of_lt l)
masked_by_factor (suc zero) k x h l = ap (bit_xor x) (and_zero_r k) ∙ xor_zero_r x
masked_by_factor (suc (suc b)) k x h l = absurd (omega arith)

-- masked twice, an octet is as it was
masked_twice : (c j k x : ℕ) → masked c j k (masked c j k x) ≡ x
unfolding masked pick
masked_twice c j k x = by_bit (eqb (bit_of c j) 1) where
  by_bit : (t : Bool) → pick t (pick t x (bit_xor x k)) (bit_xor (pick t x (bit_xor x k)) k) ≡ x
  by_bit true = refl
  by_bit false = xor_twice x k

pub masked_at_twice : (block : List ℕ) (half c place x : ℕ) → masked_at block half c place (masked_at block half c place x) ≡ x
unfolding masked_at
masked_at_twice block half c zero x = refl
masked_at_twice block half c (suc j) x = masked_twice c j (get_or block (half + j) 0) x
