-- Laws of a payload rearranged and restored: both go octet by octet, each undoes the other. Assumes nothing.
use Rattle.std.proofs.Common.{◌≡◌, Bool, true, false, not, List, ℕ, ◌*◌, ◌/◌, ◌%◌, ◌<◌, length, get_or, sym, ◌∙◌, arith, zero-add}
use Rattle.std.proofs.Math.Bool.{not-not}
use lib.Seq.{ext_get_or}
use Rattle.octets.specs.Eqs.{eq_octets}
use Rattle.octets.proofs.Lists.{tabulate_length, tabulate_at}
use Rattle.envelope.specs.ControlMask.{eqs_of}
use Rattle.planes.specs.Places.{place_in_eqs, place_in_planes, target, to_planes, to_eqs}
use Rattle.planes.specs.Planes.{rearranged, restored, moved}
use Rattle.planes.specs.Claims.{PlanesLaws}
use Rattle.planes.proofs.Places.{eqs_whole, eqs_of-holds, inside, from_planes, from_eqs, in_eqs, in_planes}

pub moved_length : (back : Bool) (p : List ℕ) → length (moved back p) ≡ length p
unfolding rearranged restored
moved_length false p = tabulate_length 0 (length p) (λ k. get_or p (to_eqs (eqs_of p) k) 0)
moved_length true p = tabulate_length 0 (length p) (λ k. get_or p (to_planes (eqs_of p) k) 0)

-- octet c of EQ e goes from its place to its place
pub moved_octet : (back : Bool) (p : List ℕ) (n : ℕ) → length p ≡ eq_octets * n → (c e : ℕ) → c < eq_octets → e < n
    → get_or (moved back p) (target back n c e) 0 ≡ get_or p (target (not back) n c e) 0
unfolding rearranged restored
moved_octet false p n whole c e h k =
    tabulate_at 0 (length p) (λ k. get_or p (to_eqs (eqs_of p) k) 0) (place_in_planes n c e) 0 (omega (arith, inside false n c e h k))
    ∙ rw (zero-add, eqs_of-holds p n whole, from_planes n c e k)
moved_octet true p n whole c e h k =
    tabulate_at 0 (length p) (λ k. get_or p (to_planes (eqs_of p) k) 0) (place_in_eqs c e) 0 (omega arith)
    ∙ rw (zero-add, eqs_of-holds p n whole, from_eqs n c e h)

-- two lists of n EQs that agree at each octet's place are one
pub same_octets : (back : Bool) (n : ℕ) (a b : List ℕ) → length a ≡ eq_octets * n → length b ≡ eq_octets * n
    → ((c e : ℕ) → c < eq_octets → e < n → get_or a (target back n c e) 0 ≡ get_or b (target back n c e) 0)
    → a ≡ b
same_octets false n a b la lb same =
    ext_get_or 0 a b (la ∙ sym lb) (λ k h. let at = in_planes n k (omega arith) in rw (← at.same) at (same (k / n) (k % n) at.octet_below at.eq_below))
same_octets true n a b la lb same =
    ext_get_or 0 a b (la ∙ sym lb)
    (λ k h. let at = in_eqs n k (omega arith) in rw (← at.same) at (same (k % eq_octets) (k / eq_octets) at.octet_below at.eq_below))

-- each way undoes the other
pub undone : (back : Bool) (p : List ℕ) (n : ℕ) → length p ≡ eq_octets * n → moved (not back) (moved back p) ≡ p
undone back p n whole =
    let there = moved back p in
    let same = moved_length back p ∙ whole in
    same_octets (not back) n (moved (not back) there) p (moved_length (not back) there ∙ same) whole
    (λ c e h k. moved_octet (not back) there n same c e h k ∙ rw not-not (moved_octet back p n whole c e h k))

module _ (p : List ℕ) (n : ℕ) (whole : length p ≡ eq_octets * n) where
  there : (k : ℕ) → k < length p → (to_planes n k < length p) × (to_eqs n (to_planes n k) ≡ k)
  unfolding to_planes
  there k h =
      let c = k % eq_octets in
      let e = k / eq_octets in
      let at = in_eqs n k (omega arith) in
      (omega (arith, inside false n c e at.octet_below at.eq_below), from_planes n c e at.eq_below ∙ sym at.same)

  back : (k : ℕ) → k < length p → (to_eqs n k < length p) × (to_planes n (to_eqs n k) ≡ k)
  unfolding to_eqs
  back k h =
      let c = k / n in
      let e = k % n in
      let at = in_planes n k (omega arith) in
      (omega (arith, inside true n c e at.octet_below at.eq_below), from_eqs n c e at.octet_below ∙ sym at.same)

pub planes_laws : (p : List ℕ) → length p % eq_octets ≡ 0 → PlanesLaws p
planes_laws p h =
    let n = eqs_of p in
    let whole = eqs_whole p h in
    record {
      size = moved_length false p;
      size_back = moved_length true p;
      moved = moved_octet false p n whole;
      moved_back = moved_octet true p n whole;
      once = there p n whole;
      once_back = back p n whole;
      undone = undone false p n whole;
      undone_back = undone true p n whole;
    }
