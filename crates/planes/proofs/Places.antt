-- Laws of places: each octet has one place in the EQs and one in the planes. Assumes nothing.
use Rattle.std.proofs.Common.{◌≡◌, Bool, true, false, List, ℕ, ◌+◌, ◌*◌, ◌/◌, ◌%◌, ◌<◌, length, sym, ◌∙◌, arith, mod-lt, mod-eq_of_lt, div-lt_iff_lt-mul, add-zero, mul-add, mul-le-mul_left}
use native.Mathlib.Nat.{div-eq_of_lt, div-add-mod, mul-add-div, mul-add-mod_self_left}
use Rattle.octets.specs.Eqs.{eq_octets}
use Rattle.envelope.specs.ControlMask.{eqs_of}
use Rattle.planes.specs.Places.{place_in_eqs, place_in_planes, target, to_planes, to_eqs}

pub eqs_whole : (p : List ℕ) → length p % eq_octets ≡ 0 → length p ≡ eq_octets * eqs_of p
eqs_whole p h = omega arith

pub eqs_of-holds : (p : List ℕ) (n : ℕ) → length p ≡ eq_octets * n → eqs_of p ≡ n
eqs_of-holds p n h = omega arith

-- where octet c of EQ e is written lies in the output
pub inside : (back : Bool) (n c e : ℕ) → c < eq_octets → e < n → target back n c e < eq_octets * n
inside false n c e h k = omega (arith, mul-le-mul_left {m = c + 1} {n = eq_octets} n (omega arith), mul-add n c 1)
inside true n c e h k = omega arith

pub from_planes : (n c e : ℕ) → e < n → to_eqs n (place_in_planes n c e) ≡ place_in_eqs c e
unfolding to_eqs
from_planes n c e h =
    let some : 0 < n = omega arith in
    let octet : place_in_planes n c e / n ≡ c = mul-add-div some c e ∙ rw (div-eq_of_lt h, add-zero) in
    let eq : place_in_planes n c e % n ≡ e = mul-add-mod_self_left n c e ∙ mod-eq_of_lt h in
    rw (octet, eq)

pub from_eqs : (n c e : ℕ) → c < eq_octets → to_planes n (place_in_eqs c e) ≡ place_in_planes n c e
unfolding to_planes
from_eqs n c e h =
    let octet : place_in_eqs c e % eq_octets ≡ c = omega arith in
    let eq : place_in_eqs c e / eq_octets ≡ e = omega arith in
    rw (octet, eq)

-- a place of the output is that of an octet of an EQ
pub record Placed (back : Bool) (n k octet eq : ℕ) : Type 0 where
  pub octet_below : octet < eq_octets
  pub eq_below : eq < n
  pub same : k ≡ target back n octet eq

pub in_eqs : (n k : ℕ) → k < eq_octets * n → Placed true n k (k % eq_octets) (k / eq_octets)
in_eqs n k h = record { octet_below = omega arith; eq_below = omega arith; same = omega arith }

pub in_planes : (n k : ℕ) → k < eq_octets * n → Placed false n k (k / n) (k % n)
in_planes n k h =
    let some : 0 < n = omega arith in
    record { octet_below = (div-lt_iff_lt-mul some).1 h; eq_below = mod-lt k some; same = sym (div-add-mod k n) }
