-- What holds of every payload of whole EQs, of 0 EQs too (02, C-12). Assumes nothing.
use Rattle.std.specs.Prelude.{◌≡◌, List, ℕ, ◌%◌, ◌<◌, length, get_or}
use Rattle.octets.specs.Eqs.{eq_octets}
use Rattle.envelope.specs.ControlMask.{eqs_of}
use Rattle.planes.specs.Places.{place_in_eqs, place_in_planes, to_planes, to_eqs}
use Rattle.planes.specs.Planes.{rearranged, restored}

pub record PlanesLaws (p : List ℕ) : Type 0 where
  -- both keep the length
  pub size : length (rearranged p) ≡ length p
  pub size_back : length (restored p) ≡ length p
  -- octet c of EQ e goes from its place to its place, and back
  pub moved : (c e : ℕ) → c < eq_octets → e < eqs_of p
      → get_or (rearranged p) (place_in_planes (eqs_of p) c e) 0 ≡ get_or p (place_in_eqs c e) 0
  pub moved_back : (c e : ℕ) → c < eq_octets → e < eqs_of p
      → get_or (restored p) (place_in_eqs c e) 0 ≡ get_or p (place_in_planes (eqs_of p) c e) 0
  -- every octet stands exactly once: each place has one place that it goes to, and one that it comes from
  pub once : (k : ℕ) → k < length p → (to_planes (eqs_of p) k < length p) × (to_eqs (eqs_of p) (to_planes (eqs_of p) k) ≡ k)
  pub once_back : (k : ℕ) → k < length p → (to_eqs (eqs_of p) k < length p) × (to_planes (eqs_of p) (to_eqs (eqs_of p) k) ≡ k)
  -- each undoes the other
  pub undone : restored (rearranged p) ≡ p
  pub undone_back : rearranged (restored p) ≡ p

abbrev pub PlanesLawsIfWhole : List ℕ → Type 0
PlanesLawsIfWhole p = length p % eq_octets ≡ 0 → PlanesLaws p
