-- Where each octet of a payload of n EQs goes (02, C-12). An EQ has its octets 0 to 8: octet 0 is the control octet, octet j + 1 is
-- data octet j. Assumes nothing.
use Rattle.std.specs.Prelude.{Bool, true, false, ℕ, ◌+◌, ◌*◌, ◌/◌, ◌%◌}
use Rattle.octets.specs.Eqs.{eq_octets}

-- octet c of EQ e stands here in a payload
abbrev pub place_in_eqs : ℕ → ℕ → ℕ
place_in_eqs c e = eq_octets * e + c

-- and here in the planes: all control octets, then data octet 0 of every EQ, then data octet 1, up to 7 (D89)
abbrev pub place_in_planes : ℕ → ℕ → ℕ → ℕ
place_in_planes n c e = n * c + e

-- where octet c of EQ e is written: in the planes, or on the way back in the payload
abbrev pub target : Bool → ℕ → ℕ → ℕ → ℕ
target false n c e = place_in_planes n c e
target true n c e = place_in_eqs c e

-- where the octet at place k of a payload stands in its planes
unfoldable pub to_planes : ℕ → ℕ → ℕ
to_planes n k = place_in_planes n (k % eq_octets) (k / eq_octets)

-- where the octet at place k of the planes stands in the payload
unfoldable pub to_eqs : ℕ → ℕ → ℕ
to_eqs n k = place_in_eqs (k / n) (k % n)
