-- When two paired records r and s hold the same (02, C-15, C-20). Assumes nothing.
use Rattle.std.specs.Prelude.{Bool, List, ℕ, eqb}
use Rattle.octets.specs.Choice.{both}
use Rattle.envelope.specs.ControlMask.{control_octet, data_octet}
use Rattle.records.specs.Record.{record_header, payload_of}
use Rattle.records.specs.Verdict.{enc_key}
use Rattle.octets.specs.Each.{each}

-- the data octets of an EQ
abbrev pub data_octets : ℕ
data_octets = 8

-- EQ e has the same data octets in the payloads p and q, control characters' values among them
unfoldable pub same_eq : List ℕ → List ℕ → ℕ → Bool
same_eq p q e = each 0 data_octets (λ j. eqb (data_octet p e j) (data_octet q e j))

-- C-15's sameness: as many EQs, with the same data octets in each
unfoldable pub same_data : List ℕ → List ℕ → Bool
same_data r s = both (eqb (record_header r).eqs (record_header s).eqs) (each 0 (record_header r).eqs (same_eq (payload_of r) (payload_of s)))

-- EQ e has the same control octet in the payloads p and q
abbrev pub same_control : List ℕ → List ℕ → ℕ → Bool
same_control p q e = eqb (control_octet p e) (control_octet q e)

-- what was the same before is so if the EncKey bit and the control octets agree as well
unfoldable pub same : List ℕ → List ℕ → Bool
same r s =
    both (same_data r s)
    (both (eqb (enc_key (record_header r).flags) (enc_key (record_header s).flags))
    (each 0 (record_header r).eqs (same_control (payload_of r) (payload_of s))))
