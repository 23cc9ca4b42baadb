-- EQs, in which payloads are counted (01, Counter block and mask). Assumes nothing.
use Rattle.std.specs.Prelude.{ℕ}

-- an EQ is a control octet, then eight data octets
abbrev pub eq_octets : ℕ
eq_octets = 9

-- the most EQs of a payload
abbrev pub max_eqs : ℕ
max_eqs = 4194303
