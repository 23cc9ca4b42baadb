-- A payload's EQs under the control mask (01, Counter block and mask; 001, 11.3.5). Assumes nothing.
use Rattle.std.specs.Prelude.{Bool, List, ℕ, zero, suc, ◌+◌, ◌-◌, ◌*◌, ◌/◌, min, eqb, ltb, length, get_or}
use Rattle.std.specs.Int.Bits.{bit_xor}
use Rattle.std.specs.Int.Count.{ones}
use Rattle.octets.specs.Bits.{bit_of}
use Rattle.octets.specs.Choice.{pick}
use Rattle.octets.specs.Eqs.{eq_octets}
use Rattle.octets.specs.Lists.{sum}

-- the quanta (EQs) of a payload, each a control octet and then eight data octets
abbrev pub eqs_of : List ℕ → ℕ
eqs_of p = length p / eq_octets

-- the most blocks of a payload: each serves two EQs
abbrev pub max_blocks : ℕ
max_blocks = 2097152

-- the cipher blocks of n octets, a last one for an odd last EQ among them
abbrev pub blocks_of : ℕ → ℕ
blocks_of n = (n + 17) / 18

-- the control octet of EQ e
abbrev pub control_octet : List ℕ → ℕ → ℕ
control_octet p e = get_or p (eq_octets * e) 0

-- data octet j of EQ e
abbrev pub data_octet : List ℕ → ℕ → ℕ → ℕ
data_octet p e j = get_or p (eq_octets * e + 1 + j) 0

-- data octet x at place j under the control octet c and the cipher octet k: a control character, where bit j is set, passes (D64)
unfoldable pub masked : ℕ → ℕ → ℕ → ℕ → ℕ
masked c j k x = pick (eqb (bit_of c j) 1) x (bit_xor x k)

-- octet x of an EQ with the control octet c: at place 0 the control octet itself, which passes; at place j + 1 data octet j
unfoldable pub masked_at : List ℕ → ℕ → ℕ → ℕ → ℕ → ℕ
masked_at block half c zero x = x
masked_at block half c (suc j) x = masked c j (get_or block (half + j) 0) x

-- the octets that sealing enciphers: over all EQs, eight minus the ones in the control octet
unfoldable pub count_enciphered : List ℕ → ℕ
count_enciphered p = sum 0 (eqs_of p) (λ e. 8 - ones (control_octet p e))

---- runs of the cipher (02, C-17)

-- the octets that an EQ with the control octet c has to encipher: its data octets, one for each bit that is not set
abbrev pub to_encipher : ℕ → ℕ
to_encipher c = sum 0 8 (λ j. 1 - bit_of c j)

-- block k has at least one octet to encipher, in EQ 2k or, where there is one, in EQ 2k + 1 (D66)
unfoldable pub needs_run : List ℕ → ℕ → Bool
needs_run p k = ltb 0 (sum (2 * k) (min 2 (eqs_of p - 2 * k)) (λ e. to_encipher (control_octet p e)))

-- the most runs of a payload: half its EQs, rounded up
abbrev pub most_runs : List ℕ → ℕ
most_runs p = (eqs_of p + 1) / 2

-- the blocks below k that need a run
abbrev pub runs_below : List ℕ → ℕ → ℕ
runs_below p k = sum 0 k (λ b. pick (needs_run p b) 1 0)

-- the runs that sealing or opening a payload takes
unfoldable pub runs : List ℕ → ℕ
runs p = runs_below p (most_runs p)
