-- `row_words::keyed` meets its contract: the entry of the lent table at the sum of two octets is its substitution. Assumes nothing.
use mathlib.Core.Path.{ap, ◌∙◌}
use mathlib.Core.List.{List}
use Prim.Native.Nat.{ℕ, ◌<◌}
use lib.Bits.{bit_xor, xor_lt}
use lib.ListN.{get_or}
use Rattle.gf256.specs.Lanes.{octet_at}
use Rattle.gf256.specs.Substitution.{sbox}
use Rattle.gf256.proofs.Lanes.{octet_below}
use Rattle.gf256.proofs.Table.{table_at}
use Rattle.cipher.proofs.row_words.keyed.Goals as goal

pub returns : goal.returns
returns c =
    let a = c.args in
    let sum = bit_xor c.octet.result a.k in
    -- the sum is an octet
    let below : sum < 256 = rw c.octet.ensures (xor_lt 8 (octet_at a.x a.j) a.k (octet_below a.x a.j) c.ranges.k.fits) in (
      record {
        holds = λ e.
            rw c.octet.ensures at (c.wide.ensures.0 ∙ ap (λ (t : List ℕ). get_or t sum 0) e ∙ table_at sbox sum below);
      },
      c.wide.ensures.1,
    )
