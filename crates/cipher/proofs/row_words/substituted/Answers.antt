-- `row_words::substituted` meets its contract: the entry of the lent table at an octet is its substitution. Assumes nothing.
use mathlib.Core.Path.{◌∙◌}
use Prim.Native.Nat.{◌*◌, ◌/◌, ◌%◌, ◌^◌}
use native.Mathlib.Omega.{arith}
use Rattle.gf256.specs.Lanes.{octet_at}
use Rattle.gf256.specs.Substitution.{sbox}
use Rattle.gf256.proofs.Table.{table_at}
use Rattle.cipher.proofs.row_words.substituted.Goals as goal

pub returns : goal.returns
unfolding octet_at
returns c =
    let index = c.args.x / 2 ^ (8 * c.args.j) % 2 ^ 8 in (
      record { holds = λ e. c.wide.ensures.0 ∙ rw e (table_at sbox index (omega arith)) },
      c.wide.ensures.1,
    )
