-- `aes128::word_of` meets its contract: it is a piece of the octets. Assumes nothing.
use mathlib.Core.List.{[]}
use Prim.Native.Nat.{◌*◌, ◌/◌}
use native.Mathlib.Omega.{arith}
use lib.ListN.{length}
use Rattle.octets.proofs.Lists.{chunk_at, part_tabulated}
use Rattle.cipher.proofs.aes128.word_of.Goals as goal

pub returns : goal.returns
returns c =
    let s = c.args.s in
    let i = c.args.i in
    rw (c.as_chunks.ensures.front, chunk_at 4 (length s / 4) i s [] (omega arith)) (part_tabulated s (4 * i) 4 0 (omega arith))
