-- `key_expansion::expand_with` meets its contract. The loop keeps the array at the round keys made so far, and k at the last of them. Assumes nothing.
use mathlib.Core.Path.{◌≡◌}
use mathlib.Core.List.{◌++◌}
use Prim.Native.Nat.{◌+◌, ◌*◌}
use lib.ListN.{length, drop, replicate}
use Rattle.cipher.specs.KeyExpansion.{expanded}
use Rattle.cipher.proofs.key_expansion.expand_with.Given as goal

abbrev pub invariant-loop-n : goal.invariant-loop-n
invariant-loop-n l = (length l.fn.key ≡ 16) × (l.k ≡ drop (16 * l.n) (expanded l.fn.key (4 * l.n)))
    × (l.w ≡ expanded l.fn.key (4 * l.n) ++ drop (16 * (l.n + 1)) (replicate 176 0))
