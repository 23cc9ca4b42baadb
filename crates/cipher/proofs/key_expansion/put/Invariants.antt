-- `key_expansion::put` meets its contract. The loop keeps the array at its copy of the first j octets. Assumes nothing.
use mathlib.Core.Path.{◌≡◌}
use lib.ListN.{length}
use lib.Seq.{paste}
use Rattle.cipher.proofs.key_expansion.put.Given as goal

abbrev pub invariant-loop-j : goal.invariant-loop-j
invariant-loop-j l = (length l.initial.w ≡ 176) × (length l.x-items ≡ 16) × (l.w ≡ paste l.initial.w l.at l.x-items l.j)
