-- `octets::number` meets its contract: n is the number in the first i octets. Assumes nothing.
use mathlib.Core.Path.{◌≡◌}
use Prim.Native.Nat.{◌<◌, ◌^◌}
use Rattle.octets.specs.BigEndian.{number_at}
use Rattle.octets.proofs.number.Given as goal

abbrev pub invariant-loop-i : goal.invariant-loop-i
invariant-loop-i g l = (l.n ≡ number_at l.i l.s l.at) × (l.n < 256 ^ l.i)
