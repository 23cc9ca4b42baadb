-- `envelope::count` meets its contract: the sum over the EQs counted. Assumes nothing.
use mathlib.Core.Path.{◌≡◌}
use Prim.Native.Nat.{◌-◌}
use lib.Count.{ones}
use Rattle.octets.specs.Lists.{sum}
use Rattle.envelope.specs.ControlMask.{control_octet}
use Rattle.envelope.proofs.count.Given as goal

abbrev pub invariant-loop-eq : goal.invariant-loop-eq
invariant-loop-eq l = l.sum ≡ Rattle.octets.specs.Lists.sum 0 l.eq-index (λ i. 8 - ones (control_octet l.fn.payload i))
