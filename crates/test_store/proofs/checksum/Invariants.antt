-- Both sums stay below the modulus.
use Rattle.std.proofs.Common.{◌<◌}
use Rattle.test_store.proofs.checksum.Given as goal

abbrev pub invariant-loop-x : goal.invariant-loop-x
invariant-loop-x l = (l.a < 65521) × (l.b < 65521)
