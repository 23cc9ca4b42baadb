-- `class::asker::Asker::expand` meets its contract. The loop's invariant: the keys before key k that are to be expanded are there, and
-- counted. Assumes nothing.
use mathlib.Core.Path.{◌≡◌}
use lib.ListN.{length}
use Rattle.octets.specs.Lists.{sum}
use Rattle.class.specs.Duties.{keys_octets, Expanded}
use Rattle.class.proofs.Expanding.{Counts}
use Rattle.class.proofs.asker.Asker.expand.Given as goal

abbrev pub invariant-loop-k : goal.invariant-loop-k
invariant-loop-k l =
    (length l.keys ≡ keys_octets) × (l.count ≡ sum 0 l.k (Counts l.self.caller l.self.sets.now l.self.rights.now))
    × Expanded l.self.caller l.self.sets.now l.self.rights.now l.keys l.k
