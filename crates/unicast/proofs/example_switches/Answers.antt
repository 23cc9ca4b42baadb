-- `unicast::example_switches` meets its contract: the list is played by computing, and the theorem is cited. Assumes nothing.
use mathlib.Core.Path.{refl}
use Rattle.unicast.proofs.Example.{listed, demand}
use Rattle.unicast.proofs.example_switches.Goals as goal

pub returns : goal.returns
unfolding listed
returns c = record { value = refl; demand = demand }
