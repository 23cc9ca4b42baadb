-- `line::example_group_switches` meets its contract: the list is played by computing, and the theorem is cited. Assumes nothing.
use mathlib.Core.Path.{refl}
use Rattle.line.proofs.Opened.{opened}
use Rattle.line.proofs.Example.{demand}
use Rattle.line.proofs.example_group_switches.Goals as goal

pub returns : goal.returns
unfolding opened
returns c = record { value = refl; demand = demand }
