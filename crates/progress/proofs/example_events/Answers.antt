-- `progress::example_events` meets its contract: the continuation is written out, and the theorems are cited. Assumes nothing.
use mathlib.Core.Path.{sym, ap}
use lib.ListN.{length}
use Rattle.progress.proofs.Demand.{demand}
use Rattle.progress.proofs.Stuck.{cases}
use Rattle.progress.proofs.example_events.Goals as goal

pub returns : goal.returns
returns c = record { value = sym (ap length demand.returned.listed); demand = demand; cases = cases }
