-- `class::opening::key_at` meets its contract: the octets at its place, copied over zeros. Assumes nothing.
use mathlib.Core.Path.{◌∙◌}
use Rattle.class.proofs.opening.key_at.Goals as goal

pub returns : goal.returns
returns c = c.copy.ensures ∙ rw c.part_of.ensures
