-- Where the groups move the advance is accepted, and where they do not they are those that were lent.
use Rattle.std.proofs.Common.{refl}
use Rattle.jazmotip.proofs.Rest.{moves, rest}
use Rattle.jazmotip.proofs.at_olt.advanced.Goals as goal

pub returns : goal.returns
returns c = rw c.moved-done.ensures ((refl, refl), (moves _ _, rest _ _))
