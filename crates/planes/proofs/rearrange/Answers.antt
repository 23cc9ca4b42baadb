-- `planes::rearrange` meets its contract: the laws hold of every payload. Assumes nothing.
use Rattle.planes.proofs.Planes.{planes_laws}
use Rattle.planes.proofs.rearrange.Goals as goal

pub returns-clause-planes_laws_if_whole : goal.returns-clause-planes_laws_if_whole
returns-clause-planes_laws_if_whole c = planes_laws _
