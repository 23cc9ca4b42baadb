-- `store::rearrange_block` meets its contract: the laws hold of every accepted block. Assumes nothing.
use Rattle.std.proofs.Common.{false}
use Rattle.planes.proofs.Planes.{planes_laws, moved_length}
use Rattle.store.proofs.Directories.{storable, undone}
use Rattle.store.proofs.rearrange_block.Goals as goal

pub returns-clause-rearranged_if_accepted : goal.returns-clause-rearranged_if_accepted
returns-clause-rearranged_if_accepted c v = undone _ _ (moved_length false) (λ p h. (planes_laws p h).undone) _ (storable _ _ v).good
