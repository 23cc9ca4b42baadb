-- `store::restore_block` meets its contract: the laws hold of every accepted block. Assumes nothing.
use Rattle.std.proofs.Common.{true}
use Rattle.planes.proofs.Planes.{planes_laws, moved_length}
use Rattle.store.proofs.Directories.{storable, undone}
use Rattle.store.proofs.restore_block.Goals as goal

pub returns-clause-restored_if_accepted : goal.returns-clause-restored_if_accepted
returns-clause-restored_if_accepted c v = undone _ _ (moved_length true) (λ p h. (planes_laws p h).undone_back) _ (storable _ _ v).good
