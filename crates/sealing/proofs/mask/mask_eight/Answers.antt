-- `mask::mask_eight` meets its contract, octet by octet. Assumes nothing.
use Rattle.sealing.proofs.DataOctets.{masked_octets}
use Rattle.sealing.proofs.mask.mask_eight.Goals as goal

pub returns : goal.returns
returns c =
    let a = c.args in masked_octets a.control a.half a.x c.data_octets.ensures
