-- `mask::data_octets` meets its contract: what it works out is what the computed test of all control octets holds. Assumes nothing.
use Rattle.sealing.proofs.DataOctets.{worked, worked_octets}
use Rattle.sealing.proofs.mask.data_octets.Goals as goal

pub returns : goal.returns
unfolding worked
returns c =
    rw c.wide-c.ensures.0 (worked_octets c.args.control c.ranges.control.fits)
