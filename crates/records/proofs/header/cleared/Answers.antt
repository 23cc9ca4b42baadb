-- `records::header::cleared` meets its contract: the mask leaves the other bits. Assumes nothing.
use Rattle.octets.proofs.Bits.{mask_clears}
use Rattle.records.proofs.header.cleared.Goals as goal

pub returns : goal.returns
returns c = mask_clears c.args.flags
