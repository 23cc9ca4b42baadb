-- `records::settings::presence_fits` meets its contract: the mask leaves the bits that stand for no key. Assumes nothing.
use Rattle.octets.proofs.Bits.{mask_clears}
use Rattle.records.specs.Settings.{presence_fits}
use Rattle.records.proofs.settings.presence_fits.Goals as goal

pub returns : goal.returns
unfolding presence_fits
returns c = rw (mask_clears c.args.presence)
