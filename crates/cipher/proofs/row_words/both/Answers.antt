-- `row_words::both` meets its contract: past the fourth octet stand those of the quotient by 2^32. Assumes nothing.
use Rattle.cipher.proofs.RowWords.{both_octets}
use Rattle.cipher.proofs.row_words.both.Goals as goal

pub returns : goal.returns
returns c = both_octets c.args.low c.args.high c.requires.0
