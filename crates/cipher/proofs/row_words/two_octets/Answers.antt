-- `row_words::two_octets` meets its contract: what is left of a word that was shifted has two of its octets. Assumes nothing.
use Rattle.cipher.proofs.RowWords.{two_lowest}
use Rattle.cipher.proofs.row_words.two_octets.Goals as goal

pub returns : goal.returns
returns c = two_lowest c.args.x c.args.j
