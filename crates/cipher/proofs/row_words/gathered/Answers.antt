-- `row_words::gathered` meets its contract: four octets of the list, joined. Assumes nothing.
use Rattle.cipher.proofs.RowWords.{four_octets}
use Rattle.cipher.proofs.row_words.gathered.Goals as goal

pub returns : goal.returns
returns c = search four_octets
