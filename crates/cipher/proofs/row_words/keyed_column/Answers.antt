-- `row_words::keyed_column` meets its contract: four octets, added to those of the key, substituted and joined. Assumes nothing.
use Rattle.cipher.proofs.RowWords.{four_substituted}
use Rattle.cipher.proofs.row_words.keyed_column.Goals as goal

pub returns : goal.returns
returns c = search four_substituted
