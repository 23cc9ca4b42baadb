-- `row_words::eight` meets its contract: four octets and then four more. Assumes nothing.
use Rattle.cipher.proofs.RowWords.{eight, four_octets}
use Rattle.cipher.proofs.row_words.eight.Goals as goal

pub returns : goal.returns
returns c = search (eight, four_octets)
