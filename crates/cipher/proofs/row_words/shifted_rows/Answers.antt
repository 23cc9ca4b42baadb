-- `row_words::shifted_rows` meets its contract: the row of each state, joined. Assumes nothing.
use Rattle.cipher.proofs.RowWords.{shifted_two}
use Rattle.cipher.proofs.row_words.shifted_rows.Goals as goal

pub returns : goal.returns
returns c = search shifted_two
