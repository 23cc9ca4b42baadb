-- `row_words::last_columns` meets its contract: the columns and the key, each joined of two fours, and their sum. Assumes nothing.
use Rattle.cipher.proofs.RowWords.{last_columns}
use Rattle.cipher.proofs.row_words.last_columns.Goals as goal

pub returns : goal.returns
returns c = search last_columns
