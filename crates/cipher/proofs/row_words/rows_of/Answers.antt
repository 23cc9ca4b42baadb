-- `row_words::rows_of` meets its contract, row by row. Assumes nothing.
use Rattle.cipher.proofs.RowWords.{gathered_state}
use borrow.Author.Rules.{rules}
use Rattle.cipher.proofs.row_words.rows_of.Goals as goal

pub returns : goal.returns
returns c = search (gathered_state, rules)
