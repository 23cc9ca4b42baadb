-- `row_words::rows_twice` meets its contract, row by row. Assumes nothing.
use Rattle.cipher.proofs.RowWords.{twice_state}
use borrow.Author.Rules.{rules}
use Rattle.cipher.proofs.row_words.rows_twice.Goals as goal

pub returns : goal.returns
returns c = search (twice_state, rules)
