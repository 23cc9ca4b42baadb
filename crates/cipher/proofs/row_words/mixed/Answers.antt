-- `row_words::mixed` meets its contract, row by row. Assumes nothing.
use Rattle.cipher.proofs.RowWords.{mixed_rows}
use Rattle.cipher.proofs.row_words.mixed.Goals as goal

pub returns : goal.returns
returns c = search mixed_rows
