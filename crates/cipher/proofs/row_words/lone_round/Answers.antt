-- `row_words::lone_round` meets its contract: a round of one state, row by row, its key added ahead of it. Assumes nothing.
use Rattle.cipher.proofs.RowWords.{keyed_round}
use borrow.Author.Rules.{rules}
use Rattle.cipher.proofs.row_words.lone_round.Goals as goal

pub returns : goal.returns
returns c = search (keyed_round, rules)
