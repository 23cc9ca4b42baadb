-- `row_words::pair_round` meets its contract: a round of both states, row by row. Assumes nothing.
use Rattle.cipher.proofs.RowWords.{rounded}
use borrow.Author.Rules.{rules}
use Rattle.cipher.proofs.row_words.pair_round.Goals as goal

pub returns : goal.returns
returns c = search (rounded, rules)
