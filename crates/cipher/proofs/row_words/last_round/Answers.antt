-- `row_words::last_round` meets its contract: the columns by two. Assumes nothing.
use Rattle.gf256.specs.Lanes.{octet_at}
use Rattle.cipher.specs.RowWords.{row_of}
use Rattle.cipher.proofs.RowWords.{last_block}
use Rattle.cipher.proofs.row_words.last_round.Goals as goal

pub returns : goal.returns
returns c =
    let s = c.args.s in
    last_block _ (λ r j. octet_at (row_of s r) j) c.last_columns.ensures c.last_columns-2.ensures
    c.shifted_column.ensures.0 c.shifted_column-2.ensures.0
    c.shifted_column-3.ensures.0 c.shifted_column-4.ensures.0
