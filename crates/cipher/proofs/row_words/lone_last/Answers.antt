-- `row_words::lone_last` meets its contract: the columns by two, the key of the round before added ahead. Assumes nothing.
use Rattle.gf256.specs.Field.{◌⊕◌}
use Rattle.gf256.specs.Lanes.{octet_at}
use Rattle.cipher.specs.Cipher.{cell}
use Rattle.cipher.specs.RowWords.{keyed_state, row_of}
use Rattle.cipher.proofs.RowWords.{last_block}
use Rattle.cipher.proofs.row_words.lone_last.Goals as goal

pub returns : goal.returns
unfolding keyed_state
returns c =
    let a = c.args in
    last_block _ (λ r j. octet_at (row_of a.s r) j ⊕ cell a.key r j) c.last_columns.ensures c.last_columns-2.ensures
    c.keyed_column.ensures.0 c.keyed_column-2.ensures.0
    c.keyed_column-3.ensures.0 c.keyed_column-4.ensures.0
