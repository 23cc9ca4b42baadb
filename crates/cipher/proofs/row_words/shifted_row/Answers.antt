-- `row_words::shifted_row` meets its contract: four octets, taken two by two, substituted and joined. Assumes nothing.
use Rattle.cipher.proofs.RowWords.{four_by_two}
use Rattle.cipher.proofs.row_words.shifted_row.Goals as goal

pub returns : goal.returns
returns c =
    let a = c.args in (
      four_by_two a.x a.z a.k c.four.ensures.0 c.two_octets-p.ensures c.two_octets-q.ensures c.one_of_four.ensures.0
          c.one_of_four-2.ensures.0 c.one_of_four-3.ensures.0 c.one_of_four-4.ensures.0 c.one_of_four.ensures.1
          c.one_of_four-2.ensures.1 c.one_of_four-3.ensures.1 c.one_of_four-4.ensures.1,
      c.four.ensures.1,
    )
