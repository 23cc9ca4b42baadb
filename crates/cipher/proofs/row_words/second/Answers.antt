-- `row_words::second` meets its contract, row by row. Assumes nothing.
use mathlib.Core.Path.{refl}
use Rattle.cipher.proofs.RowWords.{upper_state}
use Rattle.cipher.proofs.row_words.second.Goals as goal

pub returns : goal.returns
returns c = upper_state c.args.s _ refl refl refl refl
