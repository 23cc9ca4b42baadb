-- `row_words::pair_keys` meets its contract. The loop's invariant: the keys below n are made. Assumes nothing.
use mathlib.Core.Path.{◌≡◌}
use lib.ListN.{length}
use Rattle.cipher.specs.RowWords.{PairKeys}
use Rattle.cipher.proofs.row_words.pair_keys.Given as goal

abbrev pub invariant-loop-n : goal.invariant-loop-n
invariant-loop-n l = (length l.key-items ≡ 10) × PairKeys l.w l.n l.key-items
