-- `row_words::pair_rounds` meets its contract. The loop's invariant: the rounds before that of the key are done. Assumes nothing.
use Prim.Native.Nat.{◌+◌}
use Rattle.cipher.specs.RowWords.{BySbox, Reached}
use Rattle.cipher.proofs.row_words.pair_rounds.Given as goal

abbrev pub invariant-loop-key : goal.invariant-loop-key
invariant-loop-key l = BySbox l.subs (Reached l.fn.keys (l.key-index + 1) l.initial.s l.s)
