-- `row_words::lone_rounds` meets its contract. The loop's invariant: n rounds are done, but for the last key. Assumes nothing.
use mathlib.Core.Path.{◌≡◌}
use Rattle.cipher.specs.Cipher.{round_key, rounds}
use Rattle.cipher.specs.RowWords.{BySbox, keyed_state}
use Rattle.cipher.proofs.row_words.lone_rounds.Given as goal

abbrev pub invariant-loop-n : goal.invariant-loop-n
invariant-loop-n l = BySbox l.subs (keyed_state (round_key l.w l.n) l.s ≡ rounds l.w l.n (keyed_state (round_key l.w 0) l.initial.s))
