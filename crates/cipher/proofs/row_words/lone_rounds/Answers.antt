-- `row_words::lone_rounds` meets its contract. The loop's invariant: n rounds are done, but for the last key. Assumes nothing.
use Rattle.cipher.proofs.RowWords.{onward_one}
use Rattle.cipher.proofs.row_words.lone_rounds.Goals as goal

pub loop-n-preserved : goal.loop-n-preserved
loop-n-preserved c =
    let loop = c.loop-n in
    record { holds = λ e. onward_one c.args.w.now loop.n _ (loop.invariant.holds e) c.round_key.ensures (c.lone_round-s.ensures.holds e) }
