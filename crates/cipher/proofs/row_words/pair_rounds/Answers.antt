-- `row_words::pair_rounds` meets its contract. The loop's invariant: the rounds before that of the key are done. Assumes nothing.
use mathlib.Core.Path.{◌≡◌}
use Prim.Native.Nat.{◌+◌, ◌<◌}
use native.Mathlib.Omega.{arith}
use lib.ListN.{drop, length-take}
use Rattle.octets.proofs.Lists.{part_at}
use Rattle.cipher.specs.RowWords.{no_rows}
use Rattle.cipher.proofs.RowWords.{onward_two}
use Rattle.cipher.proofs.row_words.pair_rounds.Goals as goal

pub loop-key-preserved : goal.loop-key-preserved
loop-key-preserved c =
    let i = c.loop-key.key-index in
    let few : i < 8 = omega (arith, length-take 8 (drop 2 c.args.keys)) in
    let place : 2 + i ≡ i + 1 + 1 = omega arith in
    record {
      holds = λ e.
          onward_two c.args.keys (i + 1) (omega arith) (c.loop-key.invariant.holds e)
          (rw (part_at c.args.keys 2 8 i no_rows few, place) at (c.pair_round-s.ensures.holds e));
    }
