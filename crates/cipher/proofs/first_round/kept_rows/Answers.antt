-- `first_round::kept_rows` meets its contract: what block 0 has where the index does not matter, every block has. Assumes nothing.
use mathlib.Core.Path.{◌∙◌}
use native.Mathlib.Omega.{arith}
use Rattle.cipher.proofs.FirstRound.{fixed_columns, kept_row, whole_row, without_0, without_1, without_2}
use Rattle.cipher.proofs.first_round.kept_rows.Goals as goal

pub returns : goal.returns
returns c =
    let w = c.args.w.now in
    let entry = c.rows_of-s.ensures ∙ c.counter_block.ensures in
    let own = c.round_key-key.ensures in
    let n = c.args.nonce in
    let s = c.rows_of-s.result in
    record {
      holds = λ e.
          record {
            first = kept_row w n s entry own 0 4 (omega arith) (λ k l t. omega arith) (c.keyed_row-a.ensures.0.holds e)
                (whole_row _) c.twice.ensures;
            second = kept_row w n s entry own 1 2 (omega arith) (λ k l t. fixed_columns 1 2 k (omega arith) l t) (c.keyed_row-b.ensures.0.holds e)
                (without_2 _) c.twice-2.ensures;
            third = kept_row w n s entry own 2 1 (omega arith) (λ k l t. fixed_columns 2 1 k (omega arith) l t)
                (c.keyed_row-c.ensures.0.holds e) (without_1 _) c.twice-3.ensures;
            fourth = kept_row w n s entry own 3 0 (omega arith) (λ k l t. fixed_columns 3 0 k (omega arith) l t) (c.keyed_row-d.ensures.0.holds e)
                (without_0 _) c.twice-4.ensures;
          };
    }
