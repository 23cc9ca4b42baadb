-- `key_expansion::expand_with` meets its contract. The loop keeps the array at the round keys made so far, and k at the last of them. Assumes nothing.
use mathlib.Core.Path.{◌≡◌, ◌∙◌}
use native.Mathlib.Nat.{zero-add}
use native.Mathlib.Omega.{arith}
use lib.ListN.{replicate, get_or}
use Rattle.octets.proofs.Lists.{tabulate_at}
use Rattle.gf256.specs.Table.{power_of_x, round_constants}
use Rattle.cipher.proofs.KeyExpansion.{turned}
use Rattle.cipher.proofs.key_expansion.expand_with.Goals as goal

pub loop-n-preserved : goal.loop-n-preserved
unfolding round_constants
loop-n-preserved c =
    let l = c.loop-n in
    let made = c.next_key-next in
    let x = get_or c.round_constants.result l.n 0 in
    let power : x ≡ power_of_x l.n = rw c.round_constants.ensures (tabulate_at 0 10 power_of_x l.n 0 (omega arith) ∙ rw zero-add) in
    let i = l.invariant in
    let turn = turned c.args.key (replicate 176 0) l.w l.k made.result l.n x i.0 i.1 i.2 made.ensures power in
    (i.0, turn.0, c.put-in-loop-n.ensures ∙ turn.1)
