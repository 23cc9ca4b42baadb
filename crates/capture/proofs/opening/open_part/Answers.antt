-- `capture::opening::open_part` meets its contract: the sealing call accepts, and the part comes back in its place. Assumes nothing.
use mathlib.Core.Path.{◌∙◌}
use Prim.Native.Nat.{◌+◌, ◌-◌}
use native.Mathlib.Omega.{arith}
use lib.ListN.{set, length-set}
use Rattle.capture.proofs.InPlace.{part_sealed}
use Rattle.capture.proofs.opening.open_part.Goals as goal

pub returns : goal.returns
returns c =
    let a = c.args in
    let span = c.requires.span in
    let out = set a.output.now (a.from + 4) a.flags in
    let q =
    part_sealed a.keys.octets a.nonce a.block.now out (a.from + 16) (a.to - (a.from + 16)) (omega (arith, span.header, span.inside))
    (simp length-set span.size) span.whole (omega (arith, span.inside, span.most)) c.requires.nonce_value _ _ c.seal_expanded-answer.ensures in
    record { took = record { count = c.seal_count.ensures ∙ q.0; runs = c.seal_runs.ensures ∙ q.1 }; output_after = q.2 }
