-- `records::block::header_from` meets its contract: a header is read of as many octets as it has. Assumes nothing.
use mathlib.Core.Path.{◌∙◌}
use native.Mathlib.Omega.{arith}
use Rattle.records.specs.Block.{header_from}
use Rattle.records.proofs.Headers.{header_taken}
use Rattle.records.proofs.block.header_from.Goals as goal

pub returns : goal.returns
unfolding header_from
returns c =
    record { value = c.read.ensures.value ∙ rw c.part_of.ensures (header_taken 16 _ (omega arith)); clock_lt_six_octets = c.read.ensures.clock_lt_six_octets }
