-- `recordings::partners::Held::partner` meets its contract: what stands in the table is the partner, or the count. Assumes nothing.
use borrow.Author.Tests.{eq-eqb}
use native.Mathlib.Omega.{arith}
use Rattle.records.specs.Block.{records_in, record_of}
use Rattle.sameness.specs.Pairing.{alone}
use Rattle.sameness.proofs.Pairing.{first_high}
use Rattle.recordings.proofs.partners.Held.partner.Goals as goal

pub returns-else-p-count : goal.returns-else-p-count
unfolding alone
returns-else-p-count c =
    let held = c.args.self.now in
    let high = first_high (record_of held.block.now c.args.i) held.other.now 0 (records_in held.other.now) in
    eq-eqb _ _ (omega (arith, high, held.listed c.args.i c.requires, c.count.ensures, c.if-p-count.false))
