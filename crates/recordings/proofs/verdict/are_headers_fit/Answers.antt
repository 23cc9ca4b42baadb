-- `recordings::verdict::are_headers_fit` meets its contract: the test of each record is that of the definition. Assumes nothing.
use Rattle.std.proofs.Common.{rules}
use borrow.Author.Tests.{tests}
use Rattle.octets.proofs.Chains.{each_from_all}
use Rattle.records.specs.Block.{records_in, record_of}
use Rattle.records.specs.Record.{record_header}
use Rattle.records.specs.Verdict.{header_fits}
use Rattle.recordings.specs.Comparing.{headers_fit}
use Rattle.recordings.proofs.verdict.are_headers_fit.Goals as goal

pub returns : goal.returns
unfolding headers_fit
returns c =
    let b = c.args.block.now in
    each_from_all (λ i. header_fits (record_header (record_of b i))) (records_in b) _ _ _ (rw c.count.ensures) c.all.ensures.ran
    (λ x b q k. search (rules, tests))
