-- `capture::verdict::verdicts_by` meets its contract: the codes of an accepted call, a refused one changing nothing. Assumes nothing.
use Rattle.std.specs.Prelude.{Ok}
use mathlib.Core.Path.{◌≡◌, sym, ◌∙◌}
use lib.Dec.{eqb}
use lib.ListN.{length}
use borrow.Author.Tests.{eqb-true}
use Rattle.records.specs.Block.{most_records}
use Rattle.reading.specs.Verdict.{call_directory}
use Rattle.directory.proofs.Records.{good}
use Rattle.reading.proofs.Opening.{call_good}
use Rattle.reading.proofs.Readings.{judging_bad, judging_good}
use Rattle.capture.proofs.verdict.verdicts_by.Goals as goal

pub put_numbers-drift-requires : goal.put_numbers-drift-requires
put_numbers-drift-requires c =
    -- what the call found, and what that tells
    let found : call_directory (eqb (length c.args.output.now) most_records) c.args.settings.now c.args.block.now ≡ Ok c.in-Ok.n =
    sym c.call_directory.ensures ∙ c.in-Ok.is in
    let q = call_good _ _ _ _ found in
    record { settings_value = (q.1, q.2); output_len = eqb-true _ _ q.0 }

pub returns-in-Err : goal.returns-in-Err
returns-in-Err c =
    judging_bad _ _ _ _ _ (sym c.call_directory.ensures ∙ c.in-Err.is)

pub returns-in-Ok : goal.returns-in-Ok
returns-in-Ok c =
    let q = c.put_numbers-drift.ensures in
    -- what the call found, and what that tells
    let found : call_directory (eqb (length c.args.output.now) most_records) c.args.settings.now c.args.block.now ≡ Ok c.in-Ok.n =
    sym c.call_directory.ensures ∙ c.in-Ok.is in
    judging_good _ _ _ _ _ found (good _ _ (call_good _ _ _ _ found).2).count _ _ _ _ q.value c.signed.ensures c.signed-in-Ok.ensures
    q.output_after
