-- `capture::opening::open_by` meets its contract: a refused call changes nothing, an accepted one copies and opens. Assumes nothing.
use Rattle.std.specs.Prelude.{Ok}
use mathlib.Core.Path.{◌≡◌, sym, ◌∙◌}
use lib.Dec.{eqb}
use lib.ListN.{length}
use borrow.Author.Tests.{eqb-true}
use Rattle.octets.proofs.Lists.{copied_whole}
use Rattle.reading.specs.Verdict.{call_directory}
use Rattle.reading.proofs.Opening.{call_good, found_bad, found_good}
use Rattle.reading.proofs.Readings.{opening_bad}
use Rattle.capture.proofs.Turns.{opening_good}
use Rattle.capture.proofs.opening.open_by.Goals as goal

pub open_records-read-requires : goal.open_records-read-requires
open_records-read-requires c =
    let a = c.args in
    -- what the call found, and what that tells
    let found : call_directory (eqb (length c.args.output.now) (length c.args.block.now)) c.args.settings.now c.args.block.now ≡ Ok c.in-Ok.n =
    sym c.call_directory.ensures ∙ c.in-Ok.is in
    let q = call_good _ _ _ _ found in
    record {
      expanded = c.expand_keys-keys.ensures;
      good = q.2;
      copied = c.copy.ensures ∙ copied_whole a.block.now a.output.now (eqb-true _ _ q.0);
    }

pub returns-in-Err : goal.returns-in-Err
returns-in-Err c =
    opening_bad _ _ _ _ _ (found_bad _ _ _ _ (sym c.call_directory.ensures ∙ c.in-Err.is))

pub returns-in-Ok : goal.returns-in-Ok
returns-in-Ok c =
    let q = c.open_records-read.ensures in
    -- what the call found, and what that tells
    let found : call_directory (eqb (length c.args.output.now) (length c.args.block.now)) c.args.settings.now c.args.block.now ≡ Ok c.in-Ok.n =
    sym c.call_directory.ensures ∙ c.in-Ok.is in
    opening_good _ _ _ _ (found_good _ _ _ _ found) _ _ _ _ _ q.took_all c.expansions.ensures c.signed.ensures c.signed-in-Ok.ensures
    q.output_after
