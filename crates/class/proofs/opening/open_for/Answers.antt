-- `class::opening::open_for` meets its contract: a refused call changes nothing, an accepted one expands the keys, copies and opens. Assumes nothing.
use Rattle.std.specs.Prelude.{Ok}
use mathlib.Core.Path.{◌≡◌, refl, sym, ◌∙◌}
use lib.Dec.{eqb}
use lib.ListN.{length}
use borrow.Author.Tests.{eqb-true}
use Rattle.octets.proofs.Lists.{copied_whole}
use Rattle.class.specs.Reading.{call_for}
use Rattle.class.specs.Opening.{opening_after, opening_for}
use Rattle.class.proofs.Calls.{found, opening_good}
use Rattle.class.proofs.Secrets.{secret}
use Rattle.class.proofs.Readers.{reads_own, few_expansions}
use Rattle.class.proofs.Alone.{reads_alone}
use Rattle.class.proofs.Examples.{pair}
use Rattle.class.proofs.opening.open_for.Goals as goal

pub expand-expanded-requires : goal.expand-expanded-requires
expand-expanded-requires c =
    -- what the call found, and what that tells
    let went_on : call_for (eqb (length c.args.output.now) (length c.args.block.now)) c.args.caller c.args.sets.now c.args.rights.now c.args.block.now
    ≡ Ok c.in-Ok.n =
    sym c.call.ensures ∙ c.in-Ok.is in
    let f = found _ _ _ _ _ _ went_on in
    (f.valid.few, refl)

pub open_records-read-requires : goal.open_records-read-requires
open_records-read-requires c =
    -- what the call found, and what that tells
    let went_on : call_for (eqb (length c.args.output.now) (length c.args.block.now)) c.args.caller c.args.sets.now c.args.rights.now c.args.block.now
    ≡ Ok c.in-Ok.n =
    sym c.call.ensures ∙ c.in-Ok.is in
    let f = found _ _ _ _ _ _ went_on in
    record {
      expanded = c.expand-expanded.ensures.expanded;
      good = f.good;
      copied = c.copy.ensures ∙ copied_whole c.args.block.now c.args.output.now (eqb-true _ _ f.suited);
      few = f.valid.few;
      size = c.expand-expanded.auto.keys;
    }

pub returns-in-Err : goal.returns-in-Err
unfolding opening_for opening_after
returns-in-Err c =
    record {
      output_after = rw (← c.call.ensures, c.in-Err.is);
      secret = secret c.args.near c.args.caller c.args.sets.now c.args.rights.now c.args.block.now c.args.output.now;
      reader = record {
        own = reads_own c.args.caller c.args.sets.now c.args.rights.now c.args.block.now;
        alone = reads_alone c.args.near c.args.sets.now c.args.block.now c.args.output.now;
        few = few_expansions c.args.caller c.args.sets.now c.args.rights.now c.args.block.now;
      };
      example = pair;
    }

pub returns-in-Ok : goal.returns-in-Ok
returns-in-Ok c =
    -- what the call found, and what that tells
    let went_on : call_for (eqb (length c.args.output.now) (length c.args.block.now)) c.args.caller c.args.sets.now c.args.rights.now c.args.block.now
    ≡ Ok c.in-Ok.n =
    sym c.call.ensures ∙ c.in-Ok.is in
    let f = found _ _ _ _ _ _ went_on in
    let q = c.open_records-read.ensures in
    record {
      output_after =
          opening_good _ _ _ _ _ _ _ went_on _ _ _ _ _ q.took_all_for c.expand-expanded.ensures.value c.signed.ensures c.signed-in-Ok.ensures
          q.output_after;
      secret = secret c.args.near c.args.caller c.args.sets.now c.args.rights.now c.args.block.now c.args.output.now;
      reader = record {
        own = reads_own c.args.caller c.args.sets.now c.args.rights.now c.args.block.now;
        alone = reads_alone c.args.near c.args.sets.now c.args.block.now c.args.output.now;
        few = few_expansions c.args.caller c.args.sets.now c.args.rights.now c.args.block.now;
      };
      example = pair;
    }
