-- `class::asker::Asker::write` meets its contract, verdict by verdict. Assumes nothing.
use mathlib.Core.Path.{refl, ap, ◌∙◌}
use native.Mathlib.Omega.{arith}
use Rattle.records.specs.declared.header.Header.{Header}
use Rattle.directory.proofs.Rebuilding.{kept_record}
use Rattle.class.specs.Opening.{written_for, added_for}
use Rattle.class.proofs.Placing.{hidden_placed}
use Rattle.class.proofs.asker.Asker.write.Goals as goal

pub hide-requires : goal.hide-requires
hide-requires c =
    let ready = c.requires.ready in
    let eqs = ap (λ (y : Header). y.eqs) c.requires.settled_for.header in
    (omega (arith, eqs, ready.inside, ready.size), omega (arith, ready.size, ready.most))

pub open_told-requires : goal.open_told-requires
open_told-requires c =
    let j = c.set_for-j.ensures in
    record {
      j_lt_most_sets = (omega (arith, j, c.requires.settled_for.set _ c.in-Told.is), c.requires.keys_len);
      ready = c.requires.ready;
      settled_as = rw j (c.requires.settled_for.told _ c.in-Told.is);
    }

pub returns-in-Hidden : goal.returns-in-Hidden
unfolding written_for added_for
returns-in-Hidden c =
    let a = c.args in
    rw c.in-Hidden.is (record {
      took_for = record { count = refl; runs = refl };
      output_after = c.hide.ensures
          ∙ hidden_placed a.block.now a.output.now a.turn.from a.turn.header.eqs c.requires.ready.same
          (ap (λ (y : Header). y.eqs) c.requires.settled_for.header);
    })

pub returns-in-Seen : goal.returns-in-Seen
unfolding written_for added_for
returns-in-Seen c =
    rw c.in-Seen.is (record {
      took_for = record { count = refl; runs = refl };
      output_after = kept_record c.args.block.now c.args.output.now c.args.turn.from c.requires.ready.same;
    })

pub returns-in-Told : goal.returns-in-Told
unfolding written_for added_for
returns-in-Told c =
    let o = c.open_told.ensures in
    rw c.in-Told.is (record {
      took_for = record { count = o.took_as.count; runs = o.took_as.runs };
      output_after = o.output_after ∙ rw c.set_for-j.ensures;
    })
