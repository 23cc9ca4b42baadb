-- `capture::opening::open_as` meets its contract: what the verdict says is done, and the output is kept or opened in place accordingly. Assumes nothing.
use Rattle.std.specs.Prelude.{Ok}
use mathlib.Core.Path.{refl, ap, ◌∙◌}
use Prim.Native.Nat.{◌+◌}
use native.Mathlib.Omega.{arith}
use Rattle.envelope.specs.ControlMask.{count_enciphered, runs}
use Rattle.cipher.specs.declared.aes128.RoundKeys.{RoundKeys}
use Rattle.records.specs.declared.header.Header.{Header}
use Rattle.reading.specs.Opening.{written_as, added_as}
use Rattle.directory.proofs.Rebuilding.{kept_record}
use Rattle.capture.proofs.InPlace.{opened_by, key_expanded, nonce_fits-holds}
use Rattle.capture.proofs.opening.open_as.Goals as goal

pub open_part-requires : goal.open_part-requires
open_part-requires c =
    let ready = c.requires.ready in
    let size = c.record_octets.ensures in
    let eqs = ap (λ (q : Header). q.eqs) c.requires.settled.header in
    -- the record can be opened under this index and at this clock
    let opens = c.requires.settled.opens c.in-Sealed.index c.in-Sealed.clock (c.in-Ok.is ∙ ap Ok c.in-Sealed.is) in
    record {
      span = record {
        header = omega (arith, size);
        whole = omega (arith, size);
        inside = omega (arith, size, eqs, ready.inside);
        size = ready.size;
        most = ready.most;
      };
      nonce_value = nonce_fits-holds c.args.turn.header _ _ opens.fits c.mac.ensures.1 opens.clock;
    }

pub returns-in-Clear : goal.returns-in-Clear
unfolding added_as written_as
returns-in-Clear c =
    rw (c.in-Ok.is, c.in-Clear.is) (record {
      took_as = record { count = refl; runs = refl };
      output_after = kept_record c.args.block.now c.args.output.now c.args.turn.from c.requires.ready.same;
    })

pub returns-in-Err : goal.returns-in-Err
unfolding added_as written_as
returns-in-Err c =
    rw c.in-Err.is (record {
      took_as = record { count = refl; runs = refl };
      output_after = kept_record c.args.block.now c.args.output.now c.args.turn.from c.requires.ready.same;
    })

pub returns-in-Sealed : goal.returns-in-Sealed
returns-in-Sealed c =
    let q = c.open_part.ensures in
    let a = c.args in
    let ready = c.requires.ready in
    let header = c.requires.settled.header in
    let j = c.in-Sealed.index in
    let size = c.record_octets.ensures in
    -- the record can be opened under this index and at this clock
    let opens = c.requires.settled.opens c.in-Sealed.index c.in-Sealed.clock (c.in-Ok.is ∙ ap Ok c.in-Sealed.is) in
    let key = ap (λ (w : RoundKeys). w.octets) c.key_for.ensures ∙ key_expanded _ _ j ready.expanded opens.present opens.index in
    let o =
    opened_by a.settings.now a.block.now a.output.now a.turn.from ready.same j c.in-Sealed.clock c.mac.result
    c.cleared.result a.turn.header c.key_for.result.octets (a.turn.from + c.record_octets.result) header (rw size)
    (omega (arith, ap (λ (q : Header). q.eqs) header, ready.inside)) c.cleared.ensures
    c.mac.ensures.0 key in
    rw (c.in-Ok.is, c.in-Sealed.is) (record {
      took_as = record { count = q.took.count ∙ o.0 count_enciphered; runs = q.took.runs ∙ o.0 runs };
      output_after = q.output_after ∙ o.1;
    })
