-- `class::opening::open_told` meets its contract: what the verdict says is done, and the output is kept or opened in place accordingly. Assumes nothing.
use Rattle.std.specs.Prelude.{Ok}
use mathlib.Core.Path.{◌≡◌, refl, sym, ap, ◌∙◌}
use mathlib.Core.List.{List}
use Prim.Native.Nat.{ℕ, ◌+◌, ◌-◌, ◌*◌}
use native.Mathlib.Omega.{arith}
use lib.ListN.{length}
use Rattle.octets.specs.Lists.{part}
use Rattle.octets.specs.Output.{WithOutput}
use Rattle.envelope.specs.ControlMask.{count_enciphered, runs}
use Rattle.records.specs.declared.header.Header.{Header}
use Rattle.records.specs.Settings.{mac_of}
use Rattle.records.specs.Block.{record_from}
use Rattle.records.specs.Record.{record_octets}
use Rattle.envelope.specs.declared.Work.{Work}
use Rattle.reading.specs.Opening.{written_as, added_as}
use Rattle.directory.proofs.Rebuilding.{kept_record}
use Rattle.capture.proofs.InPlace.{opened_by, nonce_fits-holds}
use Rattle.capture.proofs.Spans.{lies_fits, span_opened}
use Rattle.rights.specs.Settings.{set_of}
use Rattle.class.proofs.Expanding.{handed}
use Rattle.class.proofs.opening.open_told.Goals as goal
use Rattle.records.specs.declared.header.Access.TheVariants.{Sealed}

pub returns-in-Clear : goal.returns-in-Clear
unfolding added_as written_as
returns-in-Clear c =
    rw (c.in-Ok.is, c.in-Clear.is) (record {
      took_as = record { count = refl; runs = refl };
      output_after = kept_record c.args.block.now c.args.output.now c.args.turn.from c.requires.ready.same;
    })

pub returns-in-Err : goal.returns-in-Err
unfolding added_as written_as
returns-in-Err c =
    rw c.in-Err.is (record {
      took_as = record { count = refl; runs = refl };
      output_after = kept_record c.args.block.now c.args.output.now c.args.turn.from c.requires.ready.same;
    })

pub overflow_add-j : goal.overflow_add-j
overflow_add-j c =
    -- the record can be opened under this index and at this clock
    let opens = c.requires.settled_as.opens c.in-Sealed.index c.in-Sealed.clock (c.in-Ok.is ∙ ap Ok c.in-Sealed.is) in
    record { fits = omega (arith, c.requires.j_lt_most_sets.0, opens.index) }

pub returns-in-Sealed : goal.returns-in-Sealed
returns-in-Sealed c =
    let a = c.args in
    let i = c.in-Sealed.index in
    let t = c.in-Sealed.clock in
    let h = a.turn.header in
    let ready = c.requires.ready in
    let settled = c.requires.settled_as in
    -- the record can be opened under this index and at this clock
    let opens = c.requires.settled_as.opens c.in-Sealed.index c.in-Sealed.clock (c.in-Ok.is ∙ ap Ok c.in-Sealed.is) in
    let eqs = ap (λ (y : Header). y.eqs) settled.header in
    let mac : c.mac.result ≡ mac_of (set_of a.sets.now a.j) = c.mac.ensures.0 ∙ rw c.set_at.ensures in
    let key =
    c.key_at-expanded.ensures ∙ handed a.keys.now (2 * a.j + i) c.requires.j_lt_most_sets.1 (omega (arith, c.requires.j_lt_most_sets.0, opens.index))
    ∙ settled.key i t (c.in-Ok.is ∙ ap Ok c.in-Sealed.is) in
    let fits =
    lies_fits (record { channel = h.channel; mac = c.mac.result; clock = t }) (length a.block.now) (length a.output.now)
    (a.turn.from + record_octets h.eqs)
    (record {
      inside = omega (arith, eqs, ready.inside);
      same = ready.size;
      most = ready.most;
      fits = nonce_fits-holds h _ _ opens.fits c.mac.ensures.1 opens.clock;
    }) in
    let end : a.turn.from + record_octets h.eqs - (a.turn.from + 16) ≡ 9 * h.eqs = omega arith in
    let o =
    opened_by (set_of a.sets.now a.j) a.block.now a.output.now a.turn.from ready.same i t c.mac.result
    c.cleared-flags.result h c.key_at-expanded.result.octets (a.turn.from + record_octets h.eqs) settled.header refl
    (omega (arith, eqs, ready.inside)) c.cleared-flags.ensures mac key in
    let z = c.open_span.ensures ∙ span_opened _ _ _ _ _ _ _ fits in
    let p = part a.block.now (a.turn.from + 16) in
    let took : (f : List ℕ → ℕ) → f (p (9 * h.eqs)) ≡ added_as f (record_from a.block.now a.turn.from) (Ok (Sealed i t)) =
    λ f. ap (λ (n : ℕ). f (p n)) (sym end) ∙ o.0 f in
    rw (c.in-Ok.is, c.in-Sealed.is) (record {
      took_as = record {
        count = ap (λ (y : WithOutput Work). y.answer.count) z ∙ took count_enciphered;
        runs = ap (λ (y : WithOutput Work). y.answer.runs) z ∙ took runs;
      };
      output_after = ap (λ (y : WithOutput Work). y.output) z ∙ rw (sym end) o.1;
    })
