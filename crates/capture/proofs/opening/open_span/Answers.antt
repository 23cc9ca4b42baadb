-- `capture::opening::open_span` meets its contract: its test is that of the definition. Assumes nothing.
use mathlib.Core.Path.{◌≡◌, sym, ap, ◌∙◌}
use mathlib.Core.Bool.{true}
use Prim.Native.Nat.{ℕ, ◌+◌, ◌-◌, ◌*◌}
use native.Mathlib.Omega.{arith}
use lib.ListN.{length}
use Rattle.octets.specs.Lists.{part}
use Rattle.envelope.specs.ControlMask.{count_enciphered, runs}
use Rattle.records.specs.Record.{record_octets}
use Rattle.capture.specs.Span.{span_fits}
use Rattle.capture.proofs.Spans.{lies, opening_is, span_opened, span_left}
use Rattle.capture.proofs.opening.open_span.Goals as goal

pub returns-then-not-span_fits : goal.returns-then-not-span_fits
returns-then-not-span_fits c =
    -- the test, on the record's end as the definition has it
    let tested : c.span_fits.result ≡ span_fits c.args.nonce (length c.args.block.now) (length c.args.output.now) (c.args.from + record_octets c.args.eqs) =
    c.span_fits.ensures ∙ rw c.record_octets.ensures in
    span_left _ _ _ _ _ _ _ (sym tested ∙ c.if-not-span_fits.true)

pub open_part-requires : goal.open_part-requires
open_part-requires c =
    let size = c.record_octets.ensures in
    -- the test, on the record's end as the definition has it
    let tested : c.span_fits.result ≡ span_fits c.args.nonce (length c.args.block.now) (length c.args.output.now) (c.args.from + record_octets c.args.eqs) =
    c.span_fits.ensures ∙ rw c.record_octets.ensures in
    let fits : span_fits c.args.nonce (length c.args.block.now) (length c.args.output.now) (c.args.from + record_octets c.args.eqs) ≡ true =
    sym tested ∙ c.if-not-span_fits.false in
    let l = lies _ _ _ _ fits in
    record {
      span = record {
        header = omega (arith, size);
        whole = omega (arith, size);
        inside = omega (arith, size, l.inside);
        size = l.same;
        most = l.most;
      };
      nonce_value = l.fits;
    }

pub returns : goal.returns
returns c =
    let g = c.args in
    let q = c.open_part.ensures in
    -- the test, on the record's end as the definition has it
    let tested : c.span_fits.result ≡ span_fits c.args.nonce (length c.args.block.now) (length c.args.output.now) (c.args.from + record_octets c.args.eqs) =
    c.span_fits.ensures ∙ rw c.record_octets.ensures in
    let fits : span_fits c.args.nonce (length c.args.block.now) (length c.args.output.now) (c.args.from + record_octets c.args.eqs) ≡ true =
    sym tested ∙ c.if-not-span_fits.false in
    let end : g.from + c.record_octets.result - (g.from + 16) ≡ 9 * g.eqs = omega (arith, c.record_octets.ensures) in
    let p = part g.block.now (g.from + 16) in
    opening_is (q.took.count ∙ ap (λ (k : ℕ). count_enciphered (p k)) end) (q.took.runs ∙ ap (λ (k : ℕ). runs (p k)) end) (q.output_after ∙ rw end)
    ∙ sym (span_opened _ _ _ _ _ _ _ fits)
