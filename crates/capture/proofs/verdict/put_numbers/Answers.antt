-- `capture::verdict::put_numbers` meets its contract: the loop's invariant: the walk is ahead of record i, and the codes of the records
-- before it fill the output from the front. Assumes nothing.
use mathlib.Core.Path.{◌≡◌, refl, sym, ap, ◌∙◌}
use Prim.Native.Nat.{ℕ, ◌+◌}
use native.Mathlib.Omega.{arith}
use Rattle.records.specs.Verdict.{record_number}
use Rattle.reading.specs.Reading.{asked_by, numbers_by}
use Rattle.directory.proofs.Records.{good}
use Rattle.directory.proofs.Filling.{fill_more}
use Rattle.reading.proofs.Readings.{asked_own}
use Rattle.capture.proofs.Turns.{walked, verdict_is}
use Rattle.capture.proofs.Walks.{start_ahead, turned}
use Rattle.capture.proofs.verdict.put_numbers.Goals as goal

pub loop-i-init : goal.loop-i-init
loop-i-init c = (start_ahead _ _ _ c.requires.settings_value.1 c.start-walk.ensures, refl)

pub bounds-output-i : goal.bounds-output-i
bounds-output-i c =
    let r = good _ _ c.requires.settings_value.1 in
    omega (arith, r.count, r.sizes.few, c.requires.output_len)

pub loop-i-preserved : goal.loop-i-preserved
loop-i-preserved c =
    let near = c.args.reader.now.near in
    let s = c.args.reader.now.settings.now in
    let b = c.args.block.now in
    let i = c.loop-i.i in
    let v = c.loop-i.invariant in
    let q = c.turn.ensures in
    let x = turned _ _ _ c.requires.settings_value.1 v.0 c.loop-i-test.true q.from q.header q.verdict q.drift q.next in
    let own : c.number.result ≡ record_number (asked_by near s b (i + 1)) =
    c.number.ensures
    ∙ ap record_number (x.verdict ∙ verdict_is near s b i
    ∙ sym (asked_own near s b c.args.n i c.requires.settings_value.0 c.requires.settings_value.1 c.loop-i-test.true)) in (
      x.ahead,
      rw (v.1, own)
          (fill_more (λ (j : ℕ). record_number (asked_by near s b (j + 1))) c.args.output.now i (omega (arith, x.reached.few, c.requires.output_len))),
    )

pub returns : goal.returns
unfolding numbers_by
returns c =
    let v = c.loop-i.invariant in
    let e : c.loop-i.i ≡ c.args.n = omega arith in
    record { value = v.0.drift ∙ walked _ _ _ _ ∙ rw e; output_after = v.1 ∙ rw e }
