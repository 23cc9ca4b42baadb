-- `capture::listing::put_rows` meets its contract: the loop's invariant: the walk is ahead of record i, and the rows of the records
-- before it stand behind the first `at` octets. Assumes nothing.
use mathlib.Core.Path.{◌≡◌, ap₂, ◌∙◌}
use Prim.Native.Nat.{◌+◌}
use native.Mathlib.Omega.{arith}
use Rattle.rows.proofs.Texts.{line_put}
use Rattle.reading.specs.Listing.{line_octets}
use Rattle.directory.proofs.Records.{good}
use Rattle.directory.proofs.Filling.{no_rows, one_row}
use Rattle.capture.specs.Walk.{row_walked}
use Rattle.capture.proofs.Walks.{start_ahead, turned}
use Rattle.capture.proofs.listing.put_rows.Goals as goal

pub loop-i-init : goal.loop-i-init
loop-i-init g c = (start_ahead _ _ _ c.requires.block_value c.start-walk.ensures, no_rows _ _ _ _)

pub loop-i-preserved : goal.loop-i-preserved
loop-i-preserved g c =
    let v = c.loop-i.invariant.1 in
    let q = c.turn-turn.ensures in
    let x = turned _ _ _ c.requires.block_value c.loop-i.invariant.0 c.loop-i-test.true q.from q.header q.verdict q.drift q.next in
    let short = c.row.ensures.short (omega (arith, x.reached.few)) (omega (arith, x.reached.end)) in
    let put =
    line_put _ _ _ _ line_octets _ c.put_line-end.ensures short
    (omega (arith, c.requires.body_octets_in_bounds, x.reached.few, v.size, v.high)) in
    let rows = row_walked g.J.Judge.listed (g.J.Judge.judged c.args.judge.now) c.args.block.now in
    (x.ahead, one_row {f = rows} v c.put_line-end.auto.text put (c.row.ensures.text ∙ ap₂ (g.J.Judge.listed (c.loop-i.i + 1)) x.reached.header x.verdict))

pub returns : goal.returns
returns g c =
    let r = good _ _ c.requires.block_value in
    let v = c.loop-i.invariant.1 in
    let e : c.loop-i.i ≡ c.args.n = omega arith in
    record { lower_bound = (v.low, omega (arith, v.high, r.count, r.sizes.few)); text_after = rw e at v.front; text_unchanged = v.rest }
