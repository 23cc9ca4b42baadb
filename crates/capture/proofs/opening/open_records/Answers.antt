-- `capture::opening::open_records` meets its contract: the loop's invariant: the walk is ahead of the next record, the records before it
-- are opened, the rest of the output is the block's, and the totals are theirs. Assumes nothing.
use mathlib.Core.Path.{sym, ◌∙◌}
use Prim.Native.Nat.{◌+◌, ◌<◌, ◌^◌}
use native.Mathlib.Omega.{arith}
use Rattle.envelope.specs.ControlMask.{count_enciphered}
use Rattle.envelope.specs.ControlMask as Mask
use Rattle.reading.specs.Opening.{written_as, added_as}
use Rattle.reading.specs.Reading.{total_by}
use Rattle.directory.proofs.Records.{of_record}
use Rattle.reading.proofs.Opening.{enciphered_below, runs_below-holds, adds_few}
use Rattle.reading.proofs.Loops.{sum_room, none_opened, still_copied, one_opened, all_opened}
use Rattle.capture.proofs.Turns.{judged_opens, walked, verdict_is}
use Rattle.capture.proofs.Walks.{start_ahead, turned}
use Rattle.capture.proofs.opening.open_records.Invariants.{suits}
use Rattle.capture.proofs.opening.open_records.Goals as goal

pub loop-init : goal.loop-init
loop-init c =
    let a = start_ahead _ _ _ c.requires.good c.start-walk.ensures in
    none_opened (suits _ _ _ _ c.requires.good) c.requires.copied a.place a.drift

pub open_as-more-requires : goal.open_as-more-requires
open_as-more-requires c =
    let v = c.loop.invariant in
    let q = c.turn-turn.ensures in
    let x = turned _ _ _ c.requires.good (record { place = v.place; drift = v.drift }) c.loop-test.true q.from q.header q.verdict q.drift q.next in
    record {
      ready = record {
        expanded = c.requires.expanded;
        inside = x.reached.here.inside;
        size = v.size;
        most = x.reached.records.sizes.most;
        same = still_copied (suits _ _ _ _ c.requires.good) v x.place c.loop-test.true;
      };
      settled = record {
        header = rw q.from q.header;
        opens = λ i t e. judged_opens _ _ _ _ q.clock i t (sym q.verdict ∙ e);
      };
    }

pub overflow_add-work : goal.overflow_add-work
overflow_add-work c =
    let v = c.loop.invariant in
    let q = c.turn-turn.ensures in
    let x = turned _ _ _ c.requires.good (record { place = v.place; drift = v.drift }) c.loop-test.true q.from q.header q.verdict q.drift q.next in
    -- what a record adds is its own, and the sum has room for it
    let adds = c.open_as-more.ensures.took_as.count ∙ of_record _ _ _ x.reached.here _ _ (x.verdict ∙ verdict_is _ _ _ _) (added_as count_enciphered) in
    let room : c.loop.work.count + c.open_as-more.result.count < 2 ^ 64 =
    sum_room _ (λ j. adds_few count_enciphered enciphered_below _ _ _ j x.reached.records.sizes.most) x.reached.few v.count adds in
    record { fits = room }

pub overflow_add-work-in-loop : goal.overflow_add-work-in-loop
overflow_add-work-in-loop c =
    let v = c.loop.invariant in
    let q = c.turn-turn.ensures in
    let x = turned _ _ _ c.requires.good (record { place = v.place; drift = v.drift }) c.loop-test.true q.from q.header q.verdict q.drift q.next in
    -- what a record adds is its own, and the sum has room for it
    let adds = c.open_as-more.ensures.took_as.runs ∙ of_record _ _ _ x.reached.here _ _ (x.verdict ∙ verdict_is _ _ _ _) (added_as Mask.runs) in
    let room : c.loop.work.runs + c.open_as-more.result.runs < 2 ^ 64 =
    sum_room _ (λ j. adds_few Mask.runs runs_below-holds _ _ _ j x.reached.records.sizes.most) x.reached.few v.runs adds in
    record { fits = room }

pub loop-preserved : goal.loop-preserved
loop-preserved c =
    let v = c.loop.invariant in
    let q = c.turn-turn.ensures in
    let x = turned _ _ _ c.requires.good (record { place = v.place; drift = v.drift }) c.loop-test.true q.from q.header q.verdict q.drift q.next in
    let verdict = x.verdict ∙ verdict_is _ _ _ _ in
    let more = c.open_as-more.ensures in
    one_opened (suits _ _ _ _ c.requires.good) v x.place c.loop-test.true c.open_as-more.auto.output
    (more.took_as.count ∙ of_record _ _ _ x.reached.here _ _ verdict (added_as count_enciphered))
    (more.took_as.runs ∙ of_record _ _ _ x.reached.here _ _ verdict (added_as Mask.runs)) x.ahead.place
    x.ahead.drift more.output_after (of_record _ _ _ x.reached.here _ _ verdict (written_as c.args.reader.now.settings.now))

pub returns : goal.returns
unfolding total_by
returns c =
    let v = c.loop.invariant in
    let q = all_opened (suits _ _ _ _ c.requires.good) v (omega (arith, v.few)) in
    record { took_all = record { count = q.0; runs = q.1; drift = q.2 ∙ walked _ _ _ _ }; output_after = q.3 }
