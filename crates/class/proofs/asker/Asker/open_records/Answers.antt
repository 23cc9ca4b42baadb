-- `class::asker::Asker::open_records` meets its contract: the loop's invariant: the walk is ahead of the next record, the records before it
-- are opened, the rest of the output is the block's, and the totals are theirs. Assumes nothing.
use mathlib.Core.Path.{ap, ◌∙◌}
use Prim.Native.Nat.{◌+◌, ◌<◌, ◌^◌}
use native.Mathlib.Omega.{arith}
use Rattle.envelope.specs.ControlMask.{count_enciphered}
use Rattle.envelope.specs.ControlMask as Mask
use Rattle.records.specs.declared.header.Header.{Header}
use Rattle.directory.proofs.Records.{of_record}
use Rattle.reading.proofs.Opening.{enciphered_below, runs_below-holds}
use Rattle.reading.proofs.Loops.{sum_room, none_opened, still_copied, one_opened, all_opened}
use Rattle.capture.proofs.Walks.{start_ahead, turned}
use Rattle.rights.specs.Settings.{set_of, set_for}
use Rattle.class.specs.Opening.{written_for, added_for, total_for}
use Rattle.class.proofs.Turns.{settled, walked, told_is, adds_few}
use Rattle.class.proofs.asker.Asker.open_records.Invariants.{suits}
use Rattle.class.proofs.asker.Asker.open_records.Goals as goal

pub loop-init : goal.loop-init
loop-init c =
    let a = start_ahead _ _ _ c.requires.good c.start-walk.ensures in
    none_opened (suits _ _ _ _ _ _ c.requires.good) c.requires.copied a.place a.drift

pub write-more-requires : goal.write-more-requires
write-more-requires c =
    let v = c.loop.invariant in
    let q = c.turn-turn.ensures in
    let x = turned _ _ _ c.requires.good (record { place = v.place; drift = v.drift }) c.loop-test.true q.from q.header q.verdict q.drift q.next in
    record {
      keys_len = c.requires.size;
      ready = record {
        inside = x.reached.here.inside;
        size = v.size;
        most = x.reached.records.sizes.most;
        same = still_copied (suits _ _ _ _ _ _ c.requires.good) v x.place c.loop-test.true;
      };
      settled_for = settled _ _ _ _ _ _ _ _ _ _ q.verdict (rw q.from q.header) q.clock c.requires.expanded c.requires.few;
    }

pub overflow_add-work : goal.overflow_add-work
overflow_add-work c =
    let v = c.loop.invariant in
    let q = c.turn-turn.ensures in
    let x = turned _ _ _ c.requires.good (record { place = v.place; drift = v.drift }) c.loop-test.true q.from q.header q.verdict q.drift q.next in
    -- what a record adds is its own, and the sum has room for it
    let adds = c.write-more.ensures.took_for.count ∙ of_record _ _ _ x.reached.here _ _ (x.verdict ∙ told_is _ _ _ _ _ _) (added_for count_enciphered) in
    let room : c.loop.work.count + c.write-more.result.count < 2 ^ 64 =
    sum_room _ (λ j. adds_few count_enciphered enciphered_below _ _ _ _ _ j x.reached.records.sizes.most) x.reached.few v.count adds in
    record { fits = room }

pub overflow_add-work-in-loop : goal.overflow_add-work-in-loop
overflow_add-work-in-loop c =
    let v = c.loop.invariant in
    let q = c.turn-turn.ensures in
    let x = turned _ _ _ c.requires.good (record { place = v.place; drift = v.drift }) c.loop-test.true q.from q.header q.verdict q.drift q.next in
    -- what a record adds is its own, and the sum has room for it
    let adds = c.write-more.ensures.took_for.runs ∙ of_record _ _ _ x.reached.here _ _ (x.verdict ∙ told_is _ _ _ _ _ _) (added_for Mask.runs) in
    let room : c.loop.work.runs + c.write-more.result.runs < 2 ^ 64 =
    sum_room _ (λ j. adds_few Mask.runs runs_below-holds _ _ _ _ _ j x.reached.records.sizes.most) x.reached.few v.runs adds in
    record { fits = room }

pub loop-preserved : goal.loop-preserved
loop-preserved c =
    let v = c.loop.invariant in
    let q = c.turn-turn.ensures in
    let a = c.args.self.now in
    let x = turned _ _ _ c.requires.good (record { place = v.place; drift = v.drift }) c.loop-test.true q.from q.header q.verdict q.drift q.next in
    let verdict = x.verdict ∙ told_is _ _ _ _ _ _ in
    let more = c.write-more.ensures in
    let set = ap (λ (y : Header). set_of a.sets.now (set_for a.caller a.sets.now y.llid)) x.reached.header in
    one_opened (suits _ _ _ _ _ _ c.requires.good) v x.place c.loop-test.true c.write-more.auto.output
    (more.took_for.count ∙ of_record _ _ _ x.reached.here _ _ verdict (added_for count_enciphered))
    (more.took_for.runs ∙ of_record _ _ _ x.reached.here _ _ verdict (added_for Mask.runs)) x.ahead.place
    x.ahead.drift (rw set at more.output_after) (of_record _ _ _ x.reached.here _ _ verdict (written_for _))

pub returns : goal.returns
unfolding total_for
returns c =
    let v = c.loop.invariant in
    let q = all_opened (suits _ _ _ _ _ _ c.requires.good) v (omega (arith, v.few)) in
    record { took_all_for = record { count = q.0; runs = q.1; drift = q.2 ∙ walked _ _ _ _ _ _ }; output_after = q.3 }
