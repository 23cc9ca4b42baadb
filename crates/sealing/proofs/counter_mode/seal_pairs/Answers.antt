-- `sealing::counter_mode::seal_pairs` meets its contract: the blocks below the first of the two are sealed, and between them none needs a run. Assumes nothing.
use Prim.Native.Nat.{◌+◌, ◌≤◌, ◌<◌}
use Rattle.envelope.specs.ControlMask.{blocks_of}
use Rattle.envelope.specs.declared.Nonce.{Nonce}
use Rattle.sealing.proofs.Counts.{Below, count_at_most, first_below, idle_below, two_below}
use Rattle.sealing.proofs.Payload.{runs_at_most}
use Rattle.sealing.proofs.Runs.{next_past}
use Rattle.cipher.specs.FirstRound.{Kept}
use Rattle.sealing.specs.Steps.{NextRun}
use lib.ListN.{length}
use mathlib.Core.Path.{refl, ◌∙◌}
use native.Mathlib.Omega.{arith}
use Rattle.sealing.proofs.counter_mode.seal_pairs.Goals as goal

pub loop-second-init : goal.loop-second-init
loop-second-init c =
    let a = c.args in
    let whole = c.requires.payload_len.0 in
    let first = c.requires.next_run in (
      refl,
      whole,
      c.requires.payload_len.1,
      refl,
      c.pair_keys-keys.ensures,
      first.below (omega arith),
      first.needed,
      c.requires.next_run_2,
      λ n share. first_below a.w.now n a.payload.now whole a.i first,
    )

pub overflow_add-count : goal.overflow_add-count
overflow_add-count c =
    let a = c.args in
    let inv = c.loop-second.invariant in
    let share = c.kept_rows-kept.ensures.holds c.requires.subs_value in
    let own =
    two_below a.w.now a.nonce a.payload.now inv.1 c.loop-second.first c.loop-second.second c.loop-second-test.true (inv.6 (omega (arith, inv.7.from)))
    inv.7 share c.seal_pair-work.ensures (inv.8 a.nonce share) in
    omega (arith, own.count, count_at_most a.payload.now (c.loop-second.second + 1), inv.2)

pub overflow_add-runs : goal.overflow_add-runs
overflow_add-runs c =
    let a = c.args in
    let inv = c.loop-second.invariant in
    let share = c.kept_rows-kept.ensures.holds c.requires.subs_value in
    let own =
    two_below a.w.now a.nonce a.payload.now inv.1 c.loop-second.first c.loop-second.second c.loop-second-test.true (inv.6 (omega (arith, inv.7.from)))
    inv.7 share c.seal_pair-work.ensures (inv.8 a.nonce share) in
    omega (arith, own.runs, runs_at_most a.payload.now (c.loop-second.second + 1), inv.2)

pub loop-second-preserved : goal.loop-second-preserved
loop-second-preserved c =
    let a = c.args in
    let p = a.payload.now in
    let inv = c.loop-second.invariant in
    let m = c.loop-second.second + 1 in
    -- one pair more is sealed and counted, under the nonce n
    let more : (n : Nonce) → Kept a.w.now n c.kept_rows-kept.result
    → Below a.w.now n p m c.seal_pair-work.new.payload (c.loop-second.count + c.seal_pair-work.result.count)
    (c.loop-second.runs + c.seal_pair-work.result.runs) =
    λ n share.
    two_below a.w.now n p inv.1 c.loop-second.first c.loop-second.second c.loop-second-test.true (inv.6 (omega (arith, inv.7.from))) inv.7 share
    c.seal_pair-work.ensures (inv.8 n share) in
    -- and so under that of the call
    let own = more a.nonce (c.kept_rows-kept.ensures.holds c.requires.subs_value) in
    -- what comes after it is what came after it in the payload as it was
    let to : NextRun p (blocks_of (length p)) m c.next_run-first.result =
    next_past a.w.now a.nonce p inv.1 m m (omega arith) (rw own.sealed at c.next_run-first.ensures) in
    let past : m ≤ c.next_run-first.result = to.from in
    let room : c.loop-second.second < blocks_of (length p) = c.loop-second-test.true in
    let below : c.next_run-first.result ≤ blocks_of (length p) = to.below (omega arith) in (
      refl,
      inv.1,
      inv.2,
      c.seal_pair-work.auto.payload ∙ inv.3,
      inv.4,
      below,
      to.needed,
      next_past a.w.now a.nonce p inv.1 m (c.next_run-first.result + 1) (omega arith) (rw own.sealed at c.next_run-second.ensures),
      λ n share. idle_below a.w.now n p inv.1 m c.next_run-first.result past below to.idle (more n share),
    )
