-- `sealing::counter_mode::seal_blocks` meets its contract: no block needs a run, or one alone; else the pairs are sealed and then a last block that needs
-- a run, after which none does. Assumes nothing.
use Prim.Native.Nat.{◌+◌, ◌<◌}
use Rattle.envelope.specs.ControlMask.{blocks_of}
use Rattle.sealing.proofs.Counts.{Below, all_below, count_at_most, first_below, last_below, one_below}
use Rattle.sealing.proofs.Payload.{runs_at_most}
use Rattle.envelope.specs.declared.Nonce.{Nonce}
use Rattle.sealing.specs.Steps.{PairsSealed}
use Rattle.sealing.specs.declared.counter_mode.Paired.{Paired}
use Prim.Native.Nat.{ℕ}
use mathlib.Core.List.{List}
use lib.ListN.{length}
use mathlib.Core.Path.{◌≡◌, ◌∙◌}
use native.Mathlib.Omega.{arith}
use Rattle.sealing.proofs.counter_mode.seal_blocks.Goals as goal

-- what the pairs leave, below the next block that needs a run
below : (w : List ℕ) (n : Nonce) (p q : List ℕ) (r : Paired) → PairsSealed w n p q r → Below w n p r.next q r.count r.runs
below w n p q r left = record { sealed = left.sealed; count = left.count; runs = left.runs }

-- no block needs a run
pub returns-then-blocks-first : goal.returns-then-blocks-first
returns-then-blocks-first c =
    let a = c.args in
    let p = a.payload.now in
    let whole = c.requires.payload_len in
    let next = c.next_run-first.ensures in
    let all : c.next_run-first.result ≡ blocks_of (length p) = omega (arith, next.below (omega arith), c.if-blocks-first.true) in
    all_below a.w.now a.nonce p whole (rw all at (first_below a.w.now a.nonce p whole c.next_run-first.result next))

-- one block needs a run, and no other
pub returns-then-blocks-second : goal.returns-then-blocks-second
returns-then-blocks-second c =
    let a = c.args in
    let p = a.payload.now in
    let w = a.w.now in
    let whole = c.requires.payload_len in
    let next = c.next_run-first.ensures in
    let k = c.next_run-first.result in
    let room : k < blocks_of (length p) = omega (arith, c.if-blocks-first.false) in
    let done = last_below w a.nonce p whole k room (next.needed room)
    (λ b l u. c.next_run-second.ensures.idle b (omega arith) (omega (arith, c.if-blocks-second.true)))
    (first_below w a.nonce p whole k next) in
    let told = c.seal_lone.ensures in
    (told.0 ∙ done.0, omega (arith, told.1, done.1), omega (arith, told.2, done.2))

pub overflow_add-result : goal.overflow_add-result
overflow_add-result c =
    let a = c.args in
    let left = c.seal_pairs-paired.ensures in
    let next = c.seal_pairs-paired.result.next in
    let done = one_below a.w.now a.nonce a.payload.now c.requires.payload_len next c.if-next-blocks.true (left.needed c.if-next-blocks.true)
    (below a.w.now a.nonce a.payload.now _ _ c.seal_pairs-paired.ensures) in
    omega (arith, c.seal_lone-lone.ensures.1, done.count, left.below, c.requires.payload_bound, count_at_most a.payload.now (next + 1))

pub overflow_add-result-then-next-blocks : goal.overflow_add-result-then-next-blocks
overflow_add-result-then-next-blocks c =
    let left = c.seal_pairs-paired.ensures in
    let next = c.seal_pairs-paired.result.next in
    omega (arith, left.runs, left.below, c.seal_lone-lone.ensures.2, c.requires.payload_bound, runs_at_most c.args.payload.now next)

-- pairs, and a last block with no other beside it
pub returns-then-next-blocks : goal.returns-then-next-blocks
returns-then-next-blocks c =
    let a = c.args in
    let left = c.seal_pairs-paired.ensures in
    let done = last_below a.w.now a.nonce a.payload.now c.requires.payload_len c.seal_pairs-paired.result.next c.if-next-blocks.true
    (left.needed c.if-next-blocks.true) left.rest (below a.w.now a.nonce a.payload.now _ _ c.seal_pairs-paired.ensures) in
    let told = c.seal_lone-lone.ensures in
    (told.0 ∙ done.0, omega (arith, told.1, done.1), omega (arith, told.2, done.2))

-- pairs alone
pub returns : goal.returns
returns c =
    let a = c.args in
    let all : c.seal_pairs-paired.result.next ≡ blocks_of (length a.payload.now) = omega (arith, c.seal_pairs-paired.ensures.below) in
    all_below a.w.now a.nonce a.payload.now c.requires.payload_len (rw all at (below a.w.now a.nonce a.payload.now _ _ c.seal_pairs-paired.ensures))
