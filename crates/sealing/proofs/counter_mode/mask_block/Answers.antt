-- `sealing::counter_mode::mask_block` meets its contract: EQ 2i, and EQ 2i + 1 where there is one, are those of the sealed payload.
-- The second is masked in a payload whose EQs before it are sealed already, which tells it nothing. Assumes nothing.
use Prim.Native.Nat.{ℕ, ◌+◌, ◌-◌, ◌*◌, ◌≤◌, min}
use Rattle.octets.specs.Lists.{written, replaced}
use Rattle.envelope.specs.CounterBlock.{counter_block}
use Rattle.envelope.specs.declared.Nonce.{Nonce}
use Rattle.sealing.proofs.Payload.{eq_written, replaced_past, sealed_more, low_serves, high_serves}
use Rattle.sealing.proofs.Runs.{over_one, over_two}
use Rattle.sealing.specs.Steps.{masked_eq}
use Rattle.cipher.specs.Cipher.{cipher}
use Rattle.sealing.specs.Payload.{sealed}
use Rattle.cipher.specs.RowWords.{block_octets}
use Rattle.cipher.specs.declared.row_words.Block.{Block}
use lib.Count.{ones}
use lib.ListN.{length, get_or}
use mathlib.Core.List.{List}
use mathlib.Core.Path.{◌≡◌, refl, ap, ◌∙◌}
use native.Mathlib.Omega.{arith}
use Rattle.sealing.proofs.counter_mode.mask_block.Goals as goal

-- EQ 2i, as it came back
first : (w : List ℕ) (n : Nonce) (p q : List ℕ) (block : Block) (i b : ℕ) → b ≡ 18 * i → b + 9 ≤ length p
    → q ≡ replaced p b (masked_eq block.low p b) → block_octets block ≡ cipher w (counter_block n i) → q ≡ written (sealed w n p) b (b + 9) p
first w n p q block i b start room back enciphered =
    back ∙ eq_written w n p b (2 * i) (omega arith) (low_serves w n block i enciphered) (omega arith)

pub returns-then-at-payload : goal.returns-then-at-payload
returns-then-at-payload c =
    let a = c.args in
    let p = a.payload.now in
    let b = 18 * a.i in
    let last : min (b + 18) (length p) ≡ b + 9 + 9 = omega arith in
    let kept : get_or c.mask_eq.new.payload (b + 9) 0 ≡ get_or p (b + 9) 0 =
    ap (λ (l : List ℕ). get_or l (b + 9) 0) c.mask_eq.ensures ∙ replaced_past p (masked_eq a.block.low p b) b 0 (omega arith) in
    let x = c.ones_in-first in
    let y = c.ones_in-second in
    let apart : 16 - (x.result + y.result) ≡ 8 - x.result + (8 - y.result) = omega (arith, x.ensures.1, y.ensures.1) in
    record {
      counted = apart ∙ rw (over_two p a.i (λ o. 8 - ones o) (omega arith), x.ensures.0, y.ensures.0, kept);
      few = omega arith;
      sealed = λ w n enciphered.
          rw last
          (c.mask_eq-then-at-payload.ensures
          ∙ eq_written w n c.mask_eq.new.payload (b + 9) (2 * a.i + 1) (omega arith) (high_serves w n a.block a.i enciphered) (omega arith)
          ∙ rw (first w n p c.mask_eq.new.payload a.block a.i b refl (omega arith) c.mask_eq.ensures enciphered)
          (sealed_more w n p b (b + 9) (b + 9 + 9) (omega arith) (omega arith) (omega arith) (omega arith)));
    }

pub returns : goal.returns
returns c =
    let a = c.args in
    let last : min (18 * a.i + 18) (length a.payload.now) ≡ 18 * a.i + 9 = omega arith in
    record {
      counted = rw (over_one a.payload.now a.i (λ o. 8 - ones o) (omega arith), c.ones_in-first.ensures.0);
      few = omega arith;
      sealed = λ w n enciphered. rw last
          (first w n a.payload.now c.mask_eq.new.payload a.block a.i (18 * a.i) refl (omega arith) c.mask_eq.ensures enciphered);
    }
