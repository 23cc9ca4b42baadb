-- `sealing::counter_mode::seal_pair` meets its contract: its blocks are those of the counter blocks i and j, and mask one after the other. Assumes nothing.
use mathlib.Core.Path.{◌≡◌, refl, ap, ◌∙◌}
use mathlib.Core.List.{List}
use Prim.Native.Nat.{ℕ}
use Rattle.envelope.specs.declared.Nonce.{Nonce}
use Rattle.cipher.specs.Cipher.{Nr, last_round, round_key}
use Rattle.cipher.specs.FirstRound.{Kept}
use Rattle.sealing.specs.Steps.{block_sealed}
use Rattle.sealing.proofs.counter_mode.seal_pair.Goals as goal

-- the block that masks first is that of counter block i, and the other that of counter block j
pub returns : goal.returns
returns c =
    let a = c.args in
    let w = a.w.now in
    let sbox = c.requires.subs_value.0 in
    let own : (n : Nonce) → Kept w n a.kept → c.mask_block-here.new.payload ≡ block_sealed w n a.payload.now a.i = λ n share.
    c.mask_block-here.ensures.sealed w n
    (c.finished.ensures.holds sbox ∙ (c.before_last-s.ensures.holds sbox).first n c.requires.subs_value.1 share) in
    record {
      sealed = λ n share.
          c.mask_block-there.ensures.sealed w n
          (c.finished-2.ensures.holds sbox
          ∙ ap (last_round (round_key w Nr)) c.second.ensures
          ∙ (c.before_last-s.ensures.holds sbox).second n c.requires.subs_value.1 share)
          ∙ ap (λ (p : List ℕ). block_sealed w n p a.j) (own n share);
      count = λ n share. rw (c.mask_block-here.ensures.counted, c.mask_block-there.ensures.counted, own n share);
      runs = refl;
    }
