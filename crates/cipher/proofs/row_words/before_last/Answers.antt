-- `row_words::before_last` meets its contract: round 1 of both from what they share, and the rounds to the ninth of both. Assumes nothing.
use mathlib.Core.Path.{◌≡◌, refl, ap, ap₂, ◌∙◌}
use Prim.Native.Nat.{ℕ, ◌<◌}
use native.Mathlib.Omega.{arith}
use Rattle.envelope.specs.declared.Nonce.{Nonce}
use Rattle.cipher.specs.Cipher.{Nr, round_key, round, rounds, last_round, cipher}
use Rattle.cipher.specs.FirstRound.{Kept, entered, of_two}
use Rattle.cipher.specs.RowWords.{PairKeys, state}
use Rattle.cipher.proofs.row_words.before_last.Goals as goal

pub returns : goal.returns
unfolding cipher rounds
returns c =
    let a = c.args in
    let w = a.w.now in
    let last = last_round (round_key w Nr) in
    record {
      holds = λ e.
          -- both states after round 1, and so after the ninth
          let ninth : (n : Nonce) → PairKeys w Nr a.keys → Kept w n a.kept → (z : ℕ) → z < 2
          → state c.pair_rounds.result z ≡ rounds w 9 (entered w n (of_two z a.i a.j)) =
          λ n keys share z h.
          (c.pair_rounds.ensures.holds e).states w keys z (entered w n (of_two z a.i a.j)) h
          ((c.first_round-start.ensures.holds e).states n share z h
          ∙ ap₂ round (keys.key 1 z (omega arith) h) refl)
          in
          record {
            first = λ n keys share. ap last (ninth n keys share 0 (omega arith));
            second = λ n keys share. ap last (ninth n keys share 1 (omega arith));
          };
    }
