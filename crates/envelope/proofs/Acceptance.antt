-- Laws of acceptance: what an accepted call tells. Assumes nothing.
use mathlib.Core.Path.{◌≡◌}
use mathlib.Core.Bool.{true, not}
use Prim.Native.Nat.{ℕ, ◌*◌, ◌%◌, ◌^◌, ◌≤◌, ◌<◌}
use native.Mathlib.Omega.{arith}
use borrow.Author.Tests.{eqb-true, leb-true, not-false}
use Rattle.octets.specs.Eqs.{max_eqs}
use Rattle.octets.proofs.Choice.{both_left, both_right}
use Rattle.refusal.specs.declared.Refusal.TheVariants.{OutOfRange, BadLength}
use Rattle.refusal.proofs.Order.{refuse_accepted}
use Rattle.envelope.specs.Acceptance.{lengths_fit, nonce_fits, seal_verdict}
use Rattle.envelope.specs.ControlMask.{max_blocks, blocks_of}
use Rattle.envelope.specs.declared.Nonce.{Nonce}
use Rattle.refusal.specs.Verdict.{no_refusal}

-- the lengths of an accepted call
pub record Lengths (n m : ℕ) : Type 0 where
  pub whole : n % 9 ≡ 0
  pub bounded : n ≤ 9 * max_eqs
  pub same : m ≡ n

pub lengths_fit-holds : (n m : ℕ) → lengths_fit n m ≡ true → Lengths n m
unfolding lengths_fit
lengths_fit-holds n m e =
    let rest = both_right _ _ e in
    record { whole = eqb-true _ _ (both_left _ _ e); bounded = leb-true _ _ (both_left _ _ rest); same = eqb-true _ _ (both_right _ _ rest) }

-- an accepted payload has at most 2,097,152 blocks, so that the three octets of a counter block hold each block's index
pub record FewBlocks (n : ℕ) : Type 0 where
  pub blocks : blocks_of n ≤ max_blocks
  pub index : (k : ℕ) → 18 * k < n → k < 2 ^ 21

pub few_blocks : (n m : ℕ) → lengths_fit n m ≡ true → FewBlocks n
few_blocks n m e =
    let l = lengths_fit-holds n m e in
    record { blocks = omega arith; index = λ k h. omega arith }

-- what acceptance tells
pub accepted : (n m : ℕ) (nonce : Nonce) → seal_verdict n m nonce ≡ no_refusal → (lengths_fit n m ≡ true) × (nonce_fits nonce ≡ true)
unfolding seal_verdict
accepted n m nonce e =
    let a = refuse_accepted (not (lengths_fit n m)) BadLength _ e in
    (not-false _ a.0, not-false _ (refuse_accepted (not (nonce_fits nonce)) OutOfRange no_refusal a.1).0)
