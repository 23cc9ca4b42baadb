-- `row_words::one_of_four` meets its contract: the entry of the lent table at the octet of that number is its substitution. Assumes nothing.
use mathlib.Core.Path.{◌≡◌, ap, ◌∙◌}
use mathlib.Core.List.{List}
use Prim.Native.Nat.{ℕ, ◌<◌}
use native.Mathlib.Omega.{arith}
use lib.ListN.{get_or}
use Rattle.gf256.specs.Substitution.{sbox}
use Rattle.gf256.proofs.Table.{table_at}
use Rattle.cipher.specs.RowWords.{BySbox}
use Rattle.cipher.proofs.RowWords.{last_of_four}
use Rattle.cipher.proofs.row_words.one_of_four.Goals as goal

looked_up : (t : List ℕ) (i : ℕ) {r x : ℕ} → r ≡ get_or t i 0 → i < 256 → i ≡ x → BySbox t (r ≡ sbox x)
looked_up t i e l same = record { holds = λ s. e ∙ rw s (table_at sbox i l) ∙ ap sbox same }

pub returns-then-m-eq0 : goal.returns-then-m-eq0
returns-then-m-eq0 c =
    (looked_up _ _ c.wide.ensures.0 (omega arith) (rw c.if-m-eq0.true), c.wide.ensures.1)

pub returns-then-m-eq1 : goal.returns-then-m-eq1
returns-then-m-eq1 c =
    (looked_up _ _ c.wide-then-m-eq1.ensures.0 (omega arith) (rw c.if-m-eq1.true), c.wide-then-m-eq1.ensures.1)

pub returns-then-m-eq2 : goal.returns-then-m-eq2
returns-then-m-eq2 c =
    (looked_up _ _ c.wide-then-m-eq2.ensures.0 (omega arith) (rw c.if-m-eq2.true), c.wide-then-m-eq2.ensures.1)

pub returns : goal.returns
returns c = (
  looked_up _ _ c.wide-2.ensures.0 (omega arith) (last_of_four _ _ _ c.if-m-eq0.false c.if-m-eq1.false c.if-m-eq2.false),
  c.wide-2.ensures.1,
)
