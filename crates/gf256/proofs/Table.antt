-- Laws of the tables: how one computed test over all entries makes a list a table, and what a table holds at an octet. Assumes nothing.
use mathlib.Core.Path.{◌≡◌, sym, ◌∙◌}
use mathlib.Core.Bool.{Bool}
use mathlib.Core.List.{List}
use Prim.Native.Nat.{ℕ, ◌<◌}
use native.Mathlib.Nat.{zero-add}
use lib.Dec.{T, eqb, eqb→eq}
use lib.ListN.{length, get_or}
use lib.Seq.{ext_get_or}
use Rattle.octets.specs.Lists.{tabulate}
use Rattle.octets.proofs.Lists.{tabulate_length, tabulate_at}
use Rattle.octets.proofs.Table.{at, every}
use Rattle.gf256.specs.Table.{table}

-- entry k is f k
abbrev pub follows : (ℕ → ℕ) → ℕ → ℕ → Bool
follows f k x = eqb x (f k)

-- a list that passes the test at each of its n entries is f tabulated
pub tabulated : (f : ℕ → ℕ) (t : List ℕ) (n : ℕ) → length t ≡ n → T (every (follows f) 0 t) → t ≡ tabulate 0 n f
tabulated f t n e passes =
    ext_get_or 0 t (tabulate 0 n f) (e ∙ sym (tabulate_length 0 n f))
    (λ k h.
    eqb→eq (get_or t k 0) (f k) (at (follows f) t passes k h)
    ∙ sym (tabulate_at 0 n f k 0 (rw e at h) ∙ rw zero-add))

pub table_at : (f : ℕ → ℕ) (x : ℕ) → x < 256 → get_or (table f) x 0 ≡ f x
unfolding table
table_at f x h = tabulate_at 0 256 f x 0 h ∙ rw zero-add
