-- Laws of a listing's text: how long its rows are, and the parts of an input. Assumes nothing.
use mathlib.Core.Path.{◌≡◌, ◌∙◌}
use mathlib.Core.Bool.{false}
use mathlib.Core.List.{List}
use Prim.Native.Nat.{ℕ, ◌+◌, ◌*◌, ◌≤◌, ◌<◌}
use native.Mathlib.Omega.{arith}
use lib.ListN.{length, get_or, drop, length-drop}
use lib.Seq.{take_all}
use Rattle.octets.specs.Lists.{part}
use Rattle.records.specs.declared.header.Header.{Header}
use Rattle.rows.specs.Text.{seen_row, hidden_row}
use Rattle.rows.proofs.Lines.{decimal_below, seen_few, hidden_few}
use Rattle.reading.specs.Listing.{line_octets}
use Rattle.class.specs.Listing.{body_for}
use Rattle.class.specs.Input.{input_caller, input_sets, input_rights, input_block}

-- rows whose numbers have at most four digits
pub seen_short : (k : ℕ) (h : Header) → k < 10000 → h.eqs < 10000 → length (seen_row k h) ≤ line_octets
seen_short k h few small = omega (arith, seen_few k h, decimal_below 3 k few, decimal_below 3 h.eqs small)

pub hidden_short : (k : ℕ) → k < 10000 → length (hidden_row k) ≤ line_octets
hidden_short k few = omega (arith, hidden_few k, decimal_below 3 k few)

---- the parts of an input
pub input_parts : (x : List ℕ) (a b u : ℕ) (s q d : List ℕ) → a ≡ get_or x 0 0 → b ≡ get_or x 1 0 → u ≡ get_or x 2 0
    → s ≡ part x 3 (41 * a)
    → q ≡ part x (3 + 41 * a) (a * b) → d ≡ part x (3 + 41 * a + a * b) (length x)
    → body_for false (record { sets = a; users = b; user = u }) s q d ≡ body_for false (input_caller x) (input_sets x) (input_rights x) (input_block x)
input_parts x a b u s q d ea eb eu es eq ed =
    let rest : d ≡ drop (3 + 41 * a + a * b) x =
    ed ∙ take_all (length x) (drop (3 + 41 * a + a * b) x) (omega (arith, length-drop (3 + 41 * a + a * b) x)) in
    rw (es, eq, rest, ea, eb, eu)
