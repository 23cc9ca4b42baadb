-- A payload rearranged into its planes, and restored from them (02, C-12). Assumes nothing.
use Rattle.std.specs.Prelude.{Bool, true, false, List, ℕ, length, get_or}
use Rattle.octets.specs.Lists.{tabulate}
use Rattle.envelope.specs.ControlMask.{eqs_of}
use Rattle.planes.specs.Places.{to_planes, to_eqs}

-- the planes of the payload p
unfoldable pub rearranged : List ℕ → List ℕ
rearranged p = tabulate 0 (length p) (λ k. get_or p (to_eqs (eqs_of p) k) 0)

-- the payload whose planes p are
unfoldable pub restored : List ℕ → List ℕ
restored p = tabulate 0 (length p) (λ k. get_or p (to_planes (eqs_of p) k) 0)

-- either: the payload restored where `back` is true
abbrev pub moved : Bool → List ℕ → List ℕ
moved false = rearranged
moved true = restored
