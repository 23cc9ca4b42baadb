-- A list without path changes adds nothing to a unit's continuation (02, C-16). Assumes nothing.
use mathlib.Core.Path.{◌≡◌, refl, sym, ◌∙◌, ap}
use mathlib.Core.List.{List, Memᴰ, [], ◌∷◌}
use Prim.Native.Nat.{ℕ}
use native.Mathlib.Nat.{max-eq_left, sub_self}
use native.Mathlib.Omega.{arith}
use lib.Dec.{leb}
use Rattle.octets.specs.Choice.{pick}
use Rattle.octets.proofs.Choice.{pick_same}
use Rattle.unicast.specs.Setting.{Delays}
use Rattle.unicast.specs.History.{Envelope, Lane}
use Rattle.unicast.specs.Run as run
use Rattle.unicast.specs.Run.{lane_at}
use Rattle.unicast.specs.Demand.{AsStarted}
use Rattle.unicast.proofs.Unchanged as units
use Rattle.line.specs.Run.{alone, start, runs}
use Rattle.line.proofs.Unchanged.{unchanged}
use Rattle.progress.specs.Progress.{most_up, least_up, spread, OneSpread}
use Rattle.progress.specs.LineProgress.{LineOneSpread}

most_one : (up : ℕ) (es : List Envelope) → ((e : Envelope) → Memᴰ e es → e.up ≡ up) → (most_up up es ≡ up) × (least_up up es ≡ up)
unfolding most_up least_up pick
most_one up [] same = (refl, refl)
most_one up (e ∷ es) same =
    let rest = most_one up es (λ x m. same x (Memᴰ.tail m)) in
    let own : e.up ≡ up = same e (Memᴰ.head refl) in
    rw (rest.0, rest.1, own) (max-eq_left (omega arith), pick_same (leb up up) up)

spread_one : (l : Lane) → AsStarted l → spread l ≡ 0
unfolding spread
spread_one l p =
    let by = ap (λ (d : Delays). d.up) p.0 in
    let r = most_one l.path.up l.past.sent (λ e m. p.1 e m ∙ sym by) in
    rw (r.0, r.1) (sub_self l.path.up)

pub one_spread : OneSpread
one_spread w es c u = spread_one (lane_at (run.run (run.start w) es) u) (units.unchanged w es c u)

pub line_one_spread : LineOneSpread
line_one_spread w es c u = spread_one (lane_at (alone (runs (start w) es)) u) (unchanged w es c u)
