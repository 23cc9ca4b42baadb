-- One list after another. Assumes nothing.
use mathlib.Core.Path.{◌≡◌, refl}
use mathlib.Core.List.{List, [], ◌∷◌, ◌++◌}
use Rattle.unicast.specs.Setting.{Setting}
use Rattle.unicast.specs.Events.{Event}
use Rattle.unicast.specs.Run.{State, step, run}
use Rattle.unicast.specs.Premises.{Meets}

pub run_append : (s : State) (es fs : List Event) → run s (es ++ fs) ≡ run (run s es) fs
unfolding run
run_append s [] fs = refl
run_append s (e ∷ es) fs = run_append (step s e) es fs

pub meets_append : (w : Setting) (s : State) (es fs : List Event) → Meets w s es → Meets w (run s es) fs → Meets w s (es ++ fs)
unfolding run
meets_append w s [] fs m n = n
meets_append w s (e ∷ es) fs m n = (m.0, meets_append w (step s e) es fs m.1 n)
