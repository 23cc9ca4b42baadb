-- Every play is a list of events that meets the premises of demand 3 (02, C-23; 01, The line): so what a script shows is what the
-- theorem of crate line speaks of. Assumes nothing.
use Rattle.std.specs.Prelude.{◌≡◌, List, [], ◌∷◌, ℕ}
use Rattle.unicast.specs.Setting.{Setting}
use Rattle.unicast.specs.Events.{Event, register}
use Rattle.unicast.specs.Premises.{Fresh, Meets}
use Rattle.unicast.specs.Run.{start, run, onu_at}
use Rattle.exercise.specs.Script.{interval_of, script_verdict}
use Rattle.exercise.specs.Play.{olt_mac, unit_identity, played}
use Rattle.refusal.specs.Verdict.{no_refusal}

-- one fresh unit, whose delays are 0
abbrev pub setting : Setting
setting =
    record { mac = olt_mac; first = 0; sites = record { identity = unit_identity; oltmac = olt_mac; time = 0; up = 0; down = 0 } ∷ [] }

-- the unit is registered, and then events follow that meet the premises and leave both ends as the play does
pub record Listed (s : List ℕ) (lost : ℕ) : Type 0 where
  pub events : List Event
  pub fresh : Fresh setting
  pub meets : Meets setting (start setting) (register 0 unit_identity 0 (interval_of s) ∷ events)
  pub olt : (run (start setting) (register 0 unit_identity 0 (interval_of s) ∷ events)).olt ≡ (played s lost).olt
  pub onu : onu_at (run (start setting) (register 0 unit_identity 0 (interval_of s) ∷ events)) 0 ≡ (played s lost).onu

-- with any step lost, or none
abbrev pub EveryPlayListed : List ℕ → Type 0
EveryPlayListed s = script_verdict s ≡ no_refusal → (lost : ℕ) → Listed s lost
