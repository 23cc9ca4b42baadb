-- A capture block b read for the user who asks, in the near way or the usual one (02, C-19): c says who asks, s are the sets, q the
-- rights of all users. Assumes nothing.
use Rattle.std.specs.Prelude.{Bool, true, List, ℕ, zero, suc, Result}
use Rattle.records.specs.declared.header.Header.{Header}
use Rattle.records.specs.declared.near.Drift.{Drift}
use Rattle.records.specs.Near.{no_drift}
use Rattle.records.specs.Following.{header_of}
use Rattle.directory.specs.Directory.{directory_of}
use Rattle.reading.specs.Verdict.{after_settings}
use Rattle.rights.specs.declared.settings.Caller.{Caller}
use Rattle.rights.specs.declared.judging.ClassVerdict.{ClassVerdict}
use Rattle.records.specs.declared.near.Heard.{Heard}
use Rattle.rights.specs.Settings.{set_of, set_for, rights_on}
use Rattle.rights.specs.Verdict.{class_verdict}
use Rattle.rights.specs.Judging.{judged_for}
use Rattle.refusal.specs.declared.Refusal.{Refusal}

-- the set that judges record i
abbrev pub set_at : Caller → List ℕ → List ℕ → ℕ → List ℕ
set_at c s b i = set_of s (set_for c s (header_of b i).llid)

-- the verdict for that user on a record with the header h, and the corrections behind it
abbrev pub judged_in : Bool → Caller → List ℕ → List ℕ → Drift → Header → Heard ClassVerdict
judged_in near c s q drift h = judged_for near (rights_on c s q h.llid) (set_of s (set_for c s h.llid)) drift h

-- record i judged for that user, where these are the corrections before it
abbrev pub heard_for : Bool → Caller → List ℕ → List ℕ → List ℕ → ℕ → Drift → Heard ClassVerdict
heard_for near c s q b i drift = judged_for near (rights_on c s q (header_of b i).llid) (set_at c s b i) drift (header_of b i)

-- the corrections before record i, over all LLIDs: none at first
unfoldable pub drift_for : Bool → Caller → List ℕ → List ℕ → List ℕ → ℕ → Drift
drift_for near c s q b zero = no_drift
drift_for near c s q b (suc i) = (heard_for near c s q b i (drift_for near c s q b i)).drift

-- what that user is told of record i
unfoldable pub told_of : Bool → Caller → List ℕ → List ℕ → List ℕ → ℕ → ClassVerdict
told_of near c s q b i = (heard_for near c s q b i (drift_for near c s q b i)).verdict

-- what a call finds: 23, 14, with the output that it was lent, 1 and 3 for the settings, then 15, 18 and 19
unfoldable pub call_for : Bool → Caller → List ℕ → List ℕ → List ℕ → Result ℕ Refusal
call_for suits c s q b = after_settings (class_verdict suits true c s q) (directory_of b)
