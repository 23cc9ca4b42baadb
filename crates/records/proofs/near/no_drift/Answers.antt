-- `records::near::no_drift` meets its contract: each field is as it starts; the promise is a law. Assumes nothing.
use mathlib.Core.Path.{refl}
use Rattle.records.proofs.Following.{kept}
use Rattle.records.proofs.near.no_drift.Goals as goal

pub returns : goal.returns
returns c = record { value = refl; promise = kept }
