-- `recordings::compare::compare` meets its contract: what the ruling says, and the laws of two blocks. Assumes nothing.
use mathlib.Core.Path.{sym, ◌∙◌}
use Rattle.recordings.specs.Comparing.{compared_after, comparing}
use Rattle.recordings.proofs.Comparing.{compared_laws, comparable}
use Rattle.recordings.proofs.compare.compare.Goals as goal

pub write_entries-requires : goal.write_entries-requires
write_entries-requires c =
    let r = comparable _ _ _ (sym c.rule.ensures ∙ c.in-Ok.is) in record { comparable = r.0; output_len = r.1 }

pub returns-in-Err : goal.returns-in-Err
unfolding comparing compared_after
returns-in-Err c =
    record { output_after = rw (c.deny.ensures, ← c.rule.ensures, c.in-Err.is); compared_if_accepted = compared_laws _ _ _ }

pub returns-in-Ok : goal.returns-in-Ok
unfolding comparing
returns-in-Ok c =
    record { output_after = rw (← c.rule.ensures, c.in-Ok.is) c.write_entries.ensures; compared_if_accepted = compared_laws _ _ _ }
