-- `recordings::partners::Held::put_alone` meets its contract: the row of a record without a partner, nothing for one that has it. Assumes nothing.
use mathlib.Core.Path.{refl, sym, ◌∙◌}
use mathlib.Core.List.{append-nil}
use native.Mathlib.Omega.{arith}
use Rattle.octets.proofs.Choice.{pick_true, pick_false}
use Rattle.rows.specs.Text.{row_octets}
use Rattle.rows.proofs.Texts.{line_put}
use Rattle.directory.proofs.Filling.{appended_as}
use Rattle.recordings.proofs.partners.Held.put_alone.Goals as goal

pub returns-then-not-is_alone : goal.returns-then-not-is_alone
returns-then-not-is_alone c =
    let e = pick_false _ _ (sym c.is_alone.ensures ∙ c.if-not-is_alone.true) in
    let z = appended_as _ _ _ _ 0 _ ((omega arith, omega arith), (sym (append-nil _), refl)) (sym e) (omega arith) in
    record { lower_bound = z.0; text_after = z.1.0; text_unchanged = z.1.1 }

pub returns : goal.returns
returns c =
    let q = line_put _ _ _ _ row_octets _ c.put_line.ensures c.entry_row-row.ensures.inside c.requires.1 in
    let row = rw (c.header_at.ensures.value, c.from.ensures) at c.entry_row-row.ensures.octets in
    let z = appended_as _ _ _ _ _ _ q (row ∙ sym (pick_true _ _ (sym c.is_alone.ensures ∙ c.if-not-is_alone.false))) (omega arith) in
    record { lower_bound = z.0; text_after = z.1.0; text_unchanged = z.1.1 }
