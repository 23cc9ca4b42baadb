-- `recordings::listing::put_body` meets its contract: the code of a refused call, the rows of an accepted one. Assumes nothing.
use mathlib.Core.Path.{sym, ◌∙◌}
use native.Mathlib.Omega.{arith}
use Rattle.rows.specs.Text.{row_octets}
use Rattle.rows.proofs.Texts.{line_put}
use Rattle.directory.proofs.Filling.{appended_as}
use Rattle.recordings.specs.Listing.{body_after}
use Rattle.recordings.proofs.Comparing.{comparable}
use Rattle.recordings.proofs.listing.put_body.Goals as goal

pub put_rows-requires : goal.put_rows-requires
put_rows-requires c =
    record { comparable = (comparable _ _ _ (sym c.rule.ensures ∙ c.in-Ok.is)).0; body_octets_in_bounds = c.requires }

pub returns-in-Err : goal.returns-in-Err
unfolding body_after
returns-in-Err c =
    let q = line_put _ _ _ _ row_octets _ c.put_line.ensures c.denied_row.ensures.inside (omega (arith, c.requires)) in
    let e = sym c.rule.ensures ∙ c.in-Err.is in
    let z = appended_as _ _ _ _ _ _ q (rw e c.denied_row.ensures.octets) (omega arith) in
    record { lower_bound = z.0; text_after = z.1.0; text_unchanged = z.1.1 }

pub returns-in-Ok : goal.returns-in-Ok
unfolding body_after
returns-in-Ok c =
    let e = sym c.rule.ensures ∙ c.in-Ok.is in
    let t = c.put_rows.ensures in
    let z = appended_as _ _ _ _ _ _ (t.lower_bound, (t.text_after, t.text_unchanged)) (rw e) (omega arith) in
    record { lower_bound = z.0; text_after = z.1.0; text_unchanged = z.1.1 }
