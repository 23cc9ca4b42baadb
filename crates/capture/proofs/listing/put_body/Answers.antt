-- `capture::listing::put_body` meets its contract: the code of a refused call, the rows of an accepted one. Assumes nothing.
use native.Mathlib.Omega.{arith}
use Rattle.rows.proofs.Lines.{refused_row_few}
use Rattle.rows.proofs.Texts.{line_put}
use Rattle.reading.specs.Listing.{line_octets, body_octets}
use Rattle.directory.proofs.Filling.{appended_as}
use Rattle.capture.specs.Walk.{body_walked}
use Rattle.capture.proofs.listing.put_body.Goals as goal

pub put_rows-requires : goal.put_rows-requires
put_rows-requires g c = record { block_value = c.directory_behind.ensures.good _ c.in-Ok.is; body_octets_in_bounds = omega arith }

pub returns-in-Err : goal.returns-in-Err
unfolding body_walked
returns-in-Err g c =
    let few = refused_row_few c.in-Err.refusal in
    let q = line_put _ _ _ _ line_octets _ c.put_line.ensures (omega (arith, c.refused_row.ensures.used, few))
    (omega arith) in
    let z = appended_as _ _ _ _ line_octets body_octets q (rw (← c.directory_behind.ensures.value, c.in-Err.is) c.refused_row.ensures.octets) (omega arith) in
    record { lower_bound = z.0; text_after = z.1.0; text_unchanged = z.1.1 }

pub returns-in-Ok : goal.returns-in-Ok
unfolding body_walked
returns-in-Ok g c =
    let q = c.put_rows.ensures in
    record { lower_bound = q.lower_bound; text_after = rw (← c.directory_behind.ensures.value, c.in-Ok.is) q.text_after; text_unchanged = q.text_unchanged }
