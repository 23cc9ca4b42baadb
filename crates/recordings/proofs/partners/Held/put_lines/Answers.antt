-- `recordings::partners::Held::put_lines` meets its contract. The loop's invariant: the rows of the records before i stand behind the first
-- `at` octets. Assumes nothing.
use native.Mathlib.Omega.{arith}
use Rattle.rows.specs.Text.{row_octets}
use Rattle.rows.proofs.Texts.{line_put}
use Rattle.directory.proofs.Filling.{no_rows, one_row}
use Rattle.recordings.proofs.partners.Held.put_lines.Goals as goal

pub loop-i-init : goal.loop-i-init
loop-i-init c = no_rows _ _ _ _

pub loop-i-preserved : goal.loop-i-preserved
loop-i-preserved c =
    let v = c.loop-i.invariant in
    let q =
    line_put _ _ _ _ row_octets _ c.put_line-end.ensures c.line.ensures.inside (omega (arith, c.requires, c.count-i-end.ensures, v.size, v.high)) in
    one_row v c.put_line-end.auto.text q c.line.ensures.octets
