-- `recordings::partners::Held::put_alone_lines` meets its contract. The loop's invariant: the rows of the records before j that are alone
-- stand behind the first `at` octets. Assumes nothing.
use mathlib.Core.Path.{refl}
use Rattle.directory.proofs.Filling.{no_rows, one_row}
use Rattle.recordings.proofs.partners.Held.put_alone_lines.Goals as goal

pub loop-j-init : goal.loop-j-init
loop-j-init c = no_rows _ _ _ _

pub loop-j-preserved : goal.loop-j-preserved
loop-j-preserved c =
    let t = c.put_alone-end.ensures in
    one_row c.loop-j.invariant c.put_alone-end.auto.text (t.lower_bound, (t.text_after, t.text_unchanged)) refl
