-- `recordings::listing::put_rows` meets its contract: the rows of a, then those of b that are alone, then the total. Assumes nothing.
use mathlib.Core.Path.{◌≡◌, ◌∙◌}
use mathlib.Core.List.{List, ◌++◌, append_assoc}
use Prim.Native.Nat.{ℕ}
use native.Mathlib.Omega.{arith}
use lib.ListN.{take}
use Rattle.records.specs.Block.{records_in}
use Rattle.rows.specs.Text.{row_octets}
use Rattle.rows.proofs.Texts.{line_put}
use Rattle.directory.specs.Rebuilt.{joined}
use Rattle.directory.proofs.Filling.{same_behind}
use Rattle.recordings.specs.Listing.{first_row, alone_row}
use Rattle.recordings.proofs.listing.put_rows.Goals as goal

-- three parts, one after the other
three_parts : (x y z t p q r line : List ℕ) → x ≡ y ++ line → y ≡ z ++ q → z ≡ t ++ p → line ≡ r → x ≡ t ++ ((p ++ q) ++ r)
three_parts x y z t p q r line e f g h = e ∙ rw (h, f, g) (simp append_assoc)

pub returns : goal.returns
returns c =
    let few = c.requires.comparable in
    let a = c.args.a.now in
    let b = c.args.b.now in
    let first = c.match_up.ensures.first in
    let second = c.match_up.ensures.second in
    let one = rw (first.0, first.1) at c.put_lines-middle.ensures in
    let two = rw (second.0, second.1) at c.put_alone_lines-end.ensures in
    let kept-firsts = c.put_lines-middle.auto.text in
    let kept-alones = c.put_alone_lines-end.auto.text in
    let three =
    line_put _ _ _ _ row_octets _ c.put_line.ensures c.total_row.ensures.inside
    (omega (arith, one.lower_bound.1, two.lower_bound.1, kept-firsts, kept-alones, c.requires.body_octets_in_bounds, few.few, few.few_other)) in
    let ones = rw (first.0, first.1) at c.count_alone.ensures.0 in
    let others = rw (second.0, second.1) at c.count_alone-2.ensures.0 in
    let line = rw (ones, others) at c.total_row.ensures.octets in
    record {
      lower_bound = (
        omega (arith, one.lower_bound.0, two.lower_bound.0, three.0.0),
        omega (arith, one.lower_bound.1, two.lower_bound.1, three.0.1, few.few, few.few_other),
      );
      text_after = three_parts _ _ _ (take c.args.at c.args.text.now) (joined (first_row a b) 0 (records_in a))
          (joined (alone_row b a) 0 (records_in b)) _ _ three.1.0 two.text_after one.text_after line;
      text_unchanged = three.1.1
          ∙ same_behind _ _ _ _ three.0.0 (two.text_unchanged ∙ same_behind _ _ _ _ two.lower_bound.0 one.text_unchanged);
    }
