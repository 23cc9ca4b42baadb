-- `rows::Line::put_digits` meets its contract. The loop's invariant: what is written and the digits left are all. Assumes nothing.
use Rattle.std.proofs.Common.{◌≡◌, ◌+◌, ◌-◌, ◌∙◌, append-nil, arith}
use Rattle.rows.specs.Text.{text_of}
use Rattle.rows.proofs.Lines.{one_digit, digits_length}
use Rattle.rows.proofs.Line.put_digits.Goals as goal

pub loop-left-preserved : goal.loop-left-preserved
loop-left-preserved c =
    let a = c.args in
    let v = c.loop-left in
    let g = c.push.ensures in
    let e : v.left - 1 + 1 ≡ v.left = omega arith in
    record {
      text = rw g.text (rw e at (one_digit (text_of v.self) a.base (v.left - 1) a.n _ c.digit.ensures) ∙ v.invariant.text);
      used = omega arith;
    }

pub returns : goal.returns
returns c =
    let a = c.args in
    let v = c.loop-left in
    let e : v.left ≡ 0 = omega arith in
    record { text = rw (e, append-nil) at v.invariant.text; used = omega (arith, digits_length a.base a.count a.n) }
