-- `rows::Line::put_digits` meets its contract. The loop's invariant: what is written and the digits left are all. Assumes nothing.
use Rattle.std.proofs.Common.{◌≡◌, ◌+◌, ◌++◌}
use Rattle.rows.specs.Text.{digits, text_of}
use Rattle.rows.proofs.Line.put_digits.Given as goal

abbrev pub invariant-loop-left : goal.invariant-loop-left
invariant-loop-left l = record {
  text : text_of l.self ++ digits l.base l.left l.n ≡ text_of l.initial.self ++ digits l.base l.count l.n;
  used : l.self.used + l.left ≡ l.initial.self.used + l.count;
}
