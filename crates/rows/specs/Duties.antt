-- What functions of this crate tell each other: nothing here is part of a promise to a caller. Assumes nothing.
use Rattle.std.specs.Prelude.{◌≡◌, List, ◌++◌, ℕ, ◌+◌, length}
use Rattle.rows.specs.declared.Line.{Line}
use Rattle.rows.specs.Text.{text_of}

-- a line with a piece of text behind what it held
pub record Grown (l m : Line) (piece : List ℕ) : Type 0 where
  pub text : text_of m ≡ text_of l ++ piece
  pub used : m.used ≡ l.used + length piece
