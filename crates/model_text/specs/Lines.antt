-- The lines of a text.
use Rattle.std.specs.Prelude.{ℕ, List}
use Rattle.std.specs.Str.Lines.{lines}

-- std's lines: a carriage return before a line feed is passed over, and an empty last piece is no line
abbrev pub lines_of : List ℕ → List (List ℕ)
lines_of text = lines text
