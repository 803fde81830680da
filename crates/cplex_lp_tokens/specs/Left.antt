-- A text of which some tokens are read, and the tokens that are left.
use Rattle.std.specs.Prelude.{ℕ, ◌+◌, ◌*◌, Bool, false, List, [], ◌++◌, length}
use Rattle.model_text.specs.Lines.{lines_of}
use Rattle.cplex_lp_tokens.specs.Tokens.{Token, tokens_after, tokens_of_lines}

pub record TextLeft : Type 0 where
  -- the lines that have begun
  pub line : ℕ
  -- what is left of the last one, without its comment
  pub here : List ℕ
  -- the text behind it
  pub behind : List ℕ
  -- a section after the constraints has begun
  pub later : Bool

-- no line has begun
abbrev pub whole_text : List ℕ → TextLeft
whole_text text = record { line = 0; here = []; behind = text; later = false }

abbrev pub tokens_left : TextLeft → List Token
tokens_left t = tokens_after t.line 0 t.here ++ tokens_of_lines t.later (t.line + 1) (lines_of t.behind)

-- the lines of the text, those that are passed too
abbrev pub line_count : TextLeft → ℕ
line_count t = t.line + length (lines_of t.behind)

-- a byte of a line that hasn't begun counts twice, so that a line is progress as it begins
abbrev pub bytes_left : TextLeft → ℕ
bytes_left t = length t.here + 2 * length t.behind
