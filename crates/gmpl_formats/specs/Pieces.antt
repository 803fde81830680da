-- The pieces of a format.
use Rattle.std.specs.Prelude.{ℕ, zero, suc, ◌+◌, ◌-◌, ◌==◌, Some, None, List, [], ◌∷◌, length, codes, if◌then◌else◌}
use Rattle.std.specs.declared.option.Option.{Option}
use Rattle.fraction.specs.Literal.{code}
use Rattle.gmpl_formats.specs.declared.conversion.Piece.{Piece}
use Rattle.gmpl_formats.specs.declared.conversion.Piece.TheVariants.{Character, Value, Bad}
use Rattle.gmpl_formats.specs.declared.reading.Reading.{Reading}
use Rattle.gmpl_formats.specs.declared.pieces.Step.{Step}
use Rattle.gmpl_formats.specs.Conversions.{conversion_of}

-- `n` and `t` stand for the end of a line and a tab, each other character for itself
abbrev pub escaped : ℕ → ℕ
escaped c = if c == code (codes "n") then 10 else if c == code (codes "t") then 9 else c

abbrev pub bad_from : List ℕ → Step
bad_from text = record { piece = Bad; count = 1 + length text }

-- behind a backslash
abbrev pub escape_step : List ℕ → Step
escape_step [] = bad_from []
escape_step (c ∷ cs) = record { piece = Character (escaped c); count = 2 }

abbrev pub reading_step : List ℕ → Option Reading → Step
reading_step text None = bad_from text
reading_step text (Some r) = record { piece = Value r.conversion; count = 1 + r.count }

-- behind a per cent sign
abbrev pub percent_step : List ℕ → Step
percent_step [] = bad_from []
percent_step (c ∷ cs) = if c == code (codes "%") then record { piece = Character c; count = 2 } else reading_step (c ∷ cs) (conversion_of (c ∷ cs))

-- the first piece of a text, and how many characters it has; what is no conversion goes to the text's end
unfoldable pub step_of : ℕ → List ℕ → Step
step_of c cs =
    if c == code (codes "%") then percent_step cs
    else if c == code (codes "\\") then escape_step cs
    else record { piece = Character c; count = 1 }

-- the pieces behind so many characters
unfoldable pub pieces_behind : ℕ → List ℕ → List Piece
pieces_behind count [] = []
pieces_behind zero (c ∷ cs) = let step = step_of c cs in step.piece ∷ pieces_behind (step.count - 1) cs
pieces_behind (suc count) (c ∷ cs) = pieces_behind count cs

abbrev pub pieces_of : List ℕ → List Piece
pieces_of text = pieces_behind 0 text
