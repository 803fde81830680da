-- Numeric literals (GNU MathProg Language Reference, section on numeric literals).
use Rattle.std.specs.Prelude.{ℕ, ◌+◌, List, drop, codes, if◌then◌else◌}
use Rattle.model_text.specs.Literals.{digits, places_length, with_exponent}
use Rattle.gmpl_lexer.specs.Bytes.{begins_with}

-- a point that another one follows is no part of a number: `1..3`
abbrev pub places_before_range : ℕ → List ℕ → ℕ
places_before_range whole text = if begins_with text (codes "..") then 0 else places_length whole text

-- digits with a point or none, or a point and digits
abbrev pub mantissa_length : List ℕ → ℕ
mantissa_length text = digits text + places_before_range (digits text) (drop (digits text) text)

-- the length of the longest literal at the start; 0 where there is none
abbrev pub literal_length : List ℕ → ℕ
literal_length text = with_exponent (mantissa_length text) text
