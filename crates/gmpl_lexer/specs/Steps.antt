-- A step along a string.
use Rattle.std.specs.Prelude.{ℕ, ◌==◌, ◌||◌, List, [], ◌∷◌, if◌then◌else◌}
use Rattle.gmpl_lexer.specs.Bytes.{line_feed}

-- 0 at the end of a string, 2 at a quote doubled
abbrev pub string_step : ℕ → List ℕ → ℕ
string_step quote [] = 0
string_step quote (b ∷ []) = if (b == quote) || (b == line_feed) then 0 else 1
string_step quote (b ∷ c ∷ bs) = if b == line_feed then 0 else if b == quote then (if c == quote then 2 else 0) else 1
