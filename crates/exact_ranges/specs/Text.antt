-- The text of ranges: a line for the cost of each column, and then one for each bound of each row. Places count from 1 in
-- it.
use Rattle.std.specs.Prelude.{ℕ, ◌+◌, List, [], ◌∷◌, ◌++◌, codes, Option, Some, None}
use Rattle.std.specs.Fmt.{decimal}
use Rattle.rational.specs.Rational.{Rational}
use Rattle.fraction.specs.Text.{text_of}
use Rattle.exact_ranges.specs.Ranges.{Range, RowRanges, AllRanges}

-- `none` for an end that is absent
abbrev pub end_text : Option Rational → List ℕ
end_text None = codes "none"
end_text (Some v) = text_of v

-- `WORD NUMBER LOW HIGH`
abbrev pub range_line : List ℕ → ℕ → Range → List ℕ
range_line word number r = word ++ (codes " " ++ (decimal number ++ (codes " " ++ (end_text r.low ++ (codes " " ++ (end_text r.high ++ codes "\n"))))))

-- a line, where there is a range
abbrev pub line_if_there : List ℕ → ℕ → Option Range → List ℕ
line_if_there word number None = []
line_if_there word number (Some r) = range_line word number r

-- of columns, of which j stand before the first
abbrev pub cost_lines : ℕ → List Range → List ℕ
cost_lines j [] = []
cost_lines j (r ∷ rs) = range_line (codes "cost") (j + 1) r ++ cost_lines (j + 1) rs

abbrev pub row_lines : ℕ → RowRanges → List ℕ
row_lines number r = line_if_there (codes "lower") number r.lower ++ line_if_there (codes "upper") number r.upper

abbrev pub bound_lines : ℕ → List RowRanges → List ℕ
bound_lines i [] = []
bound_lines i (r ∷ rs) = row_lines (i + 1) r ++ bound_lines (i + 1) rs

abbrev pub ranges_text : AllRanges → List ℕ
ranges_text ranges = cost_lines 0 ranges.costs ++ bound_lines 0 ranges.rows
