-- The report of a run. Every line ends with a line feed; a number is `n` or `n/d`.
use Rattle.std.specs.Prelude.{ℕ, List, [], ◌∷◌, ◌++◌, codes, length, map, Option, Some, None, IsSome, IsSomeAnd, ◌≡◌}
use Rattle.std.specs.Fmt.{decimal}
use Rattle.rational.specs.Rational.{Rational}
use Rattle.fraction.specs.Text.{text_of}
use Rattle.milp.specs.Form.{sum_at}
use Rattle.milp.specs.Problem.{Column, Row, Problem}
use Rattle.verdicts.specs.Certificate.{Verdict, Optimal, Infeasible, Unbounded, Certificate}
use Rattle.gmpl_generate.specs.Solved.{RowsFit}

-- `OPTIMAL`, and the objective with its value
abbrev pub head_line : List ℕ → Rational → List ℕ
head_line name value = codes "OPTIMAL\nobjective " ++ (name ++ (codes " " ++ (text_of value ++ codes "\n")))

abbrev pub column_line : List ℕ → Rational → List ℕ
column_line name number = codes "column " ++ (name ++ (codes " " ++ (text_of number ++ codes "\n")))

-- each column with its number
abbrev pub column_lines : List Column → List Rational → List ℕ
column_lines [] numbers = []
column_lines (c ∷ cs) [] = []
column_lines (c ∷ cs) (number ∷ numbers) = column_line c.name number ++ column_lines cs numbers

abbrev pub row_line : List ℕ → Rational → List ℕ
row_line name value = codes "row " ++ (name ++ (codes " " ++ (text_of value ++ codes "\n")))

-- the values of the rows' forms
abbrev pub row_values : List Rational → List Row → List Rational
row_values point rows = map (λ (r : Row). sum_at point r.entries) rows

-- each row with the value of its form
abbrev pub row_lines : List Row → List Rational → List ℕ
row_lines [] values = []
row_lines (r ∷ rs) [] = []
row_lines (r ∷ rs) (value ∷ values) = row_line r.name value ++ row_lines rs values

abbrev pub optimal_report : Problem → Rational → List Rational → List ℕ
optimal_report p value point = head_line p.objective_name value ++ (column_lines p.columns point ++ row_lines p.rows (row_values point p.rows))

abbrev pub ray_line : List ℕ → Rational → Rational → List ℕ
ray_line name number step = codes "column " ++ (name ++ (codes " " ++ (text_of number ++ (codes " " ++ (text_of step ++ codes "\n")))))

-- each column with its number in the point and its step along the ray
abbrev pub ray_lines : List Column → List Rational → List Rational → List ℕ
ray_lines [] point ray = []
ray_lines (c ∷ cs) [] ray = []
ray_lines (c ∷ cs) (number ∷ point) [] = []
ray_lines (c ∷ cs) (number ∷ point) (step ∷ ray) = ray_line c.name number step ++ ray_lines cs point ray

abbrev pub unbounded_report : Problem → List Rational → List Rational → List ℕ
unbounded_report p point ray = codes "UNBOUNDED\n" ++ ray_lines p.columns point ray

-- with the parts that the verdict needs, where they are there
abbrev pub optimal_at : Problem → Option Rational → Option (List Rational) → Option (List ℕ)
optimal_at p None point = None
optimal_at p (Some value) None = None
optimal_at p (Some value) (Some point) = Some (optimal_report p value point)

abbrev pub unbounded_at : Problem → Option (List Rational) → Option (List Rational) → Option (List ℕ)
unbounded_at p None ray = None
unbounded_at p (Some point) None = None
unbounded_at p (Some point) (Some ray) = Some (unbounded_report p point ray)

abbrev pub verdict_report : Problem → Certificate → Verdict → Option (List ℕ)
verdict_report p c Optimal = optimal_at p c.value c.point
verdict_report p c Infeasible = Some (codes "INFEASIBLE\n")
verdict_report p c Unbounded = unbounded_at p c.point c.ray

-- the report of a solved problem; there is none where the certificate lacks a part that its verdict needs
abbrev pub solved_report : Problem → Certificate → Option (List ℕ)
solved_report p c = verdict_report p c c.verdict

-- how many rows and columns the problem has
abbrev pub size_lines : Problem → List ℕ
size_lines p = codes "rows " ++ (decimal (length p.rows) ++ (codes "\ncolumns " ++ (decimal (length p.columns) ++ codes "\n")))

abbrev pub optimal_summary : Problem → Option Rational → Option (List ℕ)
optimal_summary p None = None
optimal_summary p (Some value) = Some (codes "OPTIMAL\nobjective " ++ (text_of value ++ (codes "\n" ++ size_lines p)))

abbrev pub summary_by : Problem → Certificate → Verdict → Option (List ℕ)
summary_by p c Optimal = optimal_summary p c.value
summary_by p c Infeasible = Some (codes "INFEASIBLE\n" ++ size_lines p)
summary_by p c Unbounded = Some (codes "UNBOUNDED\n" ++ size_lines p)

-- the report of a solved problem without names and points: the verdict, the value of a best point, and how large the problem is
abbrev pub summary_report : Problem → Certificate → Option (List ℕ)
summary_report p c = summary_by p c c.verdict

-- the report of a problem that was only read
abbrev pub translated_report : Problem → List ℕ
translated_report p = codes "TRANSLATED\n" ++ size_lines p

-- the report of a certificate that was accepted
abbrev pub accepted_report : List ℕ
accepted_report = codes "ACCEPTED\n"

-- a point with a number for each column, at which the value of each row's form fits
abbrev pub IsShownPoint : Problem → List Rational → Type 0
IsShownPoint p point = (length point ≡ length p.columns) × RowsFit point p.rows

-- what the report of a verdict shows is there
abbrev pub HasParts : Problem → Certificate → Verdict → Type 0
HasParts p c Optimal = IsSome c.value × IsSomeAnd c.point (IsShownPoint p)
HasParts p c Infeasible = Unit {0}
HasParts p c Unbounded = IsSomeAnd c.point (λ x. length x ≡ length p.columns) × IsSomeAnd c.ray (λ r. length r ≡ length p.columns)

-- the certificate has what the report of its verdict shows
abbrev pub IsReportable : Problem → Certificate → Type 0
IsReportable p c = HasParts p c c.verdict
