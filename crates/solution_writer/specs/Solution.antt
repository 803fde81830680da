-- The raw solution of a problem, for other programs to read: a line of its size, a line for each number, and a line of its end, as
-- in the solution files of GLPK (GLPK Reference Manual, section on the solution file format), with the verdict's word for the
-- letters of a status, and with exact numbers. A number is `n` or `n/d`.
use Rattle.std.specs.Prelude.{ℕ, List, [], ◌∷◌, ◌++◌, ◌+◌, codes, length, Option, Some, None}
use Rattle.std.specs.Fmt.{decimal}
use Rattle.rational.specs.Rational.{Rational}
use Rattle.fraction.specs.Text.{text_of}
use Rattle.milp.specs.Problem.{Problem}
use Rattle.verdicts.specs.Certificate.{Verdict, Optimal, Infeasible, Unbounded, Certificate}
use Rattle.solution_writer.specs.Report.{row_values}

-- `s`, the verdict, and the numbers of rows and columns
abbrev pub size_part : List ℕ → Problem → List ℕ
size_part verdict p = codes "s " ++ (verdict ++ (codes " " ++ (decimal (length p.rows) ++ (codes " " ++ decimal (length p.columns)))))

abbrev pub size_line : List ℕ → Problem → List ℕ
size_line verdict p = size_part verdict p ++ codes "\n"

-- the objective follows
abbrev pub optimal_line : Problem → Option Rational → List ℕ
optimal_line p None = size_line (codes "OPTIMAL") p
optimal_line p (Some value) = size_part (codes "OPTIMAL") p ++ (codes " " ++ (text_of value ++ codes "\n"))

abbrev pub first_line : Problem → Verdict → Option Rational → List ℕ
first_line p Optimal value = optimal_line p value
first_line p Infeasible value = size_line (codes "INFEASIBLE") p
first_line p Unbounded value = size_line (codes "UNBOUNDED") p

-- `i` for a row, `j` for a column; its place, counted from 1; its number
abbrev pub number_line : List ℕ → ℕ → Rational → List ℕ
number_line letter place number = letter ++ (codes " " ++ (decimal place ++ (codes " " ++ (text_of number ++ codes "\n"))))

-- behind so many before
abbrev pub number_lines : List ℕ → ℕ → List Rational → List ℕ
number_lines letter before [] = []
number_lines letter before (q ∷ qs) = number_line letter (before + 1) q ++ number_lines letter (before + 1) qs

-- a column with its number in the point and its step along the ray
abbrev pub step_line : ℕ → Rational → Rational → List ℕ
step_line place number step = codes "j " ++ (decimal place ++ (codes " " ++ (text_of number ++ (codes " " ++ (text_of step ++ codes "\n")))))

abbrev pub step_lines : ℕ → List Rational → List Rational → List ℕ
step_lines before [] steps = []
step_lines before (q ∷ qs) [] = []
step_lines before (q ∷ qs) (step ∷ steps) = step_line (before + 1) q step ++ step_lines (before + 1) qs steps

-- each row with the value of its form, and then each column with its number
abbrev pub point_lines : Problem → Option (List Rational) → List ℕ
point_lines p None = []
point_lines p (Some point) = number_lines (codes "i") 0 (row_values point p.rows) ++ number_lines (codes "j") 0 point

abbrev pub ray_lines : Option (List Rational) → Option (List Rational) → List ℕ
ray_lines None ray = []
ray_lines (Some point) None = []
ray_lines (Some point) (Some ray) = step_lines 0 point ray

abbrev pub solution_lines : Problem → Verdict → Option (List Rational) → Option (List Rational) → List ℕ
solution_lines p Optimal point ray = point_lines p point
solution_lines p Infeasible point ray = []
solution_lines p Unbounded point ray = ray_lines point ray

-- the raw solution of a solved problem
abbrev pub raw_solution : Problem → Certificate → List ℕ
raw_solution p c = first_line p c.verdict c.value ++ (solution_lines p c.verdict c.point c.ray ++ codes "e\n")
