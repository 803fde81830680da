-- What the statements behind `solve` come to at a point of the problem (GNU MathProg Language Reference, section on the solve
-- statement): there the members of variables, constraints and objectives are numbers.
use Rattle.std.specs.Prelude.{Bool, false, IsOk, string_bytes, List, [], ◌∷◌, Option, Some, None, Ok, Err}
use Rattle.rational.specs.Rational.{Rational, zero_ℚ}
use Rattle.milp.specs.Form.{sum_at}
use Rattle.milp.specs.Problem.{Row}
use Rattle.instance.specs.Sums.{sum_answer}
use Rattle.gmpl_resolved.specs.declared.statement.Numbered.{Numbered}
use Rattle.gmpl_solution.specs.declared.dual.Dual.{Dual}
use Rattle.gmpl_solution.specs.declared.member.Member.{Member}
use Rattle.gmpl_solution.specs.Solution.{Duals, Solution, nothing, with_column, with_row}
use Rattle.gmpl_data.specs.declared.tables.LoadedModel.{LoadedModel}
use Rattle.gmpl_rows.specs.Draft.{Draft}
use Rattle.gmpl_rows.specs.Problem.{column_members, problem_of, row_members}
use Rattle.gmpl_rows.specs.declared.members.ColumnMember.{ColumnMember}
use Rattle.gmpl_generate.specs.declared.fault.ModelFault.{ModelFault}
use Rattle.gmpl_generate.specs.declared.solved.Afterwards.{Afterwards}
use Rattle.gmpl_generate.specs.Running.{Made, Ran, Running, ◌>>=◌, files_of, nothing_made}
use Rattle.gmpl_generate.specs.Steps.{steps_after}

-- the value of each row's form at the point fits
abbrev pub RowsFit : List Rational → List Row → Type 0
RowsFit x [] = Unit {0}
RowsFit x (r ∷ rs) = IsOk (sum_answer x zero_ℚ r.entries) × RowsFit x rs

-- ---- the numbers of members at a point

abbrev pub with_solved_column : ColumnMember → Rational → Dual → Solution → Solution
with_solved_column c value dual s = with_column s c.member (record { value = value; lower = c.bounds.lower; upper = c.bounds.upper; dual = dual })

-- the columns' members have the numbers of the point, the columns' own bounds, and their dual values
abbrev pub with_columns : List ColumnMember → List Rational → List Dual → Solution → Solution
with_columns [] qs ds s = s
with_columns (c ∷ cs) [] ds s = s
with_columns (c ∷ cs) (q ∷ qs) [] s = s
with_columns (c ∷ cs) (q ∷ qs) (d ∷ ds) s = with_columns cs qs ds (with_solved_column c q d s)

abbrev pub with_solved_row : Member → Row → Rational → Dual → Solution → Solution
with_solved_row m r value dual s = with_row s m (record { value = value; lower = r.lower; upper = r.upper; dual = dual })

-- the rows' members have the values of the rows' forms, the rows' bounds, and their dual values
abbrev pub with_rows : List Rational → List Member → List Row → List Dual → Solution → Solution
with_rows x [] rs ds s = s
with_rows x (m ∷ ms) rs [] s = s
with_rows x (m ∷ ms) [] (d ∷ ds) s = s
with_rows x (m ∷ ms) (r ∷ rs) (d ∷ ds) s = with_rows x ms rs ds (with_solved_row m r (sum_at x r.entries) d s)

abbrev pub solution_by : List ColumnMember → List Member → List Row → List Rational → Duals → Solution
solution_by columns rows rs x duals = with_rows x rows rs duals.rows (with_columns columns x duals.columns (nothing duals.elsewhere))

-- of the problem of a draft
abbrev pub solution_at : Draft → List Rational → Duals → Solution
solution_at d x duals = solution_by (column_members d) (row_members d) (problem_of d).rows x duals

abbrev pub with_solution : LoadedModel → Solution → LoadedModel
with_solution model s = record model { solution = Some s }

-- ---- the statements

module _ (model : LoadedModel) where
  -- the steps of these statements that stand behind `solve`; whether it stands before what follows
  abbrev pub statements_after : Bool → List Numbered → Running Made ModelFault Bool
  statements_after solved [] made = Ok (solved, made)
  statements_after solved (x ∷ xs) made = (steps_after model solved x.steps >>= (λ after. statements_after after xs)) made

  abbrev pub all_after : Running Made ModelFault Bool
  all_after = statements_after false model.statements >>= (λ solved. steps_after model solved model.steps)

-- what is made, and the first fault
abbrev pub made_and_fault : {A : Type 0} → Ran Made ModelFault A → Made × Option ModelFault
made_and_fault (Ok r) = (r.1, None)
made_and_fault (Err r) = (r.1, Some r.0)

-- what a call says that is made
abbrev pub made_after : Afterwards → Made
made_after a = record { printed = string_bytes a.printed; files = files_of a.files.items }

-- of a model with its solution
abbrev pub behind_solve : LoadedModel → Made × Option ModelFault
behind_solve model = made_and_fault (all_after model nothing_made)

-- of a model, the rows of its execution, and a point of their problem with dual values
unfoldable pub after_by : LoadedModel → Draft → List Rational → Duals → Made × Option ModelFault
after_by model d x duals = behind_solve (with_solution model (solution_at d x duals))
