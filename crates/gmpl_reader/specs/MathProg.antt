-- What a MathProg text with files of data and of tables comes to (GNU MathProg Language Reference): its tokens, its statements with
-- their names and kinds, what the data give, and their execution; or the first fault of these, in this order.
use Rattle.std.specs.Prelude.{◌≡◌, ◌<◌, ℕ, List, ◌++◌, string_bytes, Option, Some, None, Result, Ok, Err}
use Rattle.rational.specs.Rational.{Rational}
use Rattle.milp.specs.Problem.{Problem}
use Rattle.model_text.specs.declared.error.ReadError.{ReadError}
use Rattle.model_text.specs.declared.error.ReadError.TheVariants.{Fault, NoMemory}
use Rattle.gmpl_lexer.specs.Tokens.{tokens_of}
use Rattle.gmpl_syntax.specs.declared.fault.SyntaxFault.{SyntaxFault}
use Rattle.gmpl_parse.specs.Models.{parsed}
use Rattle.gmpl_parse.specs.declared.model.Model.{Model as Parsed}
use Rattle.gmpl_data.specs.declared.tables.LoadedModel.{LoadedModel}
use Rattle.gmpl_blocks.specs.declared.fault.DataFault.{DataFault}
use Rattle.gmpl_load.specs.Tables.{Tables}
use Rattle.gmpl_rows.specs.Draft.{Draft}
use Rattle.gmpl_rows.specs.Problem.{column_members, problem_of, row_members}
use Rattle.gmpl_generate.specs.declared.problem.End.{End}
use Rattle.gmpl_generate.specs.declared.problem.End.TheVariants as end
use Rattle.gmpl_generate.specs.declared.turns.Stopped.{Stopped}
use Rattle.gmpl_generate.specs.declared.turns.Stopped.TheVariants as stopped
use Rattle.gmpl_generate.specs.InputTables.{tables_left as left_to_read}
use Rattle.gmpl_generate.specs.Problem.{Executing, IsEnd, execution, with_texts}
use Rattle.gmpl_generate.specs.Running.{File, Made, files_of, result_of, state_of}
use Rattle.gmpl_generate.specs.Solved.{after_by}
use Rattle.gmpl_solution.specs.Solution.{Duals}
use Rattle.gmpl_generate.specs.declared.fault.ModelFault.{ModelFault}
use Rattle.gmpl_reader.specs.Data.{given}
use Rattle.gmpl_reader.specs.declared.fault.MathProgFault.{MathProgFault}
use Rattle.gmpl_reader.specs.declared.fault.MathProgFault.TheVariants.{Syntax, Model, Data}
use Rattle.gmpl_reader.specs.declared.read.Reading.{Reading}
use Rattle.gmpl_reader.specs.declared.read.Pending.{Pending}
use Rattle.gmpl_reader.specs.declared.read.ReadingEnd.{ReadingEnd}
use Rattle.gmpl_reader.specs.declared.read.ReadingEnd.TheVariants as ends
use Rattle.gmpl_reader.specs.declared.read.Rest.{Rest}

-- ---- the model

-- to whose objects data give this
abbrev pub loaded : Parsed → Tables → LoadedModel
loaded model tables = record { statements = model.statements; steps = model.steps; tables = record { objects = tables }; solution = None }

-- the model that a text is, or its first bad statement
unfoldable pub model_in : List ℕ → Result Parsed SyntaxFault
model_in text = parsed (tokens_of text)

abbrev pub of_data : Parsed → Result Tables DataFault → Result LoadedModel MathProgFault
of_data model (Ok tables) = Ok (loaded model tables)
of_data model (Err fault) = Err (Data fault)

abbrev pub of_model : List ℕ → List (List ℕ) → Result Parsed SyntaxFault → Result LoadedModel MathProgFault
of_model text data_files (Ok model) = of_data model (given text data_files model)
of_model text data_files (Err fault) = Err (Syntax fault)

-- the model of a text with the texts of the data files in order, or its first fault of syntax or of data
unfoldable pub loaded_model : List ℕ → List (List ℕ) → Result LoadedModel MathProgFault
loaded_model text data_files = of_model text data_files (model_in text)

-- ---- its execution, with the texts of the tables' files in the order in which they are read

abbrev pub executing_model : List (List ℕ) → Result LoadedModel MathProgFault → Result Executing MathProgFault
executing_model tables (Ok model) = Ok (with_texts (execution model) tables)
executing_model tables (Err fault) = Err fault

-- of a text with its data, or the fault of the text or of its data
unfoldable pub executing : List ℕ → List (List ℕ) → List (List ℕ) → Result Executing MathProgFault
executing text data_files tables = executing_model tables (loaded_model text data_files)

-- how it ends: the problem, the first fault, or the table whose file is to be read next
pub data Ending : Type 0 where
  Declares : Problem → Ending
  Fails : MathProgFault → Ending
  Wants : List ℕ → Ending

abbrev pub ending_at : Stopped → Ending
ending_at (stopped.AtEnd d) = Declares (problem_of d)
ending_at (stopped.AtTable p) = Wants p.name

abbrev pub ending_of : Executing → Ending
ending_of (Ok r) = ending_at r.0.stopped
ending_of (Err r) = Fails (Model r.0)

abbrev pub ending_by : Result Executing MathProgFault → Ending
ending_by (Ok run) = ending_of run
ending_by (Err fault) = Fails fault

abbrev pub ending : List ℕ → List (List ℕ) → List (List ℕ) → Ending
ending text data_files tables = ending_by (executing text data_files tables)

abbrev pub made_by : Result Executing MathProgFault → Option Made
made_by (Ok run) = Some (state_of run)
made_by (Err fault) = None

-- what is made up to there: what is printed, and the files of tables; none, where the text or the data are bad
abbrev pub making : List ℕ → List (List ℕ) → List (List ℕ) → Option Made
making text data_files tables = made_by (executing text data_files tables)

-- ---- behind `solve`

abbrev pub after_stop : List Rational → Duals → LoadedModel → Stopped → Option (Made × Option ModelFault)
after_stop x duals model (stopped.AtEnd d) = Some (after_by model d x duals)
after_stop x duals model (stopped.AtTable p) = None

abbrev pub after_run : List Rational → Duals → Executing → Option (Made × Option ModelFault)
after_run x duals (Ok r) = after_stop x duals r.0.model r.0.stopped
after_run x duals (Err r) = None

abbrev pub after_execution : List Rational → Duals → Result Executing MathProgFault → Option (Made × Option ModelFault)
after_execution x duals (Ok run) = after_run x duals run
after_execution x duals (Err fault) = None

-- what the statements behind `solve` make at a point of the problem with these dual values, and their first fault; none, where no
-- problem is declared
abbrev pub afterwards : List ℕ → List (List ℕ) → List (List ℕ) → List Rational → Duals → Option (Made × Option ModelFault)
afterwards text data_files tables x duals = after_execution x duals (executing text data_files tables)

-- ---- what a call answers; want of memory is free

-- what the statements behind `solve` of this text need: its model with what tables gave, and the members that the columns and rows
-- of its problem come from
pub record IsRest (text : List ℕ) (data_files tables : List (List ℕ)) (rest : Rest) : Type 0 where
  pub draft : Draft
  pub made : Made
  pub is : executing text data_files tables ≡ Ok (Ok (record { model = rest.model; stopped = stopped.AtEnd draft }, made))
  pub columns : rest.columns.items ≡ column_members draft
  pub rows : rest.rows.items ≡ row_members draft

-- what is to go on behind the table whose file is to be read
pub record IsPending (text : List ℕ) (data_files tables : List (List ℕ)) (pending : Pending) : Type 0 where
  pub made : Made
  pub is : executing text data_files tables ≡ Ok (Ok (record { model = pending.model; stopped = stopped.AtTable pending.pause }, made))

abbrev pub IsReadingEnd : List ℕ → List (List ℕ) → List (List ℕ) → ReadingEnd → Type 0
IsReadingEnd text data_files tables (ends.Problem problem rest) = (ending text data_files tables ≡ Declares problem) × IsRest text data_files tables rest
IsReadingEnd text data_files tables (ends.Table pending) = (ending text data_files tables ≡ Wants pending.pause.name) × IsPending text data_files tables pending
IsReadingEnd text data_files tables (ends.Fault fault) = ending text data_files tables ≡ Fails (Model fault)

-- how many `table IN` statements stand behind the table whose file is to be read
abbrev pub tables_left : Pending → ℕ
tables_left pending = left_to_read pending.model pending.pause

-- where it is to go on behind a table again, fewer are left to be read
abbrev pub HasFewerLeft : ℕ → ReadingEnd → Type 0
HasFewerLeft count (ends.Table pending) = tables_left pending < count
HasFewerLeft count (ends.Problem problem rest) = Unit {0}
HasFewerLeft count (ends.Fault fault) = Unit {0}

-- the end of a reading is that of an execution
abbrev pub IsSameEnd : End → ReadingEnd → Type 0
IsSameEnd (end.Problem model g) (ends.Problem problem rest) = (problem ≡ g.problem) × (rest ≡ record { model = model; columns = g.columns; rows = g.rows })
IsSameEnd (end.Table model p) (ends.Table pending) = pending ≡ record { model = model; pause = p }
IsSameEnd (end.Fault fault) (ends.Fault other) = other ≡ fault
IsSameEnd (end.Problem model g) (ends.Table pending) = ⊥
IsSameEnd (end.Problem model g) (ends.Fault other) = ⊥
IsSameEnd (end.Table model p) (ends.Problem problem rest) = ⊥
IsSameEnd (end.Table model p) (ends.Fault other) = ⊥
IsSameEnd (end.Fault fault) (ends.Problem problem rest) = ⊥
IsSameEnd (end.Fault fault) (ends.Table pending) = ⊥

-- the reading of an execution
pub record IsReadingOf (run : Executing) (r : Reading) : Type 0 where
  pub printed : string_bytes r.printed ≡ (state_of run).printed
  pub files : files_of r.files.items ≡ (state_of run).files
  pub execution : End
  pub is : IsEnd (result_of run) execution
  pub end : IsSameEnd execution r.end

-- what a text with these texts of tables comes to, where these files were told before
pub record IsReading (before : List File) (text : List ℕ) (data_files tables : List (List ℕ)) (r : Reading) : Type 0 where
  pub made : making text data_files tables ≡ Some (record { printed = string_bytes r.printed; files = before ++ files_of r.files.items })
  pub end : IsReadingEnd text data_files tables r.end

-- a fault of syntax or of data, before anything is made
abbrev pub IsUnreadable : List ℕ → List (List ℕ) → ReadError MathProgFault → Type 0
IsUnreadable text data_files (Fault fault) = (tables : List (List ℕ)) → executing text data_files tables ≡ Err fault
IsUnreadable text data_files NoMemory = Unit {0}

abbrev pub IsNotLoaded : Result LoadedModel MathProgFault → ReadError MathProgFault → Type 0
IsNotLoaded right (Fault fault) = right ≡ Err fault
IsNotLoaded right NoMemory = Unit {0}

-- the same of a text that is no model
abbrev pub IsNoModel : Result Parsed SyntaxFault → ReadError MathProgFault → Type 0
IsNoModel right (Fault (Syntax fault)) = right ≡ Err fault
IsNoModel right (Fault (Model fault)) = ⊥
IsNoModel right (Fault (Data fault)) = ⊥
IsNoModel right NoMemory = Unit {0}
