-- Which words are a command, and what it asks for.
use Rattle.std.specs.Prelude.{ℕ, Bool, true, false, not, nat_le, ◌&&◌, ◌||◌, List, [], ◌∷◌, Some, None, is_none, is_some, option_and_then, option_map, unwrap_or, codes, if◌then◌else◌}
use Rattle.std.specs.declared.option.Option.{Option}
use Rattle.std.specs.Option.{option_map_or}
use Rattle.std.specs.Str.{bytes_eq}
use Rattle.std.specs.Char.{is_ascii_digit}
use Rattle.std.specs.List.{list_all}
use Rattle.std.specs.Str.Parse.{digits_value}
use Rattle.clap.specs.Words.{Row, Text, all_of, first_of}
use Rattle.made_problem.specs.Made.{size_of}
use Rattle.milp.specs.declared.Direction.{Direction}
use Rattle.milp.specs.declared.Direction.TheVariants.{Min, Max}
use Rattle.command_line.specs.Options.{given, is_taken}
use Rattle.command_line.specs.declared.settings.Language.{Language}
use Rattle.command_line.specs.declared.settings.Language.TheVariants.{MathProg, FreeMps, CplexLp, Made}
use Rattle.command_line.specs.declared.settings.Outputs.{Outputs}
use Rattle.command_line.specs.declared.settings.Settings.{Settings}
use Rattle.command_line.specs.declared.settings.Task.{Task}
use Rattle.command_line.specs.declared.settings.Task.TheVariants.{Solve, Translate, CheckCertificate}

infixl 10 ◌>>=◌
abbrev pub ◌>>=◌ : {A B : Type 0} → Option A → (A → Option B) → Option B
(Some x) >>= f = f x
None >>= f = None

-- the flag stands among the words
abbrev pub stands : Text → List Row → Bool
stands flag rows = option_map_or (bytes_eq (codes "true")) (first_of flag rows) false

-- by the flags of the three languages, FILE, the value of `--model`, and the size of a made problem
abbrev pub source_by : Bool → Bool → Bool → Option Text → Option Text → Option ℕ → Option (Language × Option Text)
source_by true false false (Some file) None None = Some (MathProg, Some file)
source_by false true false (Some file) None None = Some (FreeMps, Some file)
source_by false false true (Some file) None None = Some (CplexLp, Some file)
source_by false false false None (Some file) None = Some (MathProg, Some file)
source_by false false false None None (Some size) = Some (Made size, None)
source_by _ _ _ _ _ _ = None

-- the model's language and file: one language's flag with FILE, or `--model` alone; or `--demo` alone, of which there is no file
abbrev pub source_in : Option ℕ → List Row → Option (Language × Option Text)
source_in size rows =
    source_by (stands (codes "math") rows) (stands (codes "freemps") rows) (stands (codes "lp") rows) (first_of (codes "FILE") rows) (first_of (codes "model") rows) size

-- the values of an option that may stand any number of times, in order
abbrev pub values_of : Text → List Row → List Text
values_of id rows = unwrap_or (all_of id rows) []

abbrev pub data_by : Language → List Text → Option (List Text)
data_by MathProg files = Some files
data_by _ [] = Some []
data_by _ (file ∷ files) = None

-- the data files: the values of `--data`, which stands with MathProg alone
abbrev pub data_in : Language → List Row → Option (List Text)
data_in language rows = data_by language (values_of (codes "data") rows)

abbrev pub display_by : Language → Option Text → Option (Option Text)
display_by MathProg file = Some file
display_by _ None = Some None
display_by _ (Some file) = None

-- the file of what is displayed: the value of `--display`, which stands with MathProg alone
abbrev pub display_in : Language → List Row → Option (Option Text)
display_in language rows = display_by language (first_of (codes "display") rows)

abbrev pub direction_by : Bool → Bool → Option (Option Direction)
direction_by true true = None
direction_by true false = Some (Some Min)
direction_by false true = Some (Some Max)
direction_by false false = Some None

-- `--min` or `--max`, and not both
abbrev pub direction_in : List Row → Option (Option Direction)
direction_in rows = direction_by (stands (codes "min") rows) (stands (codes "max") rows)

-- the files to be written, that of the ranges among them, whether a subset is to be found, whether the search may split on rows and use
-- cuts, and whether the report is a summary
abbrev pub outputs_in : List Row → Outputs
outputs_in rows = record {
  report = first_of (codes "output") rows;
  solution = first_of (codes "write") rows;
  certificate = first_of (codes "cert") rows;
  subset = stands (codes "iis") rows;
  row_splits = stands (codes "rowsplit") rows;
  cuts = stands (codes "gomory") rows;
  ranges = first_of (codes "ranges-exact") rows;
  summary = is_some (first_of (codes "demo") rows);
}

-- the task, where no report, no solution, no ranges, no subset and no search is asked for
abbrev pub unsolved : Outputs → Task → Option Task
unsolved outputs task = option_map_or (λ _. None) outputs.report (option_map_or (λ _. None) outputs.solution (option_map_or (λ _. None) outputs.ranges (if (outputs.subset || outputs.row_splits) || outputs.cuts then None else Some task)))

-- the task, where no file is to be written, no subset to be found, and no search to be made
abbrev pub alone : Outputs → Task → Option Task
alone outputs task = option_map_or (λ _. None) outputs.certificate (unsolved outputs task)

-- the certificate in this file is checked; the file of `--cert` is that of the same certificate in version 2
abbrev pub checking : Text → Outputs → Option Task
checking file outputs = unsolved outputs (CheckCertificate file outputs.certificate)

abbrev pub task_by : Bool → Option Text → Outputs → Option Task
task_by false None outputs = Some (Solve outputs)
task_by false (Some file) outputs = checking file outputs
task_by true None outputs = alone outputs Translate
task_by true (Some file) outputs = None

-- `--check` stands with no file to be written, `--checkcert` with that of `--cert` alone, both without `--iis`, `--rowsplit`
-- and `--gomory`, and not together
abbrev pub task_in : List Row → Option Task
task_in rows = task_by (stands (codes "check") rows) (first_of (codes "checkcert") rows) (outputs_in rows)

abbrev pub limit_within : ℕ → ℕ → ℕ → Option ℕ
limit_within least greatest n = if nat_le least n && nat_le n greatest then Some n else None

-- decimal digits alone, one at least
abbrev pub is_numeral : Text → Bool
is_numeral [] = false
is_numeral (c ∷ cs) = list_all is_ascii_digit (c ∷ cs)

-- a limit in decimal digits, without sign
abbrev pub limit_of : ℕ → ℕ → Text → Option ℕ
limit_of least greatest word = if is_numeral word then limit_within least greatest (digits_value 10 word) else None

-- the value of an option that is a limit, where it is given
abbrev pub limit_by : ℕ → ℕ → ℕ → Option Text → Option ℕ
limit_by least greatest absent None = Some absent
limit_by least greatest absent (Some word) = limit_of least greatest word

-- the most splits of a search: the value of `--nodlim`, or 10,000
abbrev pub split_limit_in : List Row → Option ℕ
split_limit_in rows = limit_by 0 1000000 10000 (first_of (codes "nodlim") rows)

-- the most steps of the simplex method at a node: the value of `--pivlim`, of which 0 is no limit, or 100,000
abbrev pub pivot_limit_in : List Row → Option ℕ
pivot_limit_in rows = limit_by 0 1000000 100000 (first_of (codes "pivlim") rows)

-- how many workers search: the value of `--workers`, or 1
abbrev pub workers_in : List Row → Option ℕ
workers_in rows = limit_by 1 64 1 (first_of (codes "workers") rows)

abbrev pub size_by : Option Text → Option (Option ℕ)
size_by None = Some None
size_by (Some word) = option_map Some (option_and_then size_of (limit_of 1 2000 word))

-- how many columns a made problem has: the value of `--demo`, where it is given
abbrev pub size_in : List Row → Option (Option ℕ)
size_in rows = size_by (first_of (codes "demo") rows)

-- the solution is asked for alone: no file is to be written, no subset to be found, and no row to be split
abbrev pub is_plain_task : Task → Bool
is_plain_task (Solve outputs) = is_none outputs.report && (is_none outputs.solution && (is_none outputs.certificate && (is_none outputs.ranges && not (outputs.subset || outputs.row_splits))))
is_plain_task Translate = false
is_plain_task (CheckCertificate name migrated) = false

abbrev pub allowed : Language → Settings → Option Settings
allowed MathProg s = Some s
allowed FreeMps s = Some s
allowed CplexLp s = Some s
allowed (Made size) s = if is_none s.direction && (not s.relaxed && is_plain_task s.task) then Some s else None

-- what the options ask for: each part must be there; of a made problem nothing but its solution is asked for
abbrev pub settings_in : List Row → Option Settings
settings_in rows = do
  size ← size_in rows
  source ← source_in size rows
  files ← data_in source.0 rows
  display ← display_in source.0 rows
  direction ← direction_in rows
  split_limit ← split_limit_in rows
  pivot_limit ← pivot_limit_in rows
  workers ← workers_in rows
  task ← task_in rows
  allowed source.0 (record {
    language = source.0;
    model = source.1;
    data_files = files;
    display = display;
    direction = direction;
    relaxed = stands (codes "nomip") rows;
    split_limit = split_limit;
    pivot_limit = pivot_limit;
    workers = workers;
    task = task;
  })

-- what the words ask for, where they are a command
abbrev pub settings_of : List Text → Option Settings
settings_of words = if is_taken words then settings_in (given words) else None
