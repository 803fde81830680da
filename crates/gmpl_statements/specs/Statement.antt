-- A statement (GNU MathProg Language Reference, chapter on statements).
use Rattle.std.specs.Prelude.{ℕ, Bool, true, false, List, Option, Some, if◌then◌else◌}
use Rattle.gmpl_token.specs.declared.kind.TokenKind.{TokenKind}
use Rattle.gmpl_token.specs.declared.kind.TokenKind.TheVariants as k
use Rattle.gmpl_syntax.specs.declared.statement.Action.TheVariants.{TableOutput}
use Rattle.gmpl_syntax.specs.declared.statement.Constraint.{Constraint}
use Rattle.gmpl_syntax.specs.declared.statement.Direction.TheVariants as direction
use Rattle.gmpl_syntax.specs.declared.statement.Statement.{Statement}
use Rattle.gmpl_syntax.specs.declared.statement.Statement.TheVariants as s
use Rattle.gmpl_input.specs.Rules.{Rule, ◌>>=◌, ◌>>◌, ◌<$>◌, pure, refuse, peek, ahead, take_token, expect}
use Rattle.gmpl_words.specs.declared.attributes.Declared.TheVariants as declared
use Rattle.gmpl_words.specs.declared.statements.Beginning.{Beginning}
use Rattle.gmpl_words.specs.declared.statements.Beginning.TheVariants as b
use Rattle.gmpl_words.specs.Statements.{begins_with, is_to}
use Rattle.gmpl_expressions.specs.Grammar.{max_depth}
use Rattle.gmpl_statements.specs.Parts.{titled_name}
use Rattle.gmpl_statements.specs.Declarations.{declaration, constraint, objective}
use Rattle.gmpl_statements.specs.Tables.{input_word, table_input, table_output}
use Rattle.gmpl_statements.specs.Actions.{action}

-- ---- "subject" "to" and a constraint

abbrev pub subject_by : ℕ → Option TokenKind → List ℕ → Rule Constraint
subject_by depth (Some k.Name) text = if is_to text then (take_token >> constraint depth) else refuse
subject_by depth _ text = refuse

unfoldable pub subject : ℕ → Rule Constraint
subject depth = do
  kind ← peek
  text ← ahead
  subject_by depth kind text

-- ---- tables: one with a domain is written, another is read, which is refused behind `solve`

unfoldable pub read_table : ℕ → Bool → List ℕ → Rule Statement
read_table depth solved name = input_word solved >> (s.TableInput <$> table_input depth name)

abbrev pub table_by : ℕ → Bool → List ℕ → Option TokenKind → Rule Statement
table_by depth solved name (Some k.OpenBrace) = (λ table. s.Action (TableOutput table)) <$> table_output depth name
table_by depth solved name _ = read_table depth solved name

unfoldable pub table : ℕ → Bool → Rule Statement
table depth solved = do
  name ← titled_name
  kind ← peek
  table_by depth solved name kind

-- ---- solve statement

unfoldable pub solve : Rule Statement
solve = do
  expect k.Semicolon
  pure s.Solve

-- ---- all of them. Behind `solve` no other one may stand, nor a variable, a constraint or an objective.

unfoldable pub statement_by : ℕ → Bool → Beginning → Rule Statement
statement_by depth solved b.Set = take_token >> (s.Set <$> declaration depth declared.Set)
statement_by depth solved b.Param = take_token >> (s.Param <$> declaration depth declared.Param)
statement_by depth false b.Var = take_token >> (s.Var <$> declaration depth declared.Var)
statement_by depth false b.SubjectTo = take_token >> (s.Constraint <$> constraint depth)
statement_by depth false b.Subject = take_token >> (s.Constraint <$> subject depth)
statement_by depth false b.Name = s.Constraint <$> constraint depth
statement_by depth false b.Minimize = take_token >> (s.Objective <$> objective depth direction.Minimize)
statement_by depth false b.Maximize = take_token >> (s.Objective <$> objective depth direction.Maximize)
statement_by depth false b.Solve = take_token >> solve
statement_by depth solved b.Table = take_token >> table depth solved
statement_by depth solved b.Check = s.Action <$> action depth
statement_by depth solved b.Display = s.Action <$> action depth
statement_by depth solved b.Printf = s.Action <$> action depth
statement_by depth solved b.For = s.Action <$> action depth
statement_by depth solved beginning = refuse

-- behind `solve` or before it
unfoldable pub statement : Bool → Rule Statement
statement solved = do
  kind ← peek
  text ← ahead
  statement_by max_depth solved (begins_with kind text)
