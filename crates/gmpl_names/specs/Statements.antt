-- What the names of statements mean, or the first fault: from left to right, inner parts before outer ones (GNU MathProg
-- Language Reference, chapter on statements).
use Rattle.std.specs.Prelude.{◌≡◌, ℕ, ◌+◌, codes, if◌then◌else◌, List, [], ◌∷◌, ◌++◌, length, map, take, Option, Some, None, Result, Ok, Err}
use Rattle.std.specs.Str.{bytes_eq}
use Rattle.gmpl_syntax.specs.Index.{Root}
use Rattle.gmpl_syntax.specs.declared.fault.SyntaxFault.{SyntaxFault}
use Rattle.gmpl_syntax.specs.declared.fault.SyntaxFaultKind.TheVariants.{Undeclared, Declared, Unsupported}
use Rattle.gmpl_syntax.specs.declared.expression.Expr.{Expr, out-Expr}
use Rattle.gmpl_syntax.specs.declared.expression.Component.TheOpen.{Expr-F}
use Rattle.gmpl_syntax.specs.declared.expression.Indexing.{Indexing}
use Rattle.gmpl_syntax.specs.declared.statement.Head.{Head}
use Rattle.gmpl_syntax.specs.declared.statement.Attribute.{Attribute}
use Rattle.gmpl_syntax.specs.declared.statement.Attribute.TheVariants as a
use Rattle.gmpl_syntax.specs.declared.statement.Declaration.{Declaration}
use Rattle.gmpl_syntax.specs.declared.statement.Constraint.{Constraint}
use Rattle.gmpl_syntax.specs.declared.statement.Objective.{Objective}
use Rattle.gmpl_syntax.specs.declared.statement.InputColumn.{InputColumn}
use Rattle.gmpl_syntax.specs.declared.statement.OutputColumn.{OutputColumn}
use Rattle.gmpl_syntax.specs.declared.statement.TableInput.{TableInput}
use Rattle.gmpl_syntax.specs.declared.statement.TableOutput.{TableOutput}
use Rattle.gmpl_syntax.specs.declared.statement.Action.{Action}
use Rattle.gmpl_syntax.specs.declared.statement.Action.TheOpen.{Action-F}
use Rattle.gmpl_syntax.specs.declared.statement.Action.TheFolds.{fold-Action}
use Rattle.gmpl_syntax.specs.declared.statement.Statement.{Statement}
use Rattle.gmpl_syntax.specs.declared.statement.Statement.TheVariants as s
use Rattle.gmpl_syntax.specs.declared.statement.Numbered.{Numbered}
use Rattle.gmpl_syntax.specs.declared.statement.Statements.{Statements}
use Rattle.gmpl_resolved.specs.declared.expression.Expr.{Expr as ResolvedExpr}
use Rattle.gmpl_resolved.specs.declared.expression.Indexing.{Indexing as ResolvedIndexing}
use Rattle.gmpl_resolved.specs.declared.statement.Head.{Head as ResolvedHead}
use Rattle.gmpl_resolved.specs.declared.statement.Attribute.{Attribute as ResolvedAttribute}
use Rattle.gmpl_resolved.specs.declared.statement.Attribute.TheVariants as ra
use Rattle.gmpl_resolved.specs.declared.statement.Declaration.{Declaration as ResolvedDeclaration}
use Rattle.gmpl_resolved.specs.declared.statement.Constraint.{Constraint as ResolvedConstraint}
use Rattle.gmpl_resolved.specs.declared.statement.Objective.{Objective as ResolvedObjective}
use Rattle.gmpl_resolved.specs.declared.statement.Statement.{Statement as ResolvedStatement}
use Rattle.gmpl_resolved.specs.declared.statement.Statement.TheVariants as rs
use Rattle.gmpl_resolved.specs.declared.statement.OutputColumn.{OutputColumn as ResolvedOutputColumn}
use Rattle.gmpl_resolved.specs.declared.statement.InputColumn.{InputColumn as ResolvedInputColumn}
use Rattle.gmpl_resolved.specs.declared.statement.TableInput.{TableInput as ResolvedTableInput}
use Rattle.gmpl_resolved.specs.declared.statement.Action.{Action as ResolvedAction}
use Rattle.gmpl_resolved.specs.declared.statement.Action.TheVariants as ract
use Rattle.gmpl_resolved.specs.declared.statement.Step.TheVariants as step
use Rattle.gmpl_resolved.specs.declared.statement.Statements.{Statements as ResolvedStatements}
use Rattle.gmpl_names.specs.declared.error.NamesError.{NamesError}
use Rattle.gmpl_names.specs.declared.error.NamesError.TheVariants.{Fault, NoMemory}
use Rattle.gmpl_names.specs.Names.{Name, place_of, has, with_name}
use Rattle.gmpl_names.specs.Meanings.{Or_fault}
use Rattle.gmpl_names.specs.Expressions.{Outcome, Pass, ◌>>=◌, pure, ◌<$>◌, beside, all, within, expr, exprs, indexing}
use Rattle.gmpl_names.specs.declared.resolved.Resolved.{Resolved}
use Rattle.gmpl_names.specs.declared.resolved.Resolved.TheVariants as made

-- ---- passes over parts

infixl 10 ◌>>◌
abbrev pub ◌>>◌ : {A B : Type 0} → Pass A → Pass B → Pass B
p >> q = p >>= (λ _. q)

-- ---- parts of statements

-- the driver is CSV
abbrev pub driver : Name → Pass (Unit {0})
driver name = beside (if bytes_eq name (codes "CSV") then Ok tt else Err Unsupported)

-- a name alone; what else stands without a field is no tree of the grammar
abbrev pub name_alone_by : Root → Or_fault Name
name_alone_by (Expr-F.Named name [] None) = Ok name
name_alone_by _ = Err Unsupported

abbrev pub name_alone : Expr → Or_fault Name
name_alone x = name_alone_by (out-Expr x)

-- the field that a column is written to: the one behind `~`, or the name alone that the column is
abbrev pub written_field : Expr → Option Name → Or_fault Name
written_field value None = name_alone value
written_field value (Some field) = Ok field

-- the field that a parameter is read from: the one behind `~`, or that of the parameter's name
abbrev pub read_field : Name → Option Name → Name
read_field parameter None = parameter
read_field parameter (Some field) = field

abbrev pub placed : Option ℕ → Or_fault ℕ
placed None = Err Undeclared
placed (Some place) = Ok place

-- what a `printf` prints: its list may stand in one pair of parentheses
abbrev pub listed_by : Root → List Expr → List Expr
listed_by (Expr-F.Group parts) xs = parts
listed_by _ xs = xs

abbrev pub listed : List Expr → List Expr
listed (x ∷ []) = listed_by (out-Expr x) (x ∷ [])
listed xs = xs

-- a file to which it prints is not supported
abbrev pub printed : Option ResolvedIndexing → List ResolvedExpr → Option ResolvedExpr → Or_fault ResolvedAction
printed domain xs None = Ok (ract.Printf domain xs)
printed domain xs (Some file) = Err Unsupported

module _ (objects : List Name) where
  abbrev pub optional_indexing : Option Indexing → Pass (Option ResolvedIndexing)
  optional_indexing None = pure None
  optional_indexing (Some x) = Some <$> indexing objects x

  abbrev pub optional_side : Option Expr → Pass (Option ResolvedExpr)
  optional_side None = pure None
  optional_side (Some x) = Some <$> expr objects x

  abbrev pub head : Head → Pass ResolvedHead
  head h = (λ d. record { name = h.name; domain = d }) <$> optional_indexing h.domain

  abbrev pub attribute : Attribute → Pass ResolvedAttribute
  attribute (a.Dimension n) = pure (ra.Dimension n)
  attribute (a.Restriction relation x) = ra.Restriction relation <$> expr objects x
  attribute (a.Assigned x) = ra.Assigned <$> expr objects x
  attribute (a.Default x) = ra.Default <$> expr objects x
  attribute a.Integer = pure ra.Integer
  attribute a.Binary = pure ra.Binary
  attribute a.Symbolic = pure ra.Symbolic

  abbrev pub attributes : List Attribute → Pass (List ResolvedAttribute)
  attributes xs = all (map attribute xs)

  abbrev pub declaration : Declaration → Pass ResolvedDeclaration
  declaration d = do
    h ← head d.head
    xs ← attributes d.attributes
    pure (record { head = h; attributes = xs })

  abbrev pub constraint : Constraint → Pass ResolvedConstraint
  constraint x = do
    h ← head x.head
    l ← expr objects x.left
    r ← expr objects x.right
    third ← optional_side x.last
    pure (record { head = h; left = l; relation = x.relation; right = r; last = third })

  abbrev pub objective : Objective → Pass ResolvedObjective
  objective x = do
    h ← head x.head
    f ← expr objects x.form
    pure (record { direction = x.direction; head = h; form = f })

  -- ---- tables

  -- the place of an object: where a table is read, no index is in scope
  abbrev pub object : Name → Pass ℕ
  object name = beside (placed (place_of name objects))

  abbrev pub optional_object : Option Name → Pass (Option ℕ)
  optional_object None = pure None
  optional_object (Some name) = Some <$> object name

  unfoldable pub input_column : InputColumn → Pass ResolvedInputColumn
  input_column column = (λ place. record { parameter = place; field = read_field column.parameter column.field }) <$> object column.parameter

  abbrev pub input_columns : List InputColumn → Pass (List ResolvedInputColumn)
  input_columns xs = all (map input_column xs)

  unfoldable pub output_column : OutputColumn → Pass ResolvedOutputColumn
  output_column column = do
    x ← expr objects column.value
    name ← beside (written_field column.value column.field)
    pure (record { value = x; field = name })

  abbrev pub output_columns : List OutputColumn → Pass (List ResolvedOutputColumn)
  output_columns xs = all (map output_column xs)

  -- the domain, whose indices are in scope in the columns, and not in the file
  unfoldable pub records : ResolvedExpr → TableOutput → Pass ResolvedAction
  records target t = within do
    over ← indexing objects t.domain
    fields ← output_columns t.columns
    pure (ract.TableOutput (record { file = target; domain = over; columns = fields }))

  -- the domain stands before the driver and the file, so its faults come first
  unfoldable pub domain_alone : Indexing → Pass (Unit {0})
  domain_alone x = (λ over. tt) <$> within (indexing objects x)

  unfoldable pub table_output : TableOutput → Pass ResolvedAction
  table_output t = do
    domain_alone t.domain
    driver t.driver
    target ← expr objects t.file
    records target t

  unfoldable pub table_input : TableInput → Pass ResolvedTableInput
  table_input t = do
    driver t.driver
    source ← expr objects t.file
    joined ← optional_object t.set
    fields ← input_columns t.columns
    pure (record { file = source; set = joined; keys = t.keys; columns = fields })

  -- ---- statements that may stand in a `for`: the indices of a domain are in scope in what it governs, and nowhere else

  unfoldable pub check : Option Indexing → Expr → Pass ResolvedAction
  check domain x = within do
    d ← optional_indexing domain
    held ← expr objects x
    pure (ract.Check d held)

  unfoldable pub display : Option Indexing → List Expr → Pass ResolvedAction
  display domain xs = within do
    d ← optional_indexing domain
    items ← exprs objects xs
    pure (ract.Display d items)

  unfoldable pub printf : Option Indexing → List Expr → Option Expr → Pass ResolvedAction
  printf domain xs file = within do
    d ← optional_indexing domain
    arguments ← exprs objects (listed xs)
    to ← optional_side file
    beside (printed d arguments to)

-- ---- the names that statements declare

-- a statement's own name is declared from its name on
abbrev pub declare : Name → List Name → Or_fault (List Name)
declare name objects = if has name objects then Err Declared else Ok (with_name objects name)

-- a name of a table is none of an object
abbrev pub declare_table : List Name → Name → List Name → Or_fault (List Name)
declare_table objects name tables = if has name objects then Err Declared else declare name tables

-- and a name of an object none of a table
abbrev pub apart : Name → List Name → Or_fault (List Name)
apart name tables = if has name tables then Err Declared else Ok tables

abbrev pub then_names : {A : Type 0} → Or_fault (List Name) → (List Name → Or_fault A) → Or_fault A
then_names (Ok names) go = go names
then_names (Err fault) go = Err fault

-- ---- what is resolved, with the indices in scope, or the objects, and the names of tables behind it

abbrev pub JudgedBoth : Type 0 → Type 0
JudgedBoth A = Or_fault (A × (List Name × List Name))

abbrev pub TablePass : Type 0 → Type 0
TablePass A = List Name → List Name → JudgedBoth A

abbrev pub with_tables : {A : Type 0} → List Name → Outcome A → JudgedBoth A
with_tables tables (Ok r) = Ok (r.0, (r.1, tables))
with_tables tables (Err fault) = Err fault

abbrev pub both_then : {A B : Type 0} → JudgedBoth A → (A → TablePass B) → JudgedBoth B
both_then (Ok r) f = f r.0 r.1.0 r.1.1
both_then (Err fault) f = Err fault

-- parts from the left, behind those that were gone over
abbrev pub in_turn_from : {A : Type 0} → List A → List (TablePass A) → TablePass (List A)
in_turn_from before [] scope tables = Ok (before, (scope, tables))
in_turn_from before (p ∷ ps) scope tables = both_then (p scope tables) (λ x. in_turn_from (before ++ x ∷ []) ps)

module _ (objects : List Name) where
  -- a table is declared at its name, before what stands behind it
  abbrev pub tabled : TableOutput → TablePass ResolvedAction
  tabled t scope tables = then_names (declare_table objects t.name tables) (λ ts. with_tables ts (table_output objects t scope))

  abbrev pub for_body : ℕ → List (TablePass ResolvedAction) → List ResolvedIndexing → TablePass ResolvedAction
  for_body before body heads scope tables = both_then (in_turn_from [] body scope tables) (λ inner after ts. Ok (ract.For heads inner, (take before after, ts)))

  -- the indices of an outer head are in scope in the inner ones and in the body, and the names of its tables behind it too
  abbrev pub looped : List Indexing → List (TablePass ResolvedAction) → TablePass ResolvedAction
  looped heads body scope tables = both_then (with_tables tables (all (map (indexing objects) heads) scope)) (for_body (length scope) body)

  abbrev pub action_step : Action-F (TablePass ResolvedAction) → TablePass ResolvedAction
  action_step (Action-F.Check domain x) scope tables = with_tables tables (check objects domain x scope)
  action_step (Action-F.Display domain xs) scope tables = with_tables tables (display objects domain xs scope)
  action_step (Action-F.Printf domain xs file) scope tables = with_tables tables (printf objects domain xs file scope)
  action_step (Action-F.TableOutput t) scope tables = tabled t scope tables
  action_step (Action-F.For heads body) scope tables = looped heads body scope tables

  abbrev pub action : Action → TablePass ResolvedAction
  action = fold-Action (TablePass ResolvedAction) action_step

  abbrev pub indexings : List Indexing → Pass (List ResolvedIndexing)
  indexings xs = all (map (indexing objects) xs)

  abbrev pub actions : List Action → TablePass (List ResolvedAction)
  actions xs = in_turn_from [] (map action xs)

-- ---- a statement, and the objects that are declared behind it

abbrev pub Judged : Type 0 → Type 0
Judged A = Or_fault (A × List Name)

-- a statement begins with no index in scope
abbrev pub alone : {A : Type 0} → List Name → Outcome A → Judged A
alone objects (Ok r) = Ok (r.0, objects)
alone objects (Err fault) = Err fault

abbrev pub declaring_by : {A : Type 0} → (List Name → Pass A) → Or_fault (List Name) → Judged A
declaring_by pass (Ok objects) = alone objects (pass objects [])
declaring_by pass (Err fault) = Err fault

abbrev pub declaring : {A : Type 0} → Name → (List Name → Pass A) → List Name → Judged A
declaring name pass objects = declaring_by pass (declare name objects)

abbrev pub declared : Declaration → List Name → Judged ResolvedDeclaration
declared d = declaring d.head.name (λ os. declaration os d)

abbrev pub declared_constraint : Constraint → List Name → Judged ResolvedConstraint
declared_constraint x = declaring x.head.name (λ os. constraint os x)

abbrev pub declared_objective : Objective → List Name → Judged ResolvedObjective
declared_objective x = declaring x.head.name (λ os. objective os x)

abbrev pub told_as : {A : Type 0} → (A → ResolvedStatement) → Judged A → Judged Resolved
told_as make (Ok r) = Ok (made.Declaration (make r.0), r.1)
told_as make (Err fault) = Err fault

-- ---- a statement, with the names of objects and of tables behind it

abbrev pub apart_from : Name → List Name → Judged Resolved → JudgedBoth Resolved
apart_from name tables outcome = then_names (apart name tables) (λ ts. with_tables ts outcome)

abbrev pub read : TableInput → List Name → List Name → JudgedBoth Resolved
read t objects tables =
    then_names (declare_table objects t.name tables) (λ ts. with_tables ts (alone objects (((λ x. made.Step (step.TableInput x)) <$> table_input objects t) [])))

abbrev pub executed : Action → List Name → List Name → JudgedBoth Resolved
executed x objects tables = both_then (action objects x [] tables) (λ a scope ts. Ok (made.Step (step.Action a), (objects, ts)))

abbrev pub judged : Statement → List Name → List Name → JudgedBoth Resolved
judged (s.Set d) objects tables = apart_from d.head.name tables (told_as rs.Set (declared d objects))
judged (s.Param d) objects tables = apart_from d.head.name tables (told_as rs.Param (declared d objects))
judged (s.Var d) objects tables = apart_from d.head.name tables (told_as rs.Var (declared d objects))
judged (s.Constraint x) objects tables = apart_from x.head.name tables (told_as rs.Constraint (declared_constraint x objects))
judged (s.Objective x) objects tables = apart_from x.head.name tables (told_as rs.Objective (declared_objective x objects))
judged (s.TableInput t) objects tables = read t objects tables
judged s.Solve objects tables = Ok (made.Step step.Solve, (objects, tables))
judged (s.Action x) objects tables = executed x objects tables
judged s.Data objects tables = Ok (made.Nothing, (objects, tables))

-- ---- the statements before the first bad one, and its fault

abbrev pub none : ResolvedStatements
none = record { items = []; steps = []; fault = None }

-- one more: a declaration takes the steps since the one before it
abbrev pub with_statement : ResolvedStatements → ℕ → ℕ → Resolved → ResolvedStatements
with_statement all number line (made.Declaration statement) =
    record { items = all.items ++ record { steps = all.steps; number = number; line = line; statement = statement } ∷ []; steps = []; fault = all.fault }
with_statement all number line (made.Step step) =
    record { items = all.items; steps = all.steps ++ record { number = number; line = line; step = step } ∷ []; fault = all.fault }
with_statement all number line made.Nothing = all

abbrev pub stopped : ResolvedStatements → Option SyntaxFault → ResolvedStatements
stopped all fault = record { items = all.items; steps = all.steps; fault = fault }

abbrev pub behind : ResolvedStatements → ℕ → ℕ → JudgedBoth Resolved → (ResolvedStatements → List Name → List Name → ResolvedStatements) → ResolvedStatements
behind all number line (Ok r) go = go (with_statement all number line r.0) r.1.0 r.1.1
behind all number line (Err kind) go = stopped all (Some (record { statement = number; line = line; kind = kind }))

-- from the statement of this number on, behind those that were gone over; behind all of them stands what the first pass found
abbrev pub statements_from : ResolvedStatements → ℕ → List Name → List Name → List Numbered → Option SyntaxFault → ResolvedStatements
statements_from all number objects tables [] fault = stopped all fault
statements_from all number objects tables (x ∷ xs) fault =
    behind all number x.line (judged x.statement objects tables) (λ more os ts. statements_from more (number + 1) os ts xs fault)

abbrev pub statements : Statements → ResolvedStatements
statements whole = statements_from none 1 [] [] whole.items whole.fault

-- ---- the same, one by one

-- what was resolved so far, and the names that it declares of objects and of tables
pub record Resolving : Type 0 where
  pub made : ResolvedStatements
  pub objects : List Name
  pub tables : List Name

abbrev pub nothing_resolved : Resolving
nothing_resolved = record { made = none; objects = []; tables = [] }

abbrev pub with_resolved : Resolving → ℕ → ℕ → Resolved → Resolving
with_resolved r number line x = record { made = with_statement r.made number line x; objects = r.objects; tables = r.tables }

abbrev pub resolved_behind : Resolving → ℕ → List Numbered → Option SyntaxFault → ResolvedStatements
resolved_behind r number xs fault = statements_from r.made number r.objects r.tables xs fault

-- behind a statement of this number: it ends there at a fault of its own
abbrev pub goes_on : Option SyntaxFault → Resolving → ℕ → List Numbered → Option SyntaxFault → ResolvedStatements
goes_on None r number xs fault = resolved_behind r (number + 1) xs fault
goes_on (Some own) r number xs fault = stopped r.made (Some own)

-- ---- the code and the definition go the same way; want of memory is free

abbrev pub Judges : {A : Type 0} → Judged A → Result A NamesError → List Name → Type 0
Judges outcome (Ok found) objects = outcome ≡ Ok (found, objects)
Judges outcome (Err (Fault kind)) objects = outcome ≡ Err kind
Judges outcome (Err NoMemory) objects = Unit {0}

abbrev pub Declares : Or_fault (List Name) → Result (Unit {0}) NamesError → List Name → Type 0
Declares outcome (Ok _) objects = outcome ≡ Ok objects
Declares outcome (Err (Fault kind)) objects = outcome ≡ Err kind
Declares outcome (Err NoMemory) objects = Unit {0}

abbrev pub JudgesBoth : {A : Type 0} → JudgedBoth A → Result A NamesError → List Name → List Name → Type 0
JudgesBoth outcome (Ok found) objects tables = outcome ≡ Ok (found, (objects, tables))
JudgesBoth outcome (Err (Fault kind)) objects tables = outcome ≡ Err kind
JudgesBoth outcome (Err NoMemory) objects tables = Unit {0}
