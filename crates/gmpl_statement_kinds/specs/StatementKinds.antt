-- The kinds and dimensions of statements (GNU MathProg Language Reference, chapter on statements): the object that a statement
-- declares, or its first fault. Statements are judged in order, and it counts whether `solve` stands before: behind it, values of
-- variables, constraints and objectives are known.
use Rattle.std.specs.Prelude.{ℕ, ◌==◌, Bool, true, false, ◌&&◌, nat_le, unsigned_abs, if◌then◌else◌, List, [], ◌∷◌, ◌++◌, length, map, slice_get, Option, Some, None, Result, Ok, Err}
use Rattle.rational.specs.Rational.{Rational}
use Rattle.rational.specs.Compare.{is_whole}
use Rattle.gmpl_syntax.specs.declared.expression.Relation.{Relation}
use Rattle.gmpl_syntax.specs.declared.expression.Relation.TheVariants as r
use Rattle.gmpl_syntax.specs.declared.fault.SyntaxFault.{SyntaxFault}
use Rattle.gmpl_syntax.specs.declared.fault.SyntaxFaultKind.{SyntaxFaultKind}
use Rattle.gmpl_syntax.specs.declared.fault.SyntaxFaultKind.TheVariants.{WrongKind, WrongDimension}
use Rattle.gmpl_resolved.specs.declared.expression.Meaning.TheVariants as m
use Rattle.gmpl_resolved.specs.declared.expression.Expr.{Expr, out-Expr}
use Rattle.gmpl_resolved.specs.declared.expression.Component.{Component}
use Rattle.gmpl_resolved.specs.declared.expression.Component.TheOpen.{Expr-F}
use Rattle.gmpl_resolved.specs.declared.expression.Entry.{Entry}
use Rattle.gmpl_resolved.specs.declared.expression.Indexing.{Indexing}
use Rattle.gmpl_resolved.specs.declared.expression.Link.{Link}
use Rattle.gmpl_resolved.specs.declared.statement.Attribute.{Attribute}
use Rattle.gmpl_resolved.specs.declared.statement.Attribute.TheVariants as a
use Rattle.gmpl_resolved.specs.declared.statement.Declaration.{Declaration}
use Rattle.gmpl_resolved.specs.declared.statement.Constraint.{Constraint}
use Rattle.gmpl_resolved.specs.declared.statement.Objective.{Objective}
use Rattle.gmpl_resolved.specs.declared.statement.Statement.{Statement}
use Rattle.gmpl_resolved.specs.declared.statement.Statement.TheVariants as s
use Rattle.gmpl_resolved.specs.declared.statement.OutputColumn.{OutputColumn}
use Rattle.gmpl_resolved.specs.declared.statement.TableOutput.{TableOutput}
use Rattle.gmpl_resolved.specs.declared.statement.InputColumn.{InputColumn}
use Rattle.gmpl_resolved.specs.declared.statement.TableInput.{TableInput}
use Rattle.gmpl_resolved.specs.declared.statement.Action.{Action}
use Rattle.gmpl_resolved.specs.declared.statement.Action.TheOpen.{Action-F}
use Rattle.gmpl_resolved.specs.declared.statement.Action.TheFolds.{fold-Action}
use Rattle.gmpl_resolved.specs.declared.statement.Step.{Step}
use Rattle.gmpl_resolved.specs.declared.statement.Step.TheVariants as step
use Rattle.gmpl_resolved.specs.declared.statement.NumberedStep.{NumberedStep}
use Rattle.gmpl_resolved.specs.declared.statement.Numbered.{Numbered}
use Rattle.gmpl_resolved.specs.declared.statement.Statements.{Statements}
use Rattle.gmpl_kinds.specs.declared.shape.Shape.TheVariants.{Scalar}
use Rattle.gmpl_kinds.specs.declared.shape.Object.{Object}
use Rattle.gmpl_kinds.specs.declared.shape.Sort.{Sort}
use Rattle.gmpl_kinds.specs.declared.shape.Sort.TheVariants as sort
use Rattle.gmpl_kinds.specs.declared.shape.Site.{Site}
use Rattle.gmpl_kinds.specs.declared.shape.Position.{Position}
use Rattle.gmpl_kinds.specs.declared.shape.Position.TheVariants as at
use Rattle.gmpl_kinds.specs.Demands.{Judged, Or_fault, and_then, as_scalar, as_logic, as_set, as_branch, same_dimension, or_one, most}
use Rattle.gmpl_kinds.specs.Kinds.{shape_of, shapes_of, all_scalars, indexing_parts, indexing_dimension}
use Rattle.gmpl_kinds.specs.Objects.{whole_object}
use Rattle.gmpl_statement_kinds.specs.declared.judgement.Judgement.{Judgement}

-- ---- where the parts of statements stand

-- outside of constraints and objectives
abbrev pub position : Bool → Position
position false = at.Constant
position true = at.Solved

-- no name means the statement's own object there
unfoldable pub plain : Bool → Site
plain solved = record { position = position solved; own = None }

-- the attributes of an object may name it
abbrev pub beside : Bool → Object → Site
beside solved own = record { position = position solved; own = Some own }

-- constraints and objectives stand before `solve`, and no part of theirs names them
unfoldable pub linear : Site
linear = record { position = at.Linear; own = None }

abbrev pub set_of : ℕ → Option ℕ → Object
set_of count n = record { sort = sort.Set; subscripts = count; elements = n }

abbrev pub value_of : Sort → ℕ → Object
value_of kind count = record { sort = kind; subscripts = count; elements = None }

-- `dimen`: a literal has no sign
abbrev pub whole_dimension : Rational → Or_fault (Option ℕ)
whole_dimension n = if is_whole n && (nat_le 1 (unsigned_abs n.numerator) && nat_le (unsigned_abs n.numerator) most) then Ok (Some (unsigned_abs n.numerator)) else Err WrongDimension

-- two dimensions that must agree
abbrev pub agree : Or_fault (Option ℕ) → Option ℕ → Or_fault (Option ℕ)
agree agreed n = and_then agreed (λ m. same_dimension m n)

-- parts from the left, of which nothing is kept
abbrev pub each : {A : Type 0} → List (Or_fault A) → Or_fault (Unit {0})
each [] = Ok tt
each (x ∷ xs) = and_then x (λ _. each xs)

-- a fault with the number and the line of its statement
abbrev pub fault_at : ℕ → ℕ → SyntaxFaultKind → SyntaxFault
fault_at number line kind = record { statement = number; line = line; kind = kind }

abbrev pub numbered : {A : Type 0} → ℕ → ℕ → Or_fault A → Result A SyntaxFault
numbered number line (Ok a) = Ok a
numbered number line (Err kind) = Err (fault_at number line kind)

abbrev pub or_stop : {A B : Type 0} → Result A SyntaxFault → (A → Result B SyntaxFault) → Result B SyntaxFault
or_stop (Ok a) go = go a
or_stop (Err fault) go = Err fault

-- the place of an object whose name stands alone: without subscripts, without a suffix
abbrev pub object_alone_by : Expr-F Component Expr Entry Indexing Link → Option ℕ
object_alone_by (Expr-F.Named (m.Object place) [] None) = Some place
object_alone_by _ = None

abbrev pub object_alone : Expr → Option ℕ
object_alone x = object_alone_by (out-Expr x)

-- ---- the objects to which a table gives data

abbrev pub is_set : Sort → Bool
is_set sort.Set = true
is_set _ = false

abbrev pub is_param : Sort → Bool
is_param sort.Param = true
is_param _ = false

abbrev pub takes : ℕ → ℕ → Or_fault (Unit {0})
takes count subscripts = if subscripts == count then Ok tt else Err WrongDimension

abbrev pub has_components : ℕ → Option ℕ → Or_fault (Unit {0})
has_components count elements = and_then (same_dimension (Some count) elements) (λ _. Ok tt)

-- a set without subscripts, whose elements have a component for each key
abbrev pub joined : ℕ → Option Object → Or_fault (Unit {0})
joined count None = Err WrongKind
joined count (Some object) = if is_set object.sort then and_then (takes 0 object.subscripts) (λ _. has_components count object.elements) else Err WrongKind

-- a parameter with a subscript for each key
abbrev pub parameter : ℕ → Option Object → Or_fault (Unit {0})
parameter count None = Err WrongKind
parameter count (Some object) = if is_param object.sort then takes count object.subscripts else Err WrongKind

module _ (objects : List Object) where
  -- how many subscripts the object takes
  abbrev pub subscripts : Site → Option Indexing → Or_fault ℕ
  subscripts site None = Ok 0
  subscripts site (Some domain) = indexing_dimension (indexing_parts objects site domain)

  unfoldable pub scalar_at : Site → Expr → Judged
  scalar_at site x = and_then (shape_of objects site x) as_scalar

  abbrev pub set_at : Site → Expr → Or_fault (Option ℕ)
  set_at site x = and_then (shape_of objects site x) as_set

  unfoldable pub logic_at : Site → Expr → Judged
  logic_at site x = and_then (shape_of objects site x) as_logic

  -- ---- sets

  -- the dimension that an attribute tells, or none
  abbrev pub told_by : Site → Attribute → Or_fault (Option ℕ)
  told_by site (a.Dimension n) = whole_dimension n
  told_by site (a.Restriction relation x) = set_at site x
  told_by site (a.Assigned x) = set_at site x
  told_by site (a.Default x) = set_at site x
  told_by site _ = Ok None

  -- attributes that tell a dimension must agree, and their own faults come first
  abbrev pub agreed_from : Site → Or_fault (Option ℕ) → List Attribute → Or_fault (Option ℕ)
  agreed_from site agreed [] = agreed
  agreed_from site agreed (x ∷ xs) = and_then (told_by site x) (λ n. agreed_from site (agree agreed n) xs)

  -- the dimension on which attributes agree where the set's own is not known, or is this one, with which they agree then too
  abbrev pub agreed_with : Bool → ℕ → Option ℕ → List Attribute → Or_fault (Option ℕ)
  agreed_with solved count own xs = agreed_from (beside solved (set_of count own)) (Ok own) xs

  -- `dimen`, else the dimension of `within`, `:=` or `default`, else 1. Where they name the set itself, they must agree with it
  -- too.
  abbrev pub set_dimension : Bool → ℕ → List Attribute → Or_fault ℕ
  set_dimension solved count xs = and_then (agreed_with solved count None xs) (λ n. and_then (agreed_with solved count (Some (or_one n)) xs) (λ m. Ok (or_one m)))

  abbrev pub set_object : Bool → Declaration → Or_fault Object
  set_object solved d = and_then (subscripts (plain solved) d.head.domain) (λ count. and_then (set_dimension solved count d.attributes) (λ n. Ok (set_of count (Some n))))

  -- ---- parameters and variables

  -- the values of a parameter are elements of dimension 1
  abbrev pub holds_values : Site → Expr → Judged
  holds_values site x = and_then (set_at site x) (λ n. and_then (same_dimension (Some 1) n) (λ _. Ok Scalar))

  abbrev pub restricts : Site → Relation → Expr → Judged
  restricts site r.In x = holds_values site x
  restricts site _ x = scalar_at site x

  abbrev pub value_attribute : Site → Attribute → Judged
  value_attribute site (a.Restriction relation x) = restricts site relation x
  value_attribute site (a.Assigned x) = scalar_at site x
  value_attribute site (a.Default x) = scalar_at site x
  value_attribute site _ = Ok Scalar

  abbrev pub value_attributes : Site → List Attribute → Judged
  value_attributes site [] = Ok Scalar
  value_attributes site (x ∷ xs) = and_then (value_attribute site x) (λ _. value_attributes site xs)

  abbrev pub value_object : Bool → Sort → Declaration → Or_fault Object
  value_object solved kind d = and_then (subscripts (plain solved) d.head.domain) (λ count. and_then (value_attributes (beside solved (value_of kind count)) d.attributes) (λ _. Ok (value_of kind count)))

  -- ---- constraints and objectives

  -- the outer sides of a constraint with two relations hold no variable
  abbrev pub sides : Constraint → Option Expr → Judged
  sides x None = and_then (scalar_at linear x.left) (λ _. scalar_at linear x.right)
  sides x (Some last) = and_then (scalar_at (plain false) x.left) (λ _. and_then (scalar_at linear x.right) (λ _. scalar_at (plain false) last))

  abbrev pub constraint_object : Constraint → Or_fault Object
  constraint_object x = and_then (subscripts linear x.head.domain) (λ count. and_then (sides x x.last) (λ _. Ok (value_of sort.Constraint count)))

  abbrev pub objective_object : Objective → Or_fault Object
  objective_object x = and_then (subscripts linear x.head.domain) (λ count. and_then (scalar_at linear x.form) (λ _. Ok (value_of sort.Objective count)))

  -- the object that a statement declares
  abbrev pub object_of : Bool → Statement → Or_fault Object
  object_of solved (s.Set d) = set_object solved d
  object_of solved (s.Param d) = value_object solved sort.Param d
  object_of solved (s.Var d) = value_object solved sort.Var d
  object_of solved (s.Constraint x) = constraint_object x
  object_of solved (s.Objective x) = objective_object x

  -- ---- statements that are executed

  -- what has to hold is a logical value
  unfoldable pub check : Site → Option Indexing → Expr → Or_fault (Unit {0})
  check site domain x = and_then (subscripts site domain) (λ _. and_then (logic_at site x) (λ _. Ok tt))

  abbrev pub item_by : Site → Expr → Option ℕ → Judged
  item_by site x (Some place) = whole_object objects site place
  item_by site x None = and_then (shape_of objects site x) as_branch

  -- all members of an object, a scalar or a set
  abbrev pub item : Site → Expr → Judged
  item site x = item_by site x (object_alone x)

  abbrev pub items : Site → List Expr → Or_fault (Unit {0})
  items site xs = each (map (item site) xs)

  unfoldable pub display : Site → Option Indexing → List Expr → Or_fault (Unit {0})
  display site domain xs = and_then (subscripts site domain) (λ _. items site xs)

  -- the format and its arguments are scalars
  unfoldable pub printf : Site → Option Indexing → List Expr → Or_fault (Unit {0})
  printf site domain xs = and_then (subscripts site domain) (λ _. and_then (all_scalars (shapes_of objects site xs)) (λ _. Ok tt))

  -- what a table writes: the file's name, and a scalar for each field
  abbrev pub values : Site → List OutputColumn → Or_fault (Unit {0})
  values site xs = each (map (λ column. scalar_at site column.value) xs)

  unfoldable pub table_output : Site → TableOutput → Or_fault (Unit {0})
  table_output site t = and_then (indexing_dimension (indexing_parts objects site t.domain)) (λ _. and_then (scalar_at site t.file) (λ _. values site t.columns))

  abbrev pub heads : Site → List Indexing → Or_fault (Unit {0})
  heads site xs = each (map (λ x. indexing_dimension (indexing_parts objects site x)) xs)

  abbrev pub action_step : Site → Action-F (Or_fault (Unit {0})) → Or_fault (Unit {0})
  action_step site (Action-F.Check domain x) = check site domain x
  action_step site (Action-F.Display domain xs) = display site domain xs
  action_step site (Action-F.Printf domain xs) = printf site domain xs
  action_step site (Action-F.TableOutput t) = table_output site t
  action_step site (Action-F.For over body) = and_then (heads site over) (λ _. each body)

  abbrev pub action : Site → Action → Or_fault (Unit {0})
  action site = fold-Action (Or_fault (Unit {0})) (action_step site)

  abbrev pub actions : Site → List Action → Or_fault (Unit {0})
  actions site xs = each (map (action site) xs)

  -- one where `solve` stands before it or not
  unfoldable pub executed : Bool → Action → Or_fault (Unit {0})
  executed solved x = action (plain solved) x

  -- the set that so many keys join
  abbrev pub optional_joined : ℕ → Option ℕ → Or_fault (Unit {0})
  optional_joined count None = Ok tt
  optional_joined count (Some place) = joined count (slice_get objects place)

  -- parameters to which records of so many keys give values
  abbrev pub parameters : ℕ → List InputColumn → Or_fault (Unit {0})
  parameters count xs = each (map (λ column. parameter count (slice_get objects column.parameter)) xs)

  unfoldable pub table_input : Bool → TableInput → Or_fault (Unit {0})
  table_input solved t = and_then (scalar_at (plain solved) t.file) (λ _. and_then (optional_joined (length t.keys) t.set) (λ _. parameters (length t.keys) t.columns))

  -- whether `solve` stands before what follows
  abbrev pub behind : Bool → Step → Or_fault Bool
  behind solved (step.Action x) = and_then (executed solved x) (λ _. Ok solved)
  behind solved (step.TableInput t) = and_then (table_input solved t) (λ _. Ok solved)
  behind solved step.Solve = Ok true

  abbrev pub behind_all : Bool → List NumberedStep → Result Bool SyntaxFault
  behind_all solved [] = Ok solved
  behind_all solved (x ∷ xs) = or_stop (numbered x.number x.line (behind solved x.step)) (λ now. behind_all now xs)

  -- the object that a statement declares, where `solve` stands before it or not
  abbrev pub declared : Bool → Numbered → Result Object SyntaxFault
  declared solved x = numbered x.number x.line (object_of solved x.statement)

-- ---- the objects of the statements before the first bad one, and its fault

abbrev pub stopped : List Object → Option SyntaxFault → Judgement
stopped objects fault = record { objects = objects; fault = fault }

abbrev pub go_on : {A : Type 0} → List Object → Result A SyntaxFault → (A → Judgement) → Judgement
go_on objects (Ok a) go = go a
go_on objects (Err fault) go = stopped objects (Some fault)

-- each declaration behind its steps, and behind all of them the last steps; then comes what the passes before found
abbrev pub judged_from : List Object → Bool → List Numbered → List NumberedStep → Option SyntaxFault → Judgement
judged_from objects solved [] steps fault = go_on objects (behind_all objects solved steps) (λ _. stopped objects fault)
judged_from objects solved (x ∷ xs) steps fault =
    go_on objects (behind_all objects solved x.steps) (λ now. go_on objects (declared objects now x) (λ object. judged_from (objects ++ object ∷ []) now xs steps fault))

abbrev pub judgement : Statements → Judgement
judgement whole = judged_from [] false whole.items whole.steps whole.fault
