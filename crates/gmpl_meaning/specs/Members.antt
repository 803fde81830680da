-- What members come to (GNU MathProg Language Reference, sections on the set, the parameter and the variable statement): with at
-- most so many members in a chain of demands, each evaluated anew. Behind `solve` the model has its solution, and then members of
-- variables, constraints and objectives are numbers, of which suffixes ask for one.
use Rattle.std.specs.Prelude.{ℕ, zero, suc, Bool, true, false, Option, Some, None, Ok, Err, List, [], ◌∷◌, if◌then◌else◌}
use Rattle.rational.specs.Rational.{Rational, zero_ℚ, one_ℚ}
use Rattle.gmpl_syntax.specs.declared.expression.Suffix.{Suffix}
use Rattle.gmpl_syntax.specs.declared.expression.Suffix.TheVariants as suffix
use Rattle.gmpl_solution.specs.declared.dual.Dual.{Dual}
use Rattle.gmpl_solution.specs.declared.dual.Dual.TheVariants as dual
use Rattle.gmpl_solution.specs.declared.solution.SolvedMember.{SolvedMember}
use Rattle.gmpl_solution.specs.Solution.{Solution, member as member_named, value_of, dual_of, column_of, row_of}
use Rattle.gmpl_resolved.specs.declared.expression.Expr.{Expr}
use Rattle.gmpl_resolved.specs.declared.expression.Indexing.{Indexing}
use Rattle.gmpl_resolved.specs.declared.statement.Attribute.{Attribute}
use Rattle.gmpl_resolved.specs.declared.statement.Declaration.{Declaration}
use Rattle.gmpl_resolved.specs.declared.statement.Numbered.{Numbered}
use Rattle.gmpl_resolved.specs.declared.statement.Statement.{Statement}
use Rattle.gmpl_resolved.specs.declared.statement.Statement.TheVariants as statement
use Rattle.gmpl_value.specs.declared.symbol.Symbol.{Symbol}
use Rattle.gmpl_value.specs.Sets.{Elements as Set}
use Rattle.gmpl_members.specs.declared.value.Value.{Value as Kept}
use Rattle.gmpl_members.specs.declared.value.Value.TheVariants as kept
use Rattle.gmpl_data.specs.declared.tables.LoadedModel.{LoadedModel}
use Rattle.gmpl_data.specs.Given.{statement_at, value_given, is_overfull, default_given}
use Rattle.gmpl_value.specs.declared.eval_fault.EvalFault.TheVariants.{NoValue, OutOfDomain, TooMany, NoDual, NoFit, Depth}
use Rattle.gmpl_value.specs.Outcome.{Outcome, then_do}
use Rattle.gmpl_functions.specs.declared.variable.Variable.{Variable}
use Rattle.gmpl_functions.specs.Linear.{linear}
use Rattle.gmpl_operations.specs.declared.value.Value.{Value}
use Rattle.gmpl_operations.specs.declared.value.Value.TheVariants.{Scalar, Elements, Linear}
use Rattle.gmpl_operations.specs.Values.{set_in, of_number}
use Rattle.gmpl_meaning.specs.declared.bounds.Bounds.{Bounds}
use Rattle.gmpl_meaning.specs.declared.walk.Walk.{Walk}
use Rattle.gmpl_meaning.specs.Parts.{Bindings, Demanding, Meant}
use Rattle.gmpl_meaning.specs.Walks.{walked, start}
use Rattle.gmpl_meaning.specs.Expressions.{meaning, indexing_meaning}
use Rattle.gmpl_meaning.specs.Domains.{within_domain}
use Rattle.gmpl_meaning.specs.Restrictions.{is_symbolic, is_binary, assigned, default_of, held, restricted, inclusions_hold, bounded, bounds, where_binary}

-- the longest chain of demands
abbrev pub most_height : ℕ
most_height = 400

abbrev pub behind_the_first : ℕ
behind_the_first = 399

abbrev pub as_value : Kept → Value
as_value (kept.Scalar s) = Scalar s
as_value (kept.Elements s) = Elements s

abbrev pub variable : ℕ → List Symbol → Variable
variable place subscripts = record { statement = place; subscripts = subscripts }

abbrev pub no_bounds : Bounds
no_bounds = record { lower = None; upper = None }

-- ---- numbers of a solution

-- without a bound there is no value
abbrev pub bound_value : Option Rational → Outcome Value
bound_value None = Err NoValue
bound_value (Some q) = Ok (of_number q)

-- a dual value, where there are any and its sum fits
abbrev pub dual_value : Dual → Outcome Value
dual_value (dual.Number q) = Ok (of_number q)
dual_value (dual.NoFit n) = Err (NoFit n)
dual_value dual.Missing = Err NoDual

-- what is asked of a member of a variable with these bounds: before `solve` it is its form, and has no suffix
abbrev pub variable_asked : ℕ → List Symbol → Option Solution → Option Suffix → Bounds → Outcome Value
variable_asked place subscripts None None bounds = Ok (Linear (linear ((variable place subscripts, one_ℚ) ∷ []) zero_ℚ))
variable_asked place subscripts None (Some asked) bounds = Err NoValue
variable_asked place subscripts (Some s) None bounds = Ok (of_number (value_of s (member_named place subscripts)))
variable_asked place subscripts (Some s) (Some suffix.Value) bounds = Ok (of_number (value_of s (member_named place subscripts)))
variable_asked place subscripts (Some s) (Some suffix.LowerBound) bounds = bound_value bounds.lower
variable_asked place subscripts (Some s) (Some suffix.UpperBound) bounds = bound_value bounds.upper
variable_asked place subscripts (Some s) (Some suffix.Dual) bounds = dual_value (dual_of s (member_named place subscripts))
variable_asked place subscripts (Some s) (Some suffix.LeftOut) bounds = Err NoValue

-- what is asked of a column or of a row
abbrev pub solved_asked : Option Suffix → SolvedMember → Outcome Value
solved_asked None m = Ok (of_number m.value)
solved_asked (Some suffix.Value) m = Ok (of_number m.value)
solved_asked (Some suffix.LowerBound) m = bound_value m.lower
solved_asked (Some suffix.UpperBound) m = bound_value m.upper
solved_asked (Some suffix.Dual) m = dual_value m.dual
solved_asked (Some suffix.LeftOut) m = Err NoValue

abbrev pub asks_bound : Option Suffix → Bool
asks_bound None = false
asks_bound (Some suffix.Value) = false
asks_bound (Some suffix.LowerBound) = true
asks_bound (Some suffix.UpperBound) = true
asks_bound (Some suffix.Dual) = false
asks_bound (Some suffix.LeftOut) = false

-- behind `solve` a column has its own bounds, those of its first demand, which are not evaluated again
abbrev pub bounded_column : Option Solution → ℕ → Option Suffix → List Symbol → Option SolvedMember
bounded_column None place asked subscripts = None
bounded_column (Some s) place asked subscripts = if asks_bound asked then column_of s (member_named place subscripts) else None

-- there is a row for each member of the domain
abbrev pub row_found : Option Suffix → Option SolvedMember → Outcome Value
row_found asked None = Err OutOfDomain
row_found asked (Some row) = solved_asked asked row

-- what is asked of a member of a constraint or of an objective, which is its row's; before `solve` there is none
abbrev pub row_member : Option Solution → ℕ → Option Suffix → List Symbol → Outcome Value
row_member None place asked subscripts = Err NoValue
row_member (Some s) place asked subscripts = row_found asked (row_of s (member_named place subscripts))

module _ (model : LoadedModel) (demand : Demanding) where
  abbrev pub value_at : Bindings → Expr → Outcome Value
  value_at b x = (meaning model.statements demand x).value b

  -- ---- where a member's value comes from: data, else `:=`, else the default of the data, else that of the model

  abbrev pub by_default : Bindings → Option Expr → Outcome Value
  by_default b None = Err NoValue
  by_default b (Some x) = value_at b x

  abbrev pub by_data_default : Bindings → Option Symbol → List Attribute → Outcome Value
  by_data_default b (Some s) xs = Ok (Scalar s)
  by_data_default b None xs = by_default b (default_of xs)

  abbrev pub by_statement : Bindings → ℕ → Option Expr → List Attribute → Outcome Value
  by_statement b place (Some x) xs = value_at b x
  by_statement b place None xs = by_data_default b (default_given model place) xs

  abbrev pub by_data : Bindings → ℕ → Option Kept → List Attribute → Outcome Value
  by_data b place (Some v) xs = Ok (as_value v)
  by_data b place None xs = by_statement b place (assigned xs) xs

  abbrev pub source : Bindings → ℕ → List Symbol → List Attribute → Outcome Value
  source b place subscripts xs = by_data b place (value_given model place subscripts) xs

  -- ---- the three kinds of members

  abbrev pub domain_of : Declaration → List Symbol → Outcome Bindings
  domain_of d subscripts = within_domain model.statements demand d.head.domain subscripts

  abbrev pub param_within : ℕ → Declaration → List Symbol → Bindings → Outcome Value
  param_within place d subscripts b =
      then_do (restricted model.statements demand b (is_symbolic d.attributes) d.attributes)
      (then_do (held (is_symbolic d.attributes)) (source b place subscripts d.attributes))

  abbrev pub param_member : ℕ → Declaration → List Symbol → Outcome Value
  param_member place d subscripts = then_do (param_within place d subscripts) (domain_of d subscripts)

  abbrev pub included : Bindings → List Attribute → Set → Outcome Value
  included b xs set = then_do (λ _. Ok (Elements set)) (inclusions_hold model.statements demand b xs set)

  -- a set to which data give too many elements is TooMany where it is demanded
  abbrev pub set_source : Bindings → ℕ → List Symbol → List Attribute → Outcome Set
  set_source b place subscripts xs = if is_overfull model place subscripts then Err TooMany else then_do set_in (source b place subscripts xs)

  abbrev pub set_within : ℕ → Declaration → List Symbol → Bindings → Outcome Value
  set_within place d subscripts b = then_do (included b d.attributes) (set_source b place subscripts d.attributes)

  abbrev pub set_member : ℕ → Declaration → List Symbol → Outcome Value
  set_member place d subscripts = then_do (set_within place d subscripts) (domain_of d subscripts)

  abbrev pub bounds_within : Declaration → Bindings → Outcome Bounds
  bounds_within d b = then_do (λ x. Ok (where_binary (is_binary d.attributes) x)) (bounded model.statements demand b no_bounds d.attributes)

  -- the bounds of a variable's member, evaluated at each demand
  abbrev pub variable_bounds : Declaration → List Symbol → Outcome Bounds
  variable_bounds d subscripts = then_do (bounds_within d) (domain_of d subscripts)

  abbrev pub evaluated_variable : ℕ → Declaration → Option Suffix → List Symbol → Outcome Value
  evaluated_variable place d asked subscripts = then_do (variable_asked place subscripts model.solution asked) (variable_bounds d subscripts)

  abbrev pub variable_by : ℕ → Declaration → Option Suffix → List Symbol → Option SolvedMember → Outcome Value
  variable_by place d asked subscripts None = evaluated_variable place d asked subscripts
  variable_by place d asked subscripts (Some column) = solved_asked asked column

  abbrev pub variable_member : ℕ → Declaration → Option Suffix → List Symbol → Outcome Value
  variable_member place d asked subscripts = variable_by place d asked subscripts (bounded_column model.solution place asked subscripts)

  -- no suffix stands behind a set or a parameter
  abbrev pub member_of : ℕ → Statement → Option Suffix → List Symbol → Outcome Value
  member_of place (statement.Set d) asked subscripts = set_member place d subscripts
  member_of place (statement.Param d) asked subscripts = param_member place d subscripts
  member_of place (statement.Var d) asked subscripts = variable_member place d asked subscripts
  member_of place (statement.Constraint c) asked subscripts = row_member model.solution place asked subscripts
  member_of place (statement.Objective o) asked subscripts = row_member model.solution place asked subscripts

  abbrev pub declared : ℕ → Option Numbered → Option Suffix → List Symbol → Outcome Value
  declared place None asked subscripts = Err NoValue
  declared place (Some x) asked subscripts = member_of place x.statement asked subscripts

  abbrev pub bounds_of : Statement → List Symbol → Outcome Bounds
  bounds_of (statement.Var d) subscripts = variable_bounds d subscripts
  bounds_of _ subscripts = Err NoValue

  abbrev pub declared_bounds : Option Numbered → List Symbol → Outcome Bounds
  declared_bounds None subscripts = Err NoValue
  declared_bounds (Some x) subscripts = bounds_of x.statement subscripts

-- a member with so many members left in the chain: Depth before anything of it is evaluated
unfoldable pub member : LoadedModel → ℕ → Demanding
member model zero place asked subscripts = Err Depth
member model (suc height) place asked subscripts = declared model (member model height) place (statement_at model place) asked subscripts

-- ---- what is asked of a model with its data

-- an expression, where the indices in scope have these values
abbrev pub evaluated : LoadedModel → Expr → Bindings → Outcome Value
evaluated model x b = (meaning model.statements (member model most_height) x).value b

-- a member of an object, the first in the chain of demands
abbrev pub member_at : LoadedModel → ℕ → List Symbol → Outcome Value
member_at model place subscripts = member model most_height place None subscripts

-- what a domain goes over: without a domain, once
abbrev pub elements_of : LoadedModel → Option Indexing → Bindings → Walk
elements_of model None b = start
elements_of model (Some indexing) b = walked (indexing_meaning model.statements (member model most_height) indexing) b

-- the bounds of a variable's member, which is the first in the chain of demands
abbrev pub bounds_at : LoadedModel → ℕ → List Symbol → Outcome Bounds
bounds_at model place subscripts = declared_bounds model (member model behind_the_first) (statement_at model place) subscripts
