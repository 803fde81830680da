-- The restrictions of parameters and sets, and the bounds of variables. Those of a parameter are tested by kind, in the order
-- integer and binary, relations, `in`; within a kind in the order of the text.
use Rattle.std.specs.Prelude.{Bool, true, false, ◌&&◌, ◌||◌, Option, Some, None, Ok, Err, List, [], ◌∷◌, if◌then◌else◌}
use Rattle.rational.specs.Rational.{Rational, zero_ℚ, one_ℚ}
use Rattle.rational.specs.Compare.{is_whole, is_zero, is_less}
use Rattle.gmpl_syntax.specs.declared.expression.Relation.{Relation}
use Rattle.gmpl_syntax.specs.declared.expression.Relation.TheVariants as r
use Rattle.gmpl_resolved.specs.declared.expression.Expr.{Expr}
use Rattle.gmpl_resolved.specs.declared.statement.Attribute.{Attribute}
use Rattle.gmpl_resolved.specs.declared.statement.Attribute.TheVariants as a
use Rattle.gmpl_resolved.specs.declared.statement.Numbered.{Numbered}
use Rattle.gmpl_value.specs.declared.symbol.Symbol.{Symbol}
use Rattle.gmpl_value.specs.declared.symbol.Symbol.TheVariants.{Number, Word}
use Rattle.gmpl_value.specs.Sets.{Elements as Set, is_member, is_within}
use Rattle.gmpl_value.specs.declared.eval_fault.EvalFault.TheVariants.{Restriction}
use Rattle.gmpl_value.specs.Outcome.{Outcome, then_do}
use Rattle.gmpl_functions.specs.Numbers.{greater_of, lesser_of}
use Rattle.gmpl_operations.specs.declared.value.Value.{Value}
use Rattle.gmpl_operations.specs.declared.value.Value.TheVariants.{Scalar}
use Rattle.gmpl_operations.specs.Values.{number_in, symbol_in, set_in}
use Rattle.gmpl_operations.specs.Relations.{compared}
use Rattle.gmpl_meaning.specs.declared.bounds.Bounds.{Bounds}
use Rattle.gmpl_meaning.specs.Parts.{Bindings, Demanding, Meant}
use Rattle.gmpl_meaning.specs.Expressions.{meaning}

-- ---- attributes of a statement

abbrev pub is_symbolic_by : Attribute → Bool
is_symbolic_by a.Symbolic = true
is_symbolic_by _ = false

abbrev pub is_symbolic : List Attribute → Bool
is_symbolic [] = false
is_symbolic (x ∷ xs) = if is_symbolic_by x then true else is_symbolic xs

abbrev pub is_binary_by : Attribute → Bool
is_binary_by a.Binary = true
is_binary_by _ = false

abbrev pub is_binary : List Attribute → Bool
is_binary [] = false
is_binary (x ∷ xs) = if is_binary_by x then true else is_binary xs

abbrev pub assigned_by : Attribute → Option Expr
assigned_by (a.Assigned x) = Some x
assigned_by _ = None

abbrev pub default_by : Attribute → Option Expr
default_by (a.Default x) = Some x
default_by _ = None

abbrev pub or_else : Option Expr → Option Expr → Option Expr
or_else (Some x) other = Some x
or_else None other = other

-- the expression behind `:=`
abbrev pub assigned : List Attribute → Option Expr
assigned [] = None
assigned (x ∷ xs) = or_else (assigned_by x) (assigned xs)

-- the expression behind `default`
abbrev pub default_of : List Attribute → Option Expr
default_of [] = None
default_of (x ∷ xs) = or_else (default_by x) (default_of xs)

-- ---- parameters

-- what a parameter holds: a number, and a symbol where it is symbolic
abbrev pub held : Bool → Value → Outcome Symbol
held true v = symbol_in v
held false v = then_do (λ q. Ok (Number q)) (number_in v)

abbrev pub is_whole_symbol : Symbol → Bool
is_whole_symbol (Number q) = is_whole q
is_whole_symbol (Word text) = false

abbrev pub is_zero_or_one : Rational → Bool
is_zero_or_one q = if is_zero q then true else is_whole q && (is_less zero_ℚ q && (if is_less one_ℚ q then false else true))

abbrev pub is_binary_symbol : Symbol → Bool
is_binary_symbol (Number q) = is_zero_or_one q
is_binary_symbol (Word text) = false

-- what `integer` and `binary` ask
abbrev pub allows : Attribute → Symbol → Bool
allows a.Integer s = is_whole_symbol s
allows a.Binary s = is_binary_symbol s
allows _ s = true

abbrev pub all_allow : List Attribute → Symbol → Bool
all_allow [] s = true
all_allow (x ∷ xs) s = if allows x s then all_allow xs s else false

abbrev pub where_true : Bool → Outcome (Unit {0})
where_true true = Ok tt
where_true false = Err Restriction

abbrev pub is_in : Relation → Bool
is_in r.In = true
is_in _ = false

-- ---- bounds

abbrev pub bounds : Option Rational → Option Rational → Bounds
bounds lower upper = record { lower = lower; upper = upper }

abbrev pub with_bound : Bounds → Relation → Rational → Bounds
with_bound so_far r.AtLeast q = bounds (Some q) so_far.upper
with_bound so_far r.AtMost q = bounds so_far.lower (Some q)
with_bound so_far r.Equal q = bounds (Some q) (Some q)
with_bound so_far _ q = so_far

module _ (statements : List Numbered) (demand : Demanding) (b : Bindings) where
  abbrev pub value_of : Expr → Outcome Value
  value_of x = (meaning statements demand x).value b

  abbrev pub meets : Bool → Relation → Expr → Symbol → Outcome (Unit {0})
  meets symbolic relation x s = then_do (λ t. where_true (compared relation s t)) (then_do (held symbolic) (value_of x))

  -- a relation to an expression, of the same kind as the parameter's values
  abbrev pub relation_holds : Bool → Attribute → Symbol → Outcome (Unit {0})
  relation_holds symbolic (a.Restriction relation x) s = if is_in relation then Ok tt else meets symbolic relation x s
  relation_holds symbolic _ s = Ok tt

  abbrev pub relations_hold : Bool → List Attribute → Symbol → Outcome (Unit {0})
  relations_hold symbolic [] s = Ok tt
  relations_hold symbolic (x ∷ xs) s = then_do (λ _. relations_hold symbolic xs s) (relation_holds symbolic x s)

  abbrev pub is_element : Expr → Symbol → Outcome (Unit {0})
  is_element x s = then_do (λ set. where_true (is_member set (s ∷ []))) (then_do set_in (value_of x))

  -- `in`
  abbrev pub membership_holds : Attribute → Symbol → Outcome (Unit {0})
  membership_holds (a.Restriction relation x) s = if is_in relation then is_element x s else Ok tt
  membership_holds _ s = Ok tt

  abbrev pub memberships_hold : List Attribute → Symbol → Outcome (Unit {0})
  memberships_hold [] s = Ok tt
  memberships_hold (x ∷ xs) s = then_do (λ _. memberships_hold xs s) (membership_holds x s)

  abbrev pub restricted : Bool → List Attribute → Symbol → Outcome Value
  restricted symbolic xs s =
      then_do (λ _. then_do (λ _. then_do (λ _. Ok (Scalar s)) (memberships_hold xs s)) (relations_hold symbolic xs s)) (where_true (all_allow xs s))

  -- ---- sets

  -- `within`
  abbrev pub inclusion_holds : Attribute → Set → Outcome (Unit {0})
  inclusion_holds (a.Restriction relation x) set = then_do (λ outer. where_true (is_within set outer)) (then_do set_in (value_of x))
  inclusion_holds _ set = Ok tt

  abbrev pub inclusions_hold : List Attribute → Set → Outcome (Unit {0})
  inclusions_hold [] set = Ok tt
  inclusions_hold (x ∷ xs) set = then_do (λ _. inclusions_hold xs set) (inclusion_holds x set)

  -- ---- variables

  abbrev pub bounded_by : Bounds → Attribute → Outcome Bounds
  bounded_by so_far (a.Restriction relation x) = then_do (λ q. Ok (with_bound so_far relation q)) (then_do number_in (value_of x))
  bounded_by so_far _ = Ok so_far

  -- the bounds that the attributes give, in the order of the text
  abbrev pub bounded : Bounds → List Attribute → Outcome Bounds
  bounded so_far [] = Ok so_far
  bounded so_far (x ∷ xs) = then_do (λ more. bounded more xs) (bounded_by so_far x)

abbrev pub at_least_zero : Option Rational → Rational
at_least_zero None = zero_ℚ
at_least_zero (Some q) = greater_of zero_ℚ q

abbrev pub at_most_one : Option Rational → Rational
at_most_one None = one_ℚ
at_most_one (Some q) = lesser_of one_ℚ q

-- `binary`: the greater of 0 and the lower bound, the lesser of 1 and the upper one
abbrev pub where_binary : Bool → Bounds → Bounds
where_binary true x = record { lower = Some (at_least_zero x.lower); upper = Some (at_most_one x.upper) }
where_binary false x = x
