-- What a constraint or an objective makes at an element of its domain (GNU MathProg Language Reference, sections on the constraint
-- and on the objective statement).
use Rattle.std.specs.Prelude.{ℕ, Option, Some, None, Result, Ok, Err, List, [], ◌∷◌, ◌++◌}
use Rattle.rational.specs.Rational.{Rational, neg_ℚ}
use Rattle.fraction.specs.Answers.{sub_answer}
use Rattle.milp.specs.declared.Direction.{Direction as Aim}
use Rattle.milp.specs.declared.Direction.TheVariants.{Min, Max}
use Rattle.gmpl_syntax.specs.declared.expression.Relation.{Relation}
use Rattle.gmpl_syntax.specs.declared.expression.Relation.TheVariants as r
use Rattle.gmpl_syntax.specs.declared.statement.Direction.{Direction}
use Rattle.gmpl_syntax.specs.declared.statement.Direction.TheVariants.{Minimize, Maximize}
use Rattle.gmpl_resolved.specs.declared.expression.Expr.{Expr}
use Rattle.gmpl_resolved.specs.declared.statement.Constraint.{Constraint}
use Rattle.gmpl_resolved.specs.declared.statement.Objective.{Objective}
use Rattle.gmpl_value.specs.declared.symbol.Symbol.{Symbol}
use Rattle.gmpl_value.specs.declared.eval_fault.EvalFault.TheVariants as fault
use Rattle.gmpl_value.specs.Outcome.{Outcome, fitting, then_do}
use Rattle.gmpl_functions.specs.declared.terms.Sign.TheVariants.{Minus}
use Rattle.gmpl_functions.specs.declared.variable.Variable.{Variable}
use Rattle.gmpl_functions.specs.Amounts.{form_in}
use Rattle.gmpl_functions.specs.Linear.{Linear, Terms}
use Rattle.gmpl_functions.specs.Sums.{combined}
use Rattle.gmpl_operations.specs.Values.{number_in, amount_in}
use Rattle.gmpl_data.specs.declared.tables.LoadedModel.{LoadedModel}
use Rattle.gmpl_meaning.specs.declared.bounds.Bounds.{Bounds}
use Rattle.gmpl_meaning.specs.declared.walk.Element.{Element}
use Rattle.gmpl_meaning.specs.Members.{no_bounds, evaluated, bounds_at}
use Rattle.gmpl_meaning.specs.Parts.{Bindings}
use Rattle.gmpl_meaning.specs.Restrictions.{with_bound}
use Rattle.gmpl_rows.specs.declared.draft.RowHead.{RowHead}
use Rattle.gmpl_rows.specs.declared.fault.DraftFault.{DraftFault}
use Rattle.gmpl_rows.specs.declared.fault.DraftFault.TheVariants as draft
use Rattle.gmpl_rows.specs.declared.term.Bounds.{Bounds as TermBounds}
use Rattle.gmpl_rows.specs.declared.term.Term.{Term}
use Rattle.gmpl_rows.specs.Draft.{Draft, with_row, with_objective}
use Rattle.gmpl_generate.specs.declared.sides.RowForm.{RowForm}

-- ---- the form and the bounds of a row

abbrev pub row_form : Linear → Bounds → RowForm
row_form form bounds = record { form = form; bounds = bounds }

-- two sides whose difference is a form: its constant moved to the bound
abbrev pub constant_moved : Relation → Linear → RowForm
constant_moved relation f = row_form f (with_bound no_bounds relation (neg_ℚ f.constant))

-- how a form stands to what stands to the left of it
abbrev pub turned : Relation → Relation
turned r.AtMost = r.AtLeast
turned r.AtLeast = r.AtMost
turned relation = relation

-- the bounds of a form between two numbers
abbrev pub between : Relation → Rational → Rational → Bounds
between relation first last = with_bound (with_bound no_bounds (turned relation) first) relation last

-- a side that is a number, without the form's constant
abbrev pub less_constant : Rational → Linear → Outcome Rational
less_constant q f = fitting (sub_answer q f.constant)

-- three sides: the constant moved to both bounds, the first one first
abbrev pub constant_moved_twice : Relation → Rational → Linear → Rational → Outcome RowForm
constant_moved_twice relation p f q =
    then_do (λ first. then_do (λ last. Ok (row_form f (between relation first last))) (less_constant q f)) (less_constant p f)

module _ (model : LoadedModel) (b : Bindings) where
  abbrev pub number_of : Expr → Outcome Rational
  number_of x = then_do number_in (evaluated model x b)

  -- a number is a form without terms
  abbrev pub form_of : Expr → Outcome Linear
  form_of x = then_do (λ a. Ok (form_in a)) (then_do amount_in (evaluated model x b))

  -- left minus right
  abbrev pub two_sides : Relation → Expr → Expr → Outcome RowForm
  two_sides relation left right =
      then_do (λ l. then_do (λ r. then_do (λ f. Ok (constant_moved relation f)) (combined Minus l r)) (form_of right)) (form_of left)

  -- from left to right; the outer sides are numbers
  abbrev pub three_sides : Relation → Expr → Expr → Expr → Outcome RowForm
  three_sides relation first middle last =
      then_do (λ p. then_do (λ f. then_do (λ q. constant_moved_twice relation p f q) (number_of last)) (form_of middle)) (number_of first)

  abbrev pub sides : Relation → Expr → Expr → Option Expr → Outcome RowForm
  sides relation left right None = two_sides relation left right
  sides relation left right (Some last) = three_sides relation left right last

  abbrev pub constraint_form : Constraint → Outcome RowForm
  constraint_form c = sides c.relation c.left c.right c.last

-- ---- a row's terms, with the bounds of their members

abbrev pub term_bounds : Bounds → TermBounds
term_bounds x = record { lower = x.lower; upper = x.upper }

abbrev pub term : Variable × Rational → Bounds → Term
term t x = record { variable = t.0; bounds = term_bounds x; coefficient = t.1 }

module _ (model : LoadedModel) where
  abbrev pub term_of : Variable × Rational → Outcome Term
  term_of t = then_do (λ x. Ok (term t x)) (bounds_at model t.0.statement t.0.subscripts)

  -- one more, behind those found
  abbrev pub with_term : List Term → Variable × Rational → Outcome (List Term)
  with_term found t = then_do (λ x. Ok (found ++ x ∷ [])) (term_of t)

  -- in the order of the form
  abbrev pub terms_of : List Term → Terms → Outcome (List Term)
  terms_of found [] = Ok found
  terms_of found (t ∷ ts) = then_do (λ more. terms_of more ts) (with_term found t)

  -- one more where there is one
  abbrev pub term_at : List Term → Option (Variable × Rational) → Outcome (List Term)
  term_at found None = Ok found
  term_at found (Some t) = with_term found t

-- ---- the row of an element

abbrev pub row_head : ℕ → List Symbol → Bounds → RowHead
row_head place subscripts x = record { statement = place; subscripts = subscripts; lower = x.lower; upper = x.upper }

-- past a limit of an instance
abbrev pub outcome_of : {A : Type 0} → Result A DraftFault → Outcome A
outcome_of (Ok a) = Ok a
outcome_of (Err draft.TooMany) = Err fault.TooMany
outcome_of (Err draft.NoMemory) = Err fault.NoMemory

abbrev pub aim : Direction → Aim
aim Minimize = Min
aim Maximize = Max

module _ (model : LoadedModel) (place : ℕ) where
  -- the form is evaluated; then the row counts, and its entries and columns term by term
  abbrev pub with_form : List Symbol → Draft → RowForm → Outcome Draft
  with_form subscripts d x =
      then_do (λ ts. outcome_of (with_row (row_head place subscripts x.bounds) ts d)) (terms_of model [] x.form.terms)

  abbrev pub constraint_row : Constraint → Element → Draft → Outcome Draft
  constraint_row c e d = then_do (with_form e.tuple d) (constraint_form model e.indices c)

  -- a free row of the form without its constant; the first such row of a model is its objective, with the constant
  abbrev pub with_objective_form : Direction → List Symbol → Draft → Linear → Outcome Draft
  with_objective_form direction subscripts d f =
      then_do (λ more. Ok (with_objective (aim direction) f.constant more)) (with_form subscripts d (row_form f no_bounds))

  abbrev pub objective_row : Objective → Element → Draft → Outcome Draft
  objective_row o e d = then_do (with_objective_form o.direction e.tuple d) (form_of model e.indices o.form)
