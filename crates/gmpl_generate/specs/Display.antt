-- What `display` shows (GNU MathProg Language Reference, section on the display statement): at each element its items in order. An
-- item that is the name of an object alone means the object, each member of its domain on a line; any other is an expression.
use Rattle.std.specs.Prelude.{ℕ, codes, Ok, List, [], ◌∷◌, ◌++◌, Option, Some, None}
use Rattle.gmpl_syntax.specs.declared.expression.Suffix.{Suffix}
use Rattle.gmpl_resolved.specs.declared.expression.Meaning.{Meaning}
use Rattle.gmpl_resolved.specs.declared.expression.Meaning.TheVariants as m
use Rattle.gmpl_resolved.specs.declared.expression.Expr.{Expr}
use Rattle.gmpl_resolved.specs.declared.expression.Component.TheOpen.{Expr-F}
use Rattle.gmpl_resolved.specs.declared.expression.Component.TheFolds.{fold-Expr}
use Rattle.gmpl_resolved.specs.declared.statement.Head.{Head}
use Rattle.gmpl_resolved.specs.declared.statement.Numbered.{Numbered}
use Rattle.gmpl_resolved.specs.declared.statement.Statement.{Statement}
use Rattle.gmpl_resolved.specs.declared.statement.Statement.TheVariants as statement
use Rattle.gmpl_value.specs.declared.symbol.Symbol.{Symbol}
use Rattle.gmpl_member_names.specs.Names.{member_name}
use Rattle.gmpl_value.specs.declared.eval_fault.EvalFault.{EvalFault}
use Rattle.gmpl_value.specs.declared.eval_fault.EvalFault.TheVariants.{NoValue}
use Rattle.gmpl_value.specs.Outcome.{Outcome, then_do}
use Rattle.gmpl_data.specs.declared.tables.LoadedModel.{LoadedModel}
use Rattle.gmpl_data.specs.Given.{statement_at}
use Rattle.gmpl_meaning.specs.declared.walk.Element.{Element}
use Rattle.gmpl_meaning.specs.Members.{evaluated, elements_of, member_at}
use Rattle.gmpl_meaning.specs.Parts.{Bindings}
use Rattle.gmpl_generate.specs.declared.scopes.Scopes.{Scopes}
use Rattle.gmpl_generate.specs.Running.{Printing, ◌>>=◌, pure}
use Rattle.gmpl_generate.specs.Scopes.{behind, over}
use Rattle.gmpl_generate.specs.Printing.{put}
use Rattle.gmpl_generate.specs.Shown.{shown}

abbrev pub line : List ℕ → List ℕ → List ℕ
line name value = name ++ (codes " = " ++ (value ++ codes "\n"))

abbrev pub head_of : Statement → Head
head_of (statement.Set d) = d.head
head_of (statement.Param d) = d.head
head_of (statement.Var d) = d.head
head_of (statement.Constraint c) = c.head
head_of (statement.Objective o) = o.head

-- ---- the object whose name stands alone: without subscripts and suffix

abbrev pub alone : {A : Type 0} → Meaning → List A → Option Suffix → Option ℕ
alone (m.Object place) [] None = Some place
alone (m.Object place) [] (Some suffix) = None
alone (m.Object place) (x ∷ xs) suffix = None
alone (m.Index place) subscripts suffix = None

abbrev pub expr_step : Expr-F (Unit {0}) (Option ℕ) (Unit {0}) (Unit {0}) (Unit {0}) → Option ℕ
expr_step (Expr-F.Named meaning subscripts suffix) = alone meaning subscripts suffix
expr_step _ = None

abbrev pub object_alone : Expr → Option ℕ
object_alone = fold-Expr (Unit {0}) (Option ℕ) (Unit {0}) (Unit {0}) (Unit {0}) (λ _. tt) expr_step (λ _. tt) (λ _. tt) (λ _. tt)

module _ (model : LoadedModel) where
  -- ---- expressions

  abbrev pub expression_line : Expr → Bindings → Outcome (List ℕ)
  expression_line x b = then_do (λ v. then_do (λ text. Ok (line (codes "display") text)) (shown v)) (evaluated model x b)

  -- ---- members of objects

  abbrev pub member_line : ℕ → List ℕ → List Symbol → Outcome (List ℕ)
  member_line place name subscripts =
      then_do (λ v. then_do (λ text. Ok (line (member_name name subscripts) text)) (shown v)) (member_at model place subscripts)

  abbrev pub show_member : ℕ → List ℕ → Element → Printing (Unit {0})
  show_member place name e = put (member_line place name e.tuple)

  abbrev pub show_members : ℕ → List ℕ → List Element → Option EvalFault → Printing (Unit {0})
  show_members place name [] fault = behind fault
  show_members place name (e ∷ es) fault = show_member place name e >>= (λ _. show_members place name es fault)

  abbrev pub show_head : ℕ → Head → Printing (Unit {0})
  show_head place head = show_members place head.name (elements_of model head.domain []).elements (elements_of model head.domain []).fault

  abbrev pub show_declared : ℕ → Option Numbered → Printing (Unit {0})
  show_declared place None = behind (Some NoValue)
  show_declared place (Some x) = show_head place (head_of x.statement)

  abbrev pub show_object : ℕ → Printing (Unit {0})
  show_object place = show_declared place (statement_at model place)

  -- ---- items

  abbrev pub show_item_by : Option ℕ → Bindings → Expr → Printing (Unit {0})
  show_item_by (Some place) b x = show_object place
  show_item_by None b x = put (expression_line x b)

  abbrev pub show_item : Bindings → Expr → Printing (Unit {0})
  show_item b x = show_item_by (object_alone x) b x

  abbrev pub show_items : Bindings → List Expr → Printing (Unit {0})
  show_items b [] = pure tt
  show_items b (x ∷ xs) = show_item b x >>= (λ _. show_items b xs)

  abbrev pub show_each : List Expr → Scopes → Printing (Unit {0})
  show_each items s = over (λ b. show_items b items) s.all s.fault
