-- The components of an index (GNU MathProg Language Reference, section on indexing expressions).
use Rattle.std.specs.Prelude.{List, [], ◌∷◌, map, None}
use Rattle.gmpl_syntax.specs.declared.expression.Expr.{Expr, out-Expr}
use Rattle.gmpl_syntax.specs.declared.expression.Component.{Component}
use Rattle.gmpl_syntax.specs.declared.expression.Component.TheVariants as c
use Rattle.gmpl_syntax.specs.declared.expression.Component.TheOpen.{Expr-F}
use Rattle.gmpl_syntax.specs.declared.expression.Entry.{Entry}
use Rattle.gmpl_syntax.specs.declared.expression.Indexing.{Indexing}
use Rattle.gmpl_syntax.specs.declared.expression.Link.{Link}

-- the root of an expression, as `out-Expr` opens it
abbrev pub Root : Type 0
Root = Expr-F Component Expr Entry Indexing Link

abbrev pub component_by : Root → Expr → Component
component_by (Expr-F.Named name [] None) part = c.Name name
component_by _ part = c.Value part

-- a name without subscripts and suffix is told from every other part
abbrev pub component : Expr → Component
component part = component_by (out-Expr part) part

abbrev pub all_components : List Expr → List Component
all_components parts = map component parts

abbrev pub components_by : Root → Expr → List Component
components_by (Expr-F.Group parts) index = all_components parts
components_by _ index = component index ∷ []

-- the parts of a group, or the expression alone
abbrev pub components : Expr → List Component
components index = components_by (out-Expr index) index
