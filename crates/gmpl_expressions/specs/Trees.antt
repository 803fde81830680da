-- What a tree is at its root.
use Rattle.std.specs.Prelude.{Bool, true, false, List, [], ◌∷◌, None, not}
use Rattle.gmpl_syntax.specs.declared.expression.Operator.{Operator}
use Rattle.gmpl_syntax.specs.declared.expression.Operator.TheVariants as o
use Rattle.gmpl_syntax.specs.declared.expression.Expr.{Expr, out-Expr}
use Rattle.gmpl_syntax.specs.declared.expression.Component.TheOpen.{Expr-F}
use Rattle.gmpl_syntax.specs.declared.expression.Link.{Link, out-Link}
use Rattle.gmpl_syntax.specs.Index.{Root}

abbrev pub is_logical_operator : Operator → Bool
is_logical_operator o.Or = true
is_logical_operator o.And = true
is_logical_operator _ = false

abbrev pub is_logical_chain : List Link → Bool
is_logical_chain [] = false
is_logical_chain (link ∷ links) = is_logical_operator (out-Link link).operator

-- what no E can be: `or`, `and`, `not`, or a relation
abbrev pub is_logical : Root → Bool
is_logical (Expr-F.Chain first links) = is_logical_chain links
is_logical (Expr-F.Compared relation left right) = true
is_logical (Expr-F.Not part) = true
is_logical _ = false

abbrev pub begins_logical : List Expr → Bool
begins_logical [] = false
begins_logical (first ∷ others) = is_logical (out-Expr first)

abbrev pub is_unsubscripted : List Expr → Bool
is_unsubscripted [] = true
is_unsubscripted (first ∷ others) = false

-- a name alone
abbrev pub is_name : Root → Bool
is_name (Expr-F.Named name subscripts None) = is_unsubscripted subscripts
is_name _ = false

-- what may stand before `in` between braces: a name alone, or E { "," E }* in parentheses
abbrev pub is_index : Root → Bool
is_index (Expr-F.Named name subscripts None) = is_unsubscripted subscripts
is_index (Expr-F.Group parts) = not (begins_logical parts)
is_index _ = false
