-- Equal numbers are the same.
use Rattle.std.proofs.Common.{◌∙◌, sym, ap}
use Rattle.rational.proofs.Laws.{same_true}
use Rattle.gmpl_resolved.specs.declared.expression.Expr.TheVariants as e
use Rattle.gmpl_same.proofs.parts.is_number.Goals as goal

pub returns-in-Number : goal.returns-in-Number
returns-in-Number c = λ yes. c.in-Number.is ∙ ap e.Number (same_true c.in-Number.own c.args.number (sym c.eq.ensures ∙ yes))
