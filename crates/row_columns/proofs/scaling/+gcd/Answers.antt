use Rattle.std.proofs.Common.{◌∙◌, sym, ap}
use Rattle.integer.specs.Gcd.{gcd}
use Rattle.integer.proofs.Laws.{gcd_step, gcd_end}
use Rattle.row_columns.proofs.scaling.+gcd.Goals as goal

pub returns-then-b-eq0 : goal.returns-then-b-eq0
returns-then-b-eq0 t c = sym (gcd_end c.args.a) ∙ ap (λ n. gcd c.args.a n) (sym c.if-b-eq0.true)

pub returns-else-b-eq0 : goal.returns-else-b-eq0
returns-else-b-eq0 t c = c.gcd.ensures ∙ gcd_step c.args.a c.args.b
