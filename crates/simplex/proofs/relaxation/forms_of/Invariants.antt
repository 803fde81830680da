use Rattle.std.proofs.Common.{◌≡◌, take, map}
use Rattle.milp.specs.Problem.{Row}
use Rattle.simplex.proofs.relaxation.forms_of.Given as goal

abbrev pub invariant-loop-row : goal.invariant-loop-row
invariant-loop-row l = l.forms.items ≡ map (λ (r : Row). r.entries) (take l.row-index l.rows)
