use Rattle.std.proofs.Common.{◌<◌, length, refl, subst}
use Rattle.std.specs.List.{All}
use Rattle.milp.specs.Form.{Entry}
use Rattle.milp.specs.Problem.{Problem}
use Rattle.instance.proofs.Sums.{form_in_range}
use Rattle.instance.proofs.problem.Instance.objective.Goals as goal

pub returns-clause-places : goal.returns-clause-places
returns-clause-places c =
    subst (λ (p : Problem). All (λ (e : Entry). e.column < length p.columns) p.objective) c.self.view_is
    (form_in_range (length c.self.inside.columns.items) _ c.self.inside.objective refl c.self.invariant.well_formed.objective_form)
